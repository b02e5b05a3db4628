-- What index.txt says, by what was found at its name.
use Rattle.std.proofs.Common.{◌≡◌, ℕ, suc, ◌<◌, List, [], ◌∷◌, get_or, Option, None, Some, refl, sym, ap, ◌∙◌, subst}
use Rattle.std.specs.Prelude.{Result, Ok, Err, IfSome}
use Rattle.std.specs.List.{AllByRecursion}
use Rattle.std.specs.Option.{option_map}
use Rattle.std.specs.FinMap as finite
use Rattle.base.specs.Answers.{◌>>=◌}
use Rattle.folders.specs.Folders.{Files, Finds}
use Rattle.commands.specs.DirectoryFiles.{index_name}
use Rattle.schema.specs.Conf.{Conf}
use Rattle.tree.specs.Directories.{Entries}
use Rattle.stored_index.specs.Rows.{IsByte}
use Rattle.filter.specs.Made.{Made}
use Rattle.index_text.specs.declared.slot_key.SlotKey.{SlotKey}
use Rattle.candidates.specs.Asked.{asked_keys, ShowAlike}
use Rattle.candidates.specs.Candidates.{prepared_of}
use Rattle.stored_index.specs.Reading.{rows_in}
use Rattle.stored_index.specs.Stored.{Stored, index_in, stored, shown_by, ShowsKeys}
use Rattle.stored_index.specs.declared.fault.IndexFaultKind.{IndexFaultKind}
use Rattle.databases.specs.IndexTexts.{index_rows, index_text, stamp}
use Rattle.databases.specs.Searches.{ReflectsDump, ShowsIndexText, ShowsTo}
use Rattle.index_text.specs.Postings.{Shown, slot_in}
use Rattle.commands.specs.Failures.{FailsToRead}
use Rattle.commands.specs.IndexFiles.{Said, SaysOf}
use Rattle.commands.specs.inner.IndexFiles.{IsTrue, Says, IsKindOf, IsWhole, IsNoIndex}
use Rattle.commands.specs.declared.index_file.IndexFile.{IndexFile}
use Rattle.commands.specs.declared.index_file.IndexFile.TheVariants as files
use Rattle.tree.specs.Trees.{Tree}
use Rattle.commands.specs.declared.messages.CommandFault.{CommandFault}

-- what was read to its end is what stands there
pub read_so : (files : Option Files) (name : List ℕ) (left : Option (List ℕ)) (text : List ℕ) → Finds files name (Some left) → IfSome left (λ bytes. text ≡ bytes) → Finds files name (Some (Some text))
read_so None name left text finds is = tt
read_so (Some m) name None text finds is = by (finite.get m name) finds
  where
    by : (o : Option (List ℕ)) → Some None ≡ option_map (λ bytes. Some bytes) o → Some (Some text) ≡ option_map (λ bytes. Some bytes) o
    by None h = cc
    by (Some bytes) h = cc
read_so (Some m) name (Some bytes) text finds is = ap (λ (b : List ℕ). Some (Some b)) is ∙ finds

pub named_so : (files : Option Files) (db name : List ℕ) (found : Option (Option (List ℕ))) → name ≡ index_name db → Finds files name found → Finds files (index_name db) found
named_so files db name found is = subst (λ (n : List ℕ). Finds files n found) is

pub unread_so : (db name : List ℕ) (f : CommandFault) → name ≡ index_name db → FailsToRead name f → FailsToRead (index_name db) f
unread_so db name f is = subst (λ (n : List ℕ). FailsToRead n f) is

-- the text of the file, and what it is read as
pub said_so : (files : Option Files) (db : List ℕ) (conf : Conf) (d : Entries) (text : List ℕ) (answer : Result Stored IndexFaultKind) → Finds files (index_name db) (Some (Some text))
    → index_in conf (finite.len d) (stamp conf d) text ≡ answer → SaysOf files db conf d (Some answer)
said_so files db conf d text answer there is = record { text = Some text; there = there; says = ap (λ (r : Result Stored IndexFaultKind). Some r) (sym is) }

-- an index has the configuration that it was read under
under : {X : Type 0} (made : X → Stored) (conf : Conf) (whole : Stored) → ((x : X) → (made x).conf ≡ conf) → (rows : Result X IndexFaultKind) → (rows >>= λ x. Ok (made x)) ≡ Ok whole → whole.conf ≡ conf
under {X} made conf whole has (Ok x) is = let same : made x ≡ whole = cc in ap (λ (s : Stored). s.conf) (sym same) ∙ has x
under {X} made conf whole has (Err fault) is = cc

pub read_under : (conf : Conf) (entries : ℕ) (stamp' text : List ℕ) (whole : Stored) → index_in conf entries stamp' text ≡ Ok whole → whole.conf ≡ conf
read_under conf entries stamp' text whole = under (stored conf) conf whole (λ rows. refl) (rows_in conf entries stamp' text)

-- a part that shows the keys that a filter asks for shows to it what the whole shows
pub shows_to : (f : Made) (conf : Conf) (asked : List SlotKey) (whole part : Stored) → asked ≡ asked_keys (slot_in conf.slots) (prepared_of f) → whole.conf ≡ conf → ShowsKeys asked whole part
    → ShowsTo f (shown_by part) (shown_by whole)
shows_to f conf asked whole part are under shows = record {
  slots = λ t kind. ap (λ (conf : Conf). slot_in conf.slots t kind) shows.conf;
  keys = subst (λ (keys : List SlotKey). ShowAlike (shown_by part) (shown_by whole) keys) (are ∙ ap (λ (conf : Conf). asked_keys (slot_in conf.slots) (prepared_of f)) (sym under)) shows.keys;
}

-- what is kept of it for a filter is of its kind, and so is what is kept whole
pub kind_kept : (f : Made) (file : IndexFile) (said : Said) → Says f file said → IsKindOf file said
kind_kept f files.Missing said says = says
kind_kept f (files.Read part) said says = (says.0, says.1)
kind_kept f (files.Faulty fault) said says = says

pub kind_whole : (t : Tree) (file : IndexFile) (said : Said) → IsWhole t file said → IsKindOf file said
kind_whole t files.Missing said says = says
kind_whole t (files.Read whole) said says = (whole, says.0)
kind_whole t (files.Faulty fault) said says = says

-- where it is kept whole and no index, it says none
pub none_whole : (said : Said) → said ≡ None → IsNoIndex said
none_whole said is = subst IsNoIndex (sym is) tt

pub faulty_whole : (fault : IndexFaultKind) (said : Said) → said ≡ Some (Err fault) → IsNoIndex said
faulty_whole fault said is = subst IsNoIndex (sym is) tt

-- what is kept whole shows to every filter what it shows
alike : (shown : Shown) (keys : List SlotKey) → ShowAlike shown shown keys
alike shown [] = tt
alike shown (key ∷ keys) = (refl, alike shown keys)

pub shows_itself : (f : Made) (whole : Stored) → ShowsTo f (shown_by whole) (shown_by whole)
shows_itself f whole = record { slots = λ t kind. refl; keys = alike (shown_by whole) (asked_keys (shown_by whole).slot_of (prepared_of f)) }

-- what the text of the directory's own index is read as has each entry under exactly its keys
pub true_so : (conf : Conf) (d : Entries) (x : Stored) → index_in conf (finite.len d) (stamp conf d) (index_text conf d) ≡ Ok (stored conf (index_rows conf d))
    → ShowsIndexText (shown_by (stored conf (index_rows conf d))) conf d → ((shown : Shown) → ShowsIndexText shown conf d → ReflectsDump shown conf.types d) → IsTrue conf d (Some (Ok x))
true_so conf d x read shows reflect y is own =
    let same : stored conf (index_rows conf d) ≡ y = let k : Some (Ok y) ≡ Some (Ok (stored conf (index_rows conf d))) = sym is ∙ own ∙ ap (λ (r : Result Stored IndexFaultKind). Some r) read in cc in
    subst (λ (y : Stored). ReflectsDump (shown_by y) conf.types d) same (reflect (shown_by (stored conf (index_rows conf d))) shows)

-- what is no index is none of that
pub none_true : (conf : Conf) (d : Entries) → IsTrue conf d None
none_true conf d x is = absurd cc

pub faulty_true : (conf : Conf) (d : Entries) (fault : IndexFaultKind) → IsTrue conf d (Some (Err fault))
faulty_true conf d fault x is = absurd cc

-- the answer to a call with other names for the same things
pub answered : (conf conf' : Conf) (d : Entries) (count : ℕ) (stamp' text : List ℕ) (answer : Result Stored IndexFaultKind) → conf ≡ conf' → count ≡ finite.len d → stamp' ≡ stamp conf d
    → index_in conf' count stamp' text ≡ answer → index_in conf (finite.len d) (stamp conf d) text ≡ answer
answered conf conf' d count stamp' text answer same_conf same_count same_stamp is = (λ i. index_in (same_conf i) (sym same_count i) (sym same_stamp i) text) ∙ is

pub each_byte : (bs : List ℕ) → ((i : ℕ) → get_or bs i 0 < 256) → AllByRecursion IsByte bs
each_byte [] each = tt
each_byte (b ∷ bs) each = (each 0, each_byte bs (λ i. each (suc i)))

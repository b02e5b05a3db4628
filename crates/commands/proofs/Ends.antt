-- What is printed of a directory that was loaded.
use Rattle.std.proofs.Common.{◌≡◌, ℕ, Bool, true, false, nat_lt, inl, inr, List, map, Option, Some, None, refl, sym, ap, ◌∙◌, subst, Bor}
use Rattle.std.specs.Prelude.{Result, Ok, Err, IfErr, is_some, codes}
use Rattle.std.specs.Option.{option_copied, option_map}
use Rattle.std.specs.FinMap as finite
use Rattle.std.proofs.lemmas.List.{length-map}
use Rattle.device.specs.Device.{Written, Took}
use Rattle.ldif.specs.declared.write.WriteFault.{WriteFault}
use Rattle.ldif.specs.Written.{Writes, end_of}
use Rattle.paths.specs.Paths.{Path}
use Rattle.schema.specs.Conf.{Conf}
use Rattle.schema.specs.declared.code.Code.TheVariants.{NoSuchObject}
use Rattle.entries.specs.Entries.{EntryContent}
use Rattle.entries.specs.declared.refusal.Refusal.{Refusal}
use Rattle.entries.specs.declared.refusal.Refusal.TheVariants as refusals
use Rattle.tree.specs.Directories.{Entries}
use Rattle.tree.specs.Trees.{Tree}
use Rattle.filter_text.specs.Spells.{view}
use Rattle.filter_text.specs.declared.filters.Filter.{Filter}
use Rattle.filter.specs.Made.{Made}
use Rattle.index_text.specs.Postings.{Shown}
use Rattle.paths.specs.declared.scope.Scope.{Scope}
use Rattle.databases.specs.Runs.{dump_to, LoadsBackAt}
use Rattle.databases.specs.Scanned.{scan, scan_among}
use Rattle.stored_index.specs.Stored.{Stored, shown_by}
use Rattle.stored_index.specs.declared.fault.IndexFaultKind.{IndexFaultKind}
use Rattle.databases.specs.Searches.{IsRefused, may_by_rank, ShowsTo, ReflectsDump, ShowsIndexText}
use Rattle.databases.specs.Found.{WritesFound, goes_past}
use Rattle.commands.specs.Asked.{IsFilter, IsBase}
use Rattle.commands.specs.Failures.{FailsToWrite}
use Rattle.folders.specs.Folders.{Files}
use Rattle.commands.specs.Loaded.{IsLoaded}
use Rattle.commands.specs.IndexFiles.{Said, found_by}
use Rattle.commands.specs.Prints.{HasPut, IsExcerpt, IsMovedText, cat_wanted}
use Rattle.commands.specs.Queries.{Wanted, Basis, HasBasis, Begins, HasBegun, PrintsPartly, CannotMove, IsRefusedWith}
use Rattle.commands.specs.Worlds.{World}
use Rattle.commands.specs.inner.IndexFiles.{Says, Keeps, Serves, IsNoIndex}
use Rattle.commands.specs.inner.Printed.{HasPrinted, scanned, found, query_text, scanned_text, AreFound, IsTextOf, FailsToFind, PrintsFound}
use Rattle.commands.specs.inner.Moving.{IsMoved}
use Rattle.commands.specs.inner.Refusals.{refusal_fault, RefusesOrBreaks, MovesNot}
use Rattle.commands.specs.inner.Sought.{excerpt_query}
use Rattle.commands.specs.inner.Views.{basis_of}
use Rattle.commands.specs.inner.WriteFaults.{TellsWriteFault}
use Rattle.commands.specs.declared.index_file.IndexFile.TheVariants as kept_files
use Rattle.commands.specs.declared.messages.CommandFault.{CommandFault}
use Rattle.commands.specs.declared.query.Query.{Query}
use Rattle.command_line.specs.declared.request.CatOptions.{CatOptions}
use Rattle.commands.proofs.IndexTold.{shows_itself}
use Rattle.commands.proofs.Stopping.{unwritten_prints, write_told, begun_told, refuses_more, refused_prints}

-- ---- texts

-- what holds of the filter and the directory, holds of those that are asked for
module _ (q : Wanted) (files : Option Files) (basis : Basis) (spelled : IsFilter q.filter basis.filter) (loaded : IsLoaded files q.db basis.conf basis.entries) where
  pub has_basis : (Holds : Basis → Type 0) → Holds basis → HasBasis q files Holds
  has_basis Holds so = record { basis = basis; filter_is = spelled; loaded = loaded; so = so }

-- what is said of a text holds of one of which more is known
module _ (IsText IsText' : List ℕ → Type 0) (goes : (text : List ℕ) → IsText text → IsText' text) where
  pub put_more : (db : List ℕ) (file : Option (List ℕ)) (w w' : World) → HasPut IsText db file w w' → HasPut IsText' db file w w'
  put_more db file w w' put = record { text = put.text; is = goes put.text put.is; put = put.put }

  pub printed_more : (a b : Written) → HasPrinted IsText a b → HasPrinted IsText' a b
  printed_more a b printed = record { text = printed.text; is = goes printed.text printed.is; took = printed.took }

-- such a text was begun
pub text_begun : {A : Type 0} (IsText : List ℕ → Type 0) (file : Option (List ℕ)) (text : List ℕ) → IsText text → (answer : Result A CommandFault) (target : List ℕ) (a b : Written)
    → IfErr answer (FailsToWrite target) → IfErr answer (λ f. Begins file f a b text) → IfErr answer (PrintsPartly (HasBegun IsText file) a b)
text_begun {A} IsText file text is (Ok x) target a b fails begins = tt
text_begun {A} IsText file text is (Err f) target a b fails begins = unwritten_prints (HasBegun IsText file) a b target f fails (record { text = text; is = is; begins = begins })

-- ---- an excerpt

-- what was found at the base stands there
pub found_there : {A : Type 0} (t t' : Tree) (base : Path) (as_content : A → EntryContent) (found : Option A) → t' ≡ t → option_map as_content found ≡ finite.get t'.entries base → is_some found ≡ true
    → finite.contains_key t.entries base ≡ true
found_there {A} t t' base as_content None same is some = cc
found_there {A} t t' base as_content (Some x) same is some = subst (λ (t : Tree). finite.contains_key t.entries base ≡ true) same (ap is_some (sym is))

-- the text of what a scan lends from the base on, which is there
pub scanned_is : (q : Query) (t t' : Tree) (es : List (Path × EntryContent)) → t' ≡ t → es ≡ scan t'.conf t'.entries q.base q.scope (view q.filter.filter) → true ≡ finite.contains_key t'.entries q.base
    → query_text q t es ≡ scanned_text q t
scanned_is q t t' es same found there =
    let is : es ≡ scanned q t = found ∙ ap (scanned q) same in
    let has : finite.contains_key t.entries q.base ≡ true = sym (there ∙ ap (λ (t : Tree). finite.contains_key t.entries q.base) same) in
    rw (has, is) refl

-- what was found was written, as a text with no more
pub found_written : (answer : Result Bool WriteFault) (wanted : Bool) (a b : Written) (bytes text : List ℕ) → bytes ≡ text → WritesFound answer wanted a b bytes → Writes (end_of answer) a b text
found_written (Ok past) wanted a b bytes text is h = subst (Took a b) is h.written
found_written (Err fault) wanted a b bytes text is h = subst (Writes (Err fault) a b) is h

-- the excerpt by a query is the one that is asked for
pub excerpt_by : (asked : CatOptions) (filter : Filter) (t : Tree) (q : Query) → IsBase t.conf (option_copied asked.base) q.base → (is_some asked.base ≡ true → finite.contains_key t.entries q.base ≡ true)
    → q ≡ excerpt_query t.conf filter q.base asked.width → IsExcerpt asked (basis_of filter t) (scanned_text q t)
excerpt_by asked filter t q based there is = record { base = q.base; base_is = based; there = there; text_is = ap (λ (q : Query). scanned_text q t) is }

-- ---- what a query finds

-- the text of what was found
found_so : (q : Query) (said : Said) (t : Tree) (es : List (Path × EntryContent)) → AreFound q said t es → (past : Bool) → past ≡ goes_past q.limit es → IsTextOf q said t past (query_text q t es)
found_so q said t es h past past_is = record { there = h.there; past_is = past_is ∙ ap (goes_past q.limit) h.are; text_is = ap (query_text q t) h.are; whole = h.whole }

-- whether there are more, doesn't depend on what is seen of each
past_seen : {A B : Type 0} (see : A → B) (limit : Option ℕ) (xs : List A) → goes_past limit xs ≡ goes_past limit (map see xs)
past_seen {A} {B} see None xs = refl
past_seen {A} {B} see (Some n) xs = ap (nat_lt n) (sym (length-map xs see))

-- what was found was printed, or a beginning of it
module _ {X : Type 0} (see : X → Path × EntryContent) (q : Query) (said : Said) (t : Tree) (xs : List X) (are : AreFound q said t (map see xs)) where
  so : (past : Bool) → past ≡ goes_past q.limit (map see xs) → IsTextOf q said t past (query_text q t (map see xs))
  so = found_so q said t (map see xs) are

  pub hits_printed : (past : Bool) (a b : Written) → WritesFound (Ok past) (goes_past q.limit xs) a b (query_text q t (map see xs)) → PrintsFound q said t a b (Ok past)
  hits_printed past a b h = record { text = query_text q t (map see xs); is = so past (h.past_is ∙ past_seen see q.limit xs); took = h.written }

  pub hits_begun : (fault : WriteFault) (f : CommandFault) (a b : Written) → TellsWriteFault fault f → Writes (Err fault) a b (query_text q t (map see xs)) → PrintsFound q said t a b (Err f)
  hits_begun fault f a b tells h = (
    inr (write_told fault f tells),
    unwritten_prints (HasBegun (λ text. (past : Bool) × IsTextOf q said t past text) None) a b (codes "output") f (write_told fault f tells) (record {
      text = query_text q t (map see xs);
      is = (goes_past q.limit (map see xs), so (goes_past q.limit (map see xs)) refl);
      begins = begun_told fault f a b (query_text q t (map see xs)) tells h;
    }),
  )

-- the base isn't there, or memory ran out, and nothing was printed
pub none_found : (q : Query) (said : Said) (t : Tree) (a : Written) (f : CommandFault) → FailsToFind q t f → PrintsFound q said t a a (Err f)
none_found q said t a f fails =
    (inl fails, refused_prints (HasBegun (λ text. (past : Bool) × IsTextOf q said t past text) None) a a refl (codes "search") (λ code. (finite.contains_key t.entries q.base ≡ false) × (code ≡ NoSuchObject)) f fails)

-- so a search by an index is refused
pub refused_so_by_index : (q : Query) (t : Tree) (command : Bor (List ℕ)) (refusal : Refusal) → command.now ≡ codes "search" → IsRefused t.entries q.base refusal
    → FailsToFind q t (refusal_fault command refusal)
refused_so_by_index q t command (refusals.Code code) named h = (named, (h.1, h.0))
refused_so_by_index q t command refusals.OutOfMemory named h = tt

-- what is found by what an index shows, for a filter that was prepared under the configuration of the tree
by_index : (f : Made) (t : Tree) (x : Stored) (base : Path) (scope : Scope) → f.conf ≡ t.conf
    → scan_among t.conf t.entries (may_by_rank (shown_by x) f t) base scope (view f.filter) ≡ found_by (Some (Ok x)) t.conf t.entries base scope (view f.filter)
by_index f t x base scope same = ap (λ (conf : Conf). scan_among t.conf t.entries (may_by_rank (shown_by x) (record { conf = conf; filter = f.filter }) t) base scope (view f.filter)) same

-- what a search by a part of an index found in a tree
pub record FoundIn (q : Query) (part : Stored) (es : List (Path × EntryContent)) (t : Tree) (conf : Conf) : Type 0 where
  pub there : finite.contains_key t.entries q.base ≡ true
  pub found : es ≡ scan_among t.conf t.entries (may_by_rank (shown_by part) q.filter t) q.base q.scope (view q.filter.filter)
  pub same : (whole : Shown) → ShowsTo q.filter (shown_by part) whole → may_by_rank (shown_by part) q.filter t ≡ may_by_rank whole q.filter t
  pub all : (whole : Shown) → ShowsTo q.filter (shown_by part) whole → ReflectsDump whole conf.types t.entries → es ≡ scan conf t.entries q.base q.scope (view q.filter.filter)

-- it found that in the tree that was handed out
pub found_in : (q : Query) (part : Stored) (es : List (Path × EntryContent)) (t t' : Tree) (conf : Conf) → t' ≡ t → conf ≡ t.conf → FoundIn q part es t' conf → FoundIn q part es t t.conf
found_in q part es t t' conf same same_conf h = subst (FoundIn q part es t) same_conf (subst (λ (t : Tree). FoundIn q part es t conf) same h)

-- by the part of it that was kept
module _ (q : Query) (t : Tree) (part : Stored) (es : List (Path × EntryContent)) (prepared : q.filter.conf ≡ t.conf) (h : FoundIn q part es t t.conf) where
  found_by_said : (said : Said) (whole : Stored) → said ≡ Some (Ok whole) → ShowsTo q.filter (shown_by part) (shown_by whole) → es ≡ found q said t
  found_by_said said whole is shows =
      h.found
      ∙ ap (λ (may : Path → Bool). scan_among t.conf t.entries may q.base q.scope (view q.filter.filter)) (h.same (shown_by whole) shows)
      ∙ by_index q.filter t whole q.base q.scope prepared
      ∙ ap (λ (said : Said). found q said t) (sym is)

  pub found_by_part : (said : Said) → Keeps t q.filter (kept_files.Read part) said → AreFound q said t es
  found_by_part said kept =
      let whole = kept.says.0 in
      let is = kept.says.1 in
      let shows = kept.says.2 in
      let by_said = found_by_said said whole is shows in
      record { there = h.there; are = by_said; whole = λ own. sym by_said ∙ h.all (shown_by whole) shows (kept.is_true whole is own) }

-- without one
found_without : (q : Query) (t : Tree) (es : List (Path × EntryContent)) → finite.contains_key t.entries q.base ≡ true → es ≡ scanned q t → (said : Said) → IsNoIndex said → AreFound q said t es
found_without q t es there is None none = record { there = there; are = is; whole = λ own. refl }
found_without q t es there is (Some (Err fault)) none = record { there = there; are = is; whole = λ own. refl }
found_without q t es there is (Some (Ok whole)) none = absurd none

pub found_by_scan : (q : Query) (t t' : Tree) (es : List (Path × EntryContent)) → t' ≡ t → es ≡ scan t'.conf t'.entries q.base q.scope (view q.filter.filter) → true ≡ finite.contains_key t'.entries q.base
    → (said : Said) → IsNoIndex said → AreFound q said t es
found_by_scan q t t' es same is there =
    found_without q t es (sym (there ∙ ap (λ (t : Tree). finite.contains_key t.entries q.base) same)) (is ∙ ap (scanned q) same)

-- what is kept of an index text that isn't there, or is at fault, says no index
pub says_no_index : (f : Made) (fault : IndexFaultKind) (said : Said) → Says f (kept_files.Faulty fault) said → IsNoIndex said
says_no_index f fault said is = subst IsNoIndex (sym is) tt

pub says_nothing : (f : Made) (said : Said) → Says f kept_files.Missing said → IsNoIndex said
says_nothing f said is = subst IsNoIndex (sym is) tt

-- by an index for every filter: the one that index.txt is, or the directory's own
pub found_ranked : (q : Query) (t : Tree) (index : Stored) (es : List (Path × EntryContent)) → q.filter.conf ≡ t.conf → FoundIn q index es t t.conf
    → (ShowsIndexText (shown_by index) t.conf t.entries → es ≡ scanned q t)
    → (said : Said) → Serves t (Some index) said → AreFound q said t es
found_ranked q t index es prepared h own said (inl whole) = found_by_part q t index es prepared h said (record { says = (index, whole.0, shows_itself q.filter index); is_true = whole.1 })
found_ranked q t index es prepared h own said (inr serves) = found_without q t es h.there (own serves.1) said serves.0

-- what a search found by it in the same tree
pub own_scanned : (q : Query) (t : Tree) (index : Stored) (es : List (Path × EntryContent)) (t' : Tree) (conf : Conf) → t' ≡ t → conf ≡ t.conf
    → (ShowsIndexText (shown_by index) conf t'.entries → es ≡ scan conf t'.entries q.base q.scope (view q.filter.filter))
    → ShowsIndexText (shown_by index) t.conf t.entries → es ≡ scanned q t
own_scanned q t index es t' conf same same_conf found =
    subst (λ (k : Conf). ShowsIndexText (shown_by index) k t.entries → es ≡ scan k t.entries q.base q.scope (view q.filter.filter)) same_conf
    (subst (λ (u : Tree). ShowsIndexText (shown_by index) conf u.entries → es ≡ scan conf u.entries q.base q.scope (view q.filter.filter)) same found)

-- ---- a directory under another suffix

-- the text of what was moved
pub moved_by : (width : ℕ) (name : List ℕ) (conf : Conf) (d : Entries) (t : Tree) → IsMoved name conf d t.conf t.entries → LoadsBackAt width t.conf t.entries → IsMovedText width name conf d (dump_to width t.conf t.entries)
moved_by width name conf d t is loads = record { new = t.conf; entries = t.entries; new_is = is.conf_is; entries_are = is.entries_are; text_is = refl; loads = loads }

-- under the suffix that is asked for, or none
module _ (asked : CatOptions) (conf : Conf) (d : Entries) (name : Bor (List ℕ)) (is : asked.suffix ≡ Some name) where
  pub refused_so : (f : CommandFault) → MovesNot name.now (option_copied asked.file) conf d f → RefusesOrBreaks (cat_wanted asked) conf d f
  refused_so f (inl refuses) =
      inl (refuses_more (codes "slapcat") (CannotMove (Some name.now) conf d) (IsRefusedWith (cat_wanted asked) conf d)
      (λ code moves. inr (subst (λ (o : Option (Bor (List ℕ))). CannotMove (option_copied o) conf d code) (sym is) moves)) f refuses)
  refused_so f (inr breaks) = inr breaks

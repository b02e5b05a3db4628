-- What slapadd and ldapmodify come to over files that are known.
use Rattle.std.proofs.Common.{◌≡◌, ℕ, List, Option, None, Some, refl, sym, ap, subst, ◌∙◌}
use Rattle.std.specs.Prelude.{Result, Ok, Err, IfSome}
use Rattle.std.specs.Option.{option_copied, option_map}
use Rattle.std.specs.FinMap as finite
use Rattle.device.specs.Device.{Seen, Written}
use Rattle.ldif_lines.specs.Records.{RawRecord, records}
use Rattle.schema.specs.Conf.{Conf}
use Rattle.tree.specs.Directories.{Entries}
use Rattle.databases.specs.Runs.{LoadsRecords}
use Rattle.databases.specs.Folds.{Over, Ran, Runs}
use Rattle.databases.specs.declared.runs.Tally.{Tally}
use Rattle.databases.specs.declared.runs.RunFault.{RunFault}
use Rattle.commands.specs.declared.changes.Task.{Task}
use Rattle.commands.specs.declared.messages.Status.{Status}
use Rattle.commands.specs.declared.messages.Stop.{Stop}
use Rattle.folders.specs.Folders.{Files, Finds, with_files}
use Rattle.commands.specs.Worlds.{World}
use Rattle.commands.specs.Loaded.{IsLoaded, LoadsFiles, LoadsFound, LoadsFile}
use Rattle.commands.specs.Changes.{IsSource, KnowsText, text_of, stored_by, RunsAndStores, Changes, ChangeGoesThrough, ChangeStops}
use Rattle.commands.specs.inner.Stopped.{HasEnded}

-- the records of a source are those of its text
of_text : {P : List RawRecord → Type 0} (bytes : List ℕ) → Over (Some (records bytes)) P → P (records bytes)
of_text {P} bytes h = subst P h.are h.so

-- what was found is what is there
opened : (there left : Option (List ℕ)) → Some left ≡ option_map (λ b. Some b) there → there ≡ left
opened None left e = cc
opened (Some bytes) left e = cc

loads_file : (conf : Conf) (there : Option (List ℕ)) (found : Option (Option (List ℕ))) (d : Entries) → found ≡ option_map (λ b. Some b) there → LoadsFound conf found d → LoadsFile conf there d
loads_file conf None None d e l = l
loads_file conf None (Some text) d e l = cc
loads_file conf (Some bytes) None d e l = cc
loads_file conf (Some bytes) (Some text) d e l =
    let is : text ≡ Some bytes = cc in
    of_text bytes (subst (λ (t : Option (List ℕ)). Over (option_map records t) (λ given. LoadsRecords conf finite.empty given d)) is l)

record HasText (there left : Option (List ℕ)) : Type 0 where
  bytes : List ℕ
  there_is : there ≡ Some bytes
  left_is : left ≡ Some bytes

of_file : (there left : Option (List ℕ)) → Some left ≡ option_map (λ b. Some b) there → HasText there left
of_file None left e = cc
of_file (Some bytes) left e = record { bytes = bytes; there_is = refl; left_is = cc }

of_input : (there left : Option (List ℕ)) → KnowsText None there → left ≡ there → HasText there left
of_input None left knows e = absurd knows
of_input (Some bytes) left knows e = record { bytes = bytes; there_is = refl; left_is = e }

has_text : (m : Files) (file : Option (List ℕ)) (w w' : World) (source source' : Seen) → w.files ≡ Some m → KnowsText file w.input.left → IsSource file w w' source source' → HasText (text_of m file w.input.left) source.left
has_text m None w w' source source' tells knows is = of_input w.input.left source.left knows (ap (λ (s : Seen). s.left) is.0)
has_text m (Some name) w w' source source' tells knows is = of_file (finite.get m name) source.left (subst (λ (fs : Option Files). Finds fs name (Some source.left)) tells is.0)

pub loads_files : (m : Files) (db : List ℕ) (conf : Conf) (d : Entries) → IsLoaded (Some m) db conf d → LoadsFiles m db conf d
loads_files m db conf d l = record {
  text = l.configured.text;
  there = opened _ _ l.configured.there;
  says = l.configured.says;
  loads = loads_file _ _ _ _ l.there l.loads;
}

-- what was done, where the files are these
changes : (task : Task) (m : Files) (w w' : World) (s : Status) → w.files ≡ Some m → RunsAndStores task w w' s → KnowsText (option_copied task.file) w.input.left → Changes task m w w' s
changes task m w w' s tells did knows =
    let run = did.run in
    let runs = did.runs in
    let has = has_text m (option_copied task.file) w did.mid runs.source runs.source' tells knows runs.source_is in
    let answered = subst (λ (r : Result Tally RunFault). Runs run.conf task.mode task.go_on run.old run.new (option_map records runs.source.left) r w.messages did.mid.messages) did.answer_is runs.ran.runs in
    let same : did.mid.files ≡ w.files = ap (λ (x : World). x.files) runs.ran.stays in
    let said : w'.messages ≡ did.mid.messages = ap (λ (x : World). x.messages) did.stores in
    record {
      run = run;
      loaded = loads_files _ _ _ _ (subst (λ (fs : Option Files). IsLoaded fs task.db.now run.conf run.old) tells runs.loaded);
      text = has.bytes;
      text_is = has.there_is;
      tally = did.tally;
      ran = subst (λ (b : Written). Ran run.conf task.mode task.go_on run.old run.new (records has.bytes) did.tally w.messages b) (sym said)
          (of_text has.bytes (subst (λ (t : Option (List ℕ)). Over (option_map records t) (λ given. Ran run.conf task.mode task.go_on run.old run.new given did.tally w.messages did.mid.messages)) has.left_is answered));
      status = did.status;
      stored_is = ap (λ (x : World). x.files) did.stores ∙ ap (λ (fs : Option Files). with_files fs (stored_by task run)) (same ∙ tells);
    }

known : (task : Task) (w w' : World) (s : Status) (files : Option Files) → w.files ≡ files → RunsAndStores task w w' s → IfSome files (λ m. KnowsText (option_copied task.file) w.input.left → Changes task m w w' s)
known task w w' s None tells did = tt
known task w w' s (Some m) tells did = changes task m w w' s tells did

pub ended_known : (task : Task) (w w' : World) (r : Result Status Stop) → HasEnded (RunsAndStores task) (ChangeStops task) w w' r → HasEnded (ChangeGoesThrough task) (ChangeStops task) w w' r
ended_known task w w' (Ok s) did = (did, known task w w' s w.files refl did)
ended_known task w w' (Err why) stopped = stopped

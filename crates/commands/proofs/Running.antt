-- How slapadd and ldapmodify end, from what their parts say.
use Rattle.std.proofs.Common.{◌≡◌, ℕ, true, false, inl, inr, List, [], Option, None, Some, refl, sym, ap, subst, ◌∙◌}
use Rattle.std.specs.Prelude.{Ok, Err, if◌then◌else◌}
use Rattle.std.specs.Option.{option_copied}
use Rattle.device.specs.Device.{Seen}
use Rattle.schema.specs.Conf.{Conf}
use Rattle.tree.specs.Directories.{Entries}
use Rattle.databases.specs.declared.runs.Tally.{Tally}
use Rattle.databases.specs.declared.runs.RunFault.{RunFault}
use Rattle.commands.specs.Changes.{Run, RunsInput, RunsSource, IsSource, stored_by, HasNoSource, Breaks, source_name, ChangeStops}
use Rattle.folders.specs.Folders.{File, Files, Finds, with_files}
use Rattle.commands.specs.Loaded.{IsLoaded}
use Rattle.commands.specs.Stored.{kept_files}
use Rattle.commands.specs.Worlds.{World}
use Rattle.commands.specs.inner.Stopped.{HasStopped}
use Rattle.commands.specs.inner.Stores.{StoresPartly}
use Rattle.commands.specs.declared.changes.Task.{Task}
use Rattle.commands.specs.declared.messages.CommandFault.{CommandFault}
use Rattle.commands.specs.declared.messages.Stop.{Stop}
use Rattle.commands.specs.declared.messages.Stop.TheVariants as stops
use Rattle.commands.proofs.Stopping.{stopped}
use Rattle.commands.proofs.StoredFiles.{fails_partly}

-- ---- the run

module _ (task : Task) (run : Run) (w w' : World) (loaded : IsLoaded w.files task.db.now run.conf run.old) where
  -- the source is the input
  pub of_input : option_copied task.file ≡ None → RunsInput task run w w' → RunsSource task run w w'
  of_input none ran = record {
    loaded = loaded;
    source = w.input;
    source' = w'.input;
    source_is = subst (λ (file : Option (List ℕ)). IsSource file w w' w.input w'.input) (sym none) (refl, refl);
    ran = ran;
  }

  -- it is a file
  pub of_file : (name : List ℕ) (source source' : Seen) → option_copied task.file ≡ Some name → Finds w.files name (Some source.left) → w'.input ≡ w.input
      → RunsInput task run (record w { input = source }) (record w' { input = source' }) → RunsSource task run w w'
  of_file name source source' some finds same ran = record {
    loaded = loaded;
    source = source;
    source' = source';
    source_is = subst (λ (file : Option (List ℕ)). IsSource file w w' source source') (sym some) (finds, same);
    ran = ran;
  }

-- the file can't be opened
pub not_opened : (task : Task) (w : World) (conf : Conf) (d : Entries) (why : Stop) → IsLoaded w.files task.db.now conf d → HasNoSource (option_copied task.file) why → HasStopped (ChangeStops task) w w why
not_opened task w conf d why loaded none =
    stopped (ChangeStops task) w w why (inr (inl (record { conf = conf; entries = d; loaded = loaded; why = none; at_once = record { stored = refl; world = refl } }))) refl

-- the run was broken off
pub broken_off : (task : Task) (run : Run) (w w' : World) (fault : RunFault) (why : Stop) → run.answer ≡ Err fault → RunsSource task run w w' → Breaks fault (source_name (option_copied task.file)) why → HasStopped (ChangeStops task) w w' why
broken_off task run w w' fault why is runs breaks =
    stopped (ChangeStops task) w w' why (inr (inr (inl (record { run = run; fault = fault; answer_is = is; runs = runs; why = breaks; stored = refl })))) (ap (λ (x : World). x.files) runs.ran.stays)

-- ---- the store

module _ (task : Task) (run : Run) where
  -- in a dry run nothing is stored
  pub dry_stores : (w : World) → task.dry_run ≡ true → w ≡ record w { files = with_files w.files (stored_by task run) }
  dry_stores w dry = ap (λ b. record w { files = with_files w.files (if b then [] else kept_files task.db.now run.conf run.new) }) (sym dry)

  pub stores : (w : World) (files : Option Files) (conf : Conf) → task.dry_run ≡ false → conf ≡ run.conf → files ≡ with_files w.files (kept_files task.db.now conf run.new)
      → record w { files = files } ≡ record w { files = with_files w.files (stored_by task run) }
  stores w files conf wet same is =
      ap (λ (fs : Option Files). record w { files = fs })
      (is ∙ ap (λ (k : Conf). with_files w.files (kept_files task.db.now k run.new)) same ∙ ap (λ b. with_files w.files (if b then [] else kept_files task.db.now run.conf run.new)) (sym wet))

  -- it fails
  pub not_stored : (tally : Tally) (w mid w' : World) (conf : Conf) (f : CommandFault) → run.answer ≡ Ok tally → RunsSource task run w mid → task.dry_run ≡ false → conf ≡ run.conf
      → StoresPartly (kept_files task.db.now conf run.new) mid.files w'.files f → w' ≡ record mid { files = w'.files } → HasStopped (ChangeStops task) w w' (stops.Fault f)
  not_stored tally w mid w' conf f is runs wet same partly stays =
      let files : kept_files task.db.now conf run.new ≡ stored_by task run = ap (λ (k : Conf). kept_files task.db.now k run.new) same ∙ ap (λ b. if b then [] else kept_files task.db.now run.conf run.new) (sym wet) in
      let p = subst (λ (fs : List File). StoresPartly fs mid.files w'.files f) files partly in
      record {
        stored = p.stored;
        comes = inr (inr (inr (record { run = run; tally = tally; answer_is = is; mid = mid; runs = runs; fails = fails_partly (stored_by task run) mid w' f p stays })));
        files = p.after_is ∙ ap (λ (x : World). with_files x.files p.stored) runs.ran.stays;
      }

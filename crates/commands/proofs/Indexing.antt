-- How slapindex ends.
use Rattle.std.proofs.Common.{◌≡◌, inl, inr, [], ◌∷◌, Option, None, Some, refl, ap}
use Rattle.std.specs.Prelude.{IfSome}
use Rattle.schema.specs.Conf.{Conf}
use Rattle.tree.specs.Directories.{Entries}
use Rattle.command_line.specs.declared.request.IndexOptions.{IndexOptions}
use Rattle.folders.specs.Folders.{Files, with_files}
use Rattle.commands.specs.Indexing.{IndexesFiles, IndexGoesThrough, IndexStops}
use Rattle.commands.specs.Loaded.{IsLoaded, LoadFails}
use Rattle.commands.specs.Stored.{index_file}
use Rattle.commands.specs.Worlds.{World}
use Rattle.commands.specs.inner.Stopped.{HasStopped}
use Rattle.commands.specs.inner.Stores.{StoresPartly}
use Rattle.commands.specs.declared.messages.CommandFault.{CommandFault}
use Rattle.commands.specs.declared.messages.Status.TheVariants.{Done}
use Rattle.commands.specs.declared.messages.Stop.TheVariants as stops
use Rattle.commands.proofs.Known.{loads_files}
use Rattle.commands.proofs.Stopping.{stopped}
use Rattle.commands.proofs.StoredFiles.{fails_partly}

module _ (asked : IndexOptions) (w : World) where
  pub not_loaded : (f : CommandFault) → LoadFails w.files asked.db.now f → HasStopped (IndexStops asked) w w (stops.Fault f)
  not_loaded f fails = stopped (IndexStops asked) w w (stops.Fault f) (inl (fails, record { stored = refl; world = refl })) refl

  -- behind the load
  module _ (files : Option Files) (conf : Conf) (d : Entries) where
    known : (there : Option Files) → IsLoaded there asked.db.now conf d → files ≡ with_files there (index_file asked.db.now conf d ∷ []) → IfSome there (λ m. IndexesFiles asked m (record w { files = files }))
    known None loaded is = tt
    known (Some m) loaded is = record { conf = conf; entries = d; loaded = loads_files m asked.db.now conf d loaded; stored_is = is }

    pub indexed : IsLoaded w.files asked.db.now conf d → files ≡ with_files w.files (index_file asked.db.now conf d ∷ []) → IndexGoesThrough asked w (record w { files = files }) Done
    indexed loaded is = (
      record { conf = conf; entries = d; loaded = loaded; stores = ap (λ (fs : Option Files). record w { files = fs }) is; done = refl },
      known w.files loaded is,
    )

    pub not_indexed : (f : CommandFault) → IsLoaded w.files asked.db.now conf d → StoresPartly (index_file asked.db.now conf d ∷ []) w.files files f → HasStopped (IndexStops asked) w (record w { files = files }) (stops.Fault f)
    not_indexed f loaded p = record {
      stored = p.stored;
      comes = inr (record { conf = conf; entries = d; loaded = loaded; fails = fails_partly (index_file asked.db.now conf d ∷ []) w (record w { files = files }) f p refl });
      files = p.after_is;
    }

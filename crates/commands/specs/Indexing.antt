-- What slapindex comes to: the index text that it leaves.
use Rattle.std.specs.Prelude.{◌≡◌, ◌⊎◌, [], ◌∷◌, IfSome, Some}
use Rattle.schema.specs.Conf.{Conf}
use Rattle.tree.specs.Directories.{Entries}
use Rattle.command_line.specs.declared.request.IndexOptions.{IndexOptions}
use Rattle.folders.specs.Folders.{Files, with_files}
use Rattle.commands.specs.Worlds.{World}
use Rattle.commands.specs.Endings.{StoppedAt, IsAtOnce, IsFault}
use Rattle.commands.specs.Loaded.{IsLoaded, LoadsFiles, LoadFails}
use Rattle.commands.specs.Stored.{index_file, FailsToStore}
use Rattle.commands.specs.declared.messages.Status.{Status}
use Rattle.commands.specs.declared.messages.Status.TheVariants.{Done}

-- ---- where it goes through

-- a directory was loaded, index.txt is the text of its index, and no other file changed
pub record StoresIndex (asked : IndexOptions) (w w' : World) (s : Status) : Type 0 where
  pub conf : Conf
  pub entries : Entries
  pub loaded : IsLoaded w.files asked.db.now conf entries
  pub stores : w' ≡ record w { files = with_files w.files (index_file asked.db.now conf entries ∷ []) }
  pub done : s ≡ Done

-- the directory is the one that dir.conf and data.ldif say, where these are the files
pub record IndexesFiles (asked : IndexOptions) (m : Files) (w' : World) : Type 0 where
  pub conf : Conf
  pub entries : Entries
  pub loaded : LoadsFiles m asked.db.now conf entries
  pub stored_is : w'.files ≡ with_files (Some m) (index_file asked.db.now conf entries ∷ [])

abbrev pub IndexGoesThrough : IndexOptions → World → World → Status → Type 0
IndexGoesThrough asked w w' s = StoresIndex asked w w' s × IfSome w.files (λ m. IndexesFiles asked m w')

-- ---- where it stops

-- a directory was loaded, and then index.txt couldn't be written
pub record IndexIsNotStored (asked : IndexOptions) (w : World) (at : StoppedAt) : Type 0 where
  pub conf : Conf
  pub entries : Entries
  pub loaded : IsLoaded w.files asked.db.now conf entries
  pub fails : FailsToStore (index_file asked.db.now conf entries ∷ []) w at

-- or none was loaded
abbrev pub IndexStops : IndexOptions → World → StoppedAt → Type 0
IndexStops asked w at = (IsFault (LoadFails w.files asked.db.now) at.why × IsAtOnce w at) ⊎ IndexIsNotStored asked w at

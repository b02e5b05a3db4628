-- A directory under another suffix, as it was made.
use Rattle.std.specs.Prelude.{◌≡◌, ℕ, List, Ok}
use Rattle.schema.specs.Conf.{Conf}
use Rattle.tree.specs.Directories.{Entries}
use Rattle.suffixes.specs.Configurations.{conf_under}
use Rattle.suffixes.specs.MovedDirectories.{move_by, moved_directory}

-- from this configuration and these entries to those
pub record IsMoved (name : List ℕ) (conf : Conf) (d : Entries) (new : Conf) (moved : Entries) : Type 0 where
  pub conf_is : conf_under conf name ≡ Ok new
  pub entries_are : moved_directory (move_by conf new name d) ≡ Ok moved

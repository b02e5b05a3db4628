-- What each entry becomes under another suffix.
use Rattle.std.specs.Prelude.{◌≡◌, true, [], ◌∷◌, ◌++◌, Some, Ok}
use Rattle.std.specs.FinMap as finite
use Rattle.paths.specs.Paths.{RdnKey, Path}
use Rattle.schema.specs.Conf.{root_rdn}
use Rattle.entries.specs.Entries.{EntryContent}
use Rattle.entries.specs.Modifies.{rename_entry}
use Rattle.tree.specs.Directories.{Entries}
use Rattle.suffixes.specs.MovedDirectories.{Move, moved_attributes}

-- an entry with its values of DN syntax moved
abbrev pub moved_entry : Move → EntryContent → EntryContent
moved_entry m e = record { rdn = e.rdn; attrs = moved_attributes m.conf m.name e.attrs }

-- the entry of the suffix, with its values moved, is given the new suffix's RDN, and the old one's values go (RFC 4511, 4.9, deleteoldrdn)
pub record IsRenamed (m : Move) (e : EntryContent) (moved : Entries) : Type 0 where
  pub entry : EntryContent
  pub there : finite.get moved [] ≡ Some entry
  pub renamed : rename_entry m.new (moved_entry m e) (root_rdn m.new) true ≡ Ok entry

-- entries stand at the same paths, those below the suffix's with their values moved and their RDNs as they were
pub record AreMoved (m : Move) (moved : Entries) : Type 0 where
  pub same_paths : (p : Path) → finite.contains_key moved p ≡ finite.contains_key m.entries p
  pub below : (p : Path) (s : RdnKey) (e : EntryContent) → finite.get m.entries (p ++ s ∷ []) ≡ Some e → finite.get moved (p ++ s ∷ []) ≡ Some (moved_entry m e)
  pub top : (e : EntryContent) → finite.get m.entries [] ≡ Some e → IsRenamed m e moved

-- Changes of a directory (RFC 4511, 4.6 to 4.9): of one entry, and of those below it where it moves.
use Rattle.std.specs.Prelude.{◌≡◌, ◌≢◌, true, false, [], ◌∷◌, ◌++◌, Option, Some, None, Result, Ok, List, map, drop, length, if◌then◌else◌}
use Rattle.std.specs.FinMap as finite
use Rattle.schema.specs.declared.code.Code.{Code}
use Rattle.paths.specs.Paths.{RdnKey, Path, path_cmp, parent_of, is_root, begins}
use Rattle.schema.specs.Rdns.{rdn_key_of}
use Rattle.schema.specs.Conf.{Conf, root_rdn}
use Rattle.entries.specs.Entries.{EntryContent, IsGood}
use Rattle.tree.specs.Directories.{Entries}

pub data Change : Type 0 where
  Nothing : Change
  -- an entry at a path, a new one or in place of the one there
  Put : (path : Path) (entry : EntryContent) → Change
  Remove : (path : Path) → Change
  -- an entry at a path where none is, in place of the one at another, with those below that one
  Move : (from to : Path) (entry : EntryContent) → Change

-- where a path leads when an entry moves: one that the old path begins goes on from the new one
abbrev pub moved_path : Path → Path → Path → Path
moved_path from to p = if begins from p then to ++ drop (length from) p else p

-- entries, each where its path leads
abbrev pub moved_entries : {X : Type 0} → Path → Path → List (Path × X) → List (Path × X)
moved_entries from to es = map (λ e. (moved_path from to e.0, e.1)) es

-- a map, with what stood at each path where that path leads
abbrev pub moved : {X : Type 0} → Path → Path → finite.FinMap path_cmp X → finite.FinMap path_cmp X
moved from to m = finite.from_entries (moved_entries from to (finite.entries m))

-- the directory after a change
abbrev pub changed : Entries → Change → Entries
changed d Nothing = d
changed d (Put path entry) = finite.insert d path entry
changed d (Remove path) = finite.remove d path
changed d (Move from to entry) = finite.insert (moved from to d) to entry

-- the path of the entry that changes, before and after
abbrev pub path_before : Change → Option Path
path_before Nothing = None
path_before (Put path entry) = Some path
path_before (Remove path) = Some path
path_before (Move from to entry) = Some from

abbrev pub path_after : Change → Option Path
path_after Nothing = None
path_after (Put path entry) = Some path
path_after (Remove path) = None
path_after (Move from to entry) = Some to

-- where it leads the path of an entry that stays
abbrev pub path_by : Change → Path → Path
path_by Nothing p = p
path_by (Put path entry) p = p
path_by (Remove path) p = p
path_by (Move from to entry) p = moved_path from to p

-- each check passed, and this change came of them
abbrev pub allowed : Change → Result Change Code
allowed c = Ok c

-- ---- where an entry may stand

-- as far as the entry and the path go: it is good, and its RDN gives the last step
pub record MayStand (conf : Conf) (p : Path) (e : EntryContent) : Type 0 where
  pub good : IsGood conf e
  pub last : (q : Path) (s : RdnKey) → p ≡ q ++ s ∷ [] → rdn_key_of conf.types e.rdn ≡ s
  pub root : p ≡ [] → e.rdn ≡ root_rdn conf

-- as far as the directory goes: an entry is there, and the parent of its new path, which isn't at or below the old one
pub record MayMove (d : Entries) (from to : Path) : Type 0 where
  pub there : finite.contains_key d from ≡ true
  pub below_root : is_root to ≡ false
  pub parent : finite.contains_key d (parent_of to) ≡ true
  pub apart : begins from (parent_of to) ≡ false

-- ---- what a move leaves, path by path

-- the entry is at its new path, each other entry is where its path leads, and nothing else is there
pub record IsMoved (d : Entries) (from to : Path) (entry : EntryContent) (after : Entries) : Type 0 where
  pub itself : finite.get after to ≡ Some entry
  pub others : (p : Path) (e : EntryContent) → p ≢ from → finite.get d p ≡ Some e → finite.get after (moved_path from to p) ≡ Some e
  pub only : (q : Path) (e : EntryContent) → q ≢ to → finite.get after q ≡ Some e → (p : Path) × (finite.get d p ≡ Some e) × (moved_path from to p ≡ q)

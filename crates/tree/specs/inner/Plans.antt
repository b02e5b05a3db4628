-- A change as a plan keeps it: values come with their normal forms, a new entry is told from one in place of another, and each has its number.
use Rattle.std.specs.Prelude.{◌≡◌, ◌≢◌, ℕ, false, Option, Some, None, if◌then◌else◌}
use Rattle.std.specs.FinMap as finite
use Rattle.paths.specs.Paths.{Path, begins}
use Rattle.tree.specs.declared.plans.Change as stored
use Rattle.tree.specs.declared.plans.Change.TheVariants as changes
use Rattle.tree.specs.Directories.{IsDirectory}
use Rattle.entries.specs.StoredEntries.{Entry, content_of, IsMade}
use Rattle.tree.specs.Renames.{same_path}
use Rattle.tree.specs.Changes.{Change, Nothing, Put, Remove, Move, changed}
use Rattle.tree.specs.Trees.{Tree, IsNumbered}
use Rattle.tree.specs.Plans.{Planned}

abbrev pub seen_change : stored.Change → Change
seen_change changes.Nothing = Nothing
seen_change (changes.Add path number entry) = Put path (content_of entry)
seen_change (changes.Replace path number entry) = Put path (content_of entry)
seen_change (changes.Remove path number) = Remove path
seen_change (changes.Move from to number entry) = Move from to (content_of entry)

-- the number of the entry that it changes
abbrev pub number_in : stored.Change → Option ℕ
number_in changes.Nothing = None
number_in (changes.Add path number entry) = Some number
number_in (changes.Replace path number entry) = Some number
number_in (changes.Remove path number) = Some number
number_in (changes.Move from to number entry) = Some number

-- an entry that gets another name: where that is another spelling of its own, it stays where it is
abbrev pub renaming : Path → Path → ℕ → Entry → stored.Change
renaming path to number entry = if same_path path to then changes.Replace path number entry else changes.Move path to number entry

-- what comes was made under the configuration; it is new and gets the next number, or comes in place of what is there and has its number
abbrev pub IsFit : Tree → stored.Change → Type 0
IsFit d changes.Nothing = Unit {0}
IsFit d (changes.Add path number entry) = (finite.contains_key d.entries path ≡ false) × IsMade d.conf.types entry.attrs × (number ≡ d.next_number)
IsFit d (changes.Replace path number entry) = (finite.get d.numbers path ≡ Some number) × IsMade d.conf.types entry.attrs
IsFit d (changes.Remove path number) = finite.get d.numbers path ≡ Some number
IsFit d (changes.Move from to number entry) = (finite.get d.numbers from ≡ Some number) × (finite.contains_key d.entries to ≡ false) × IsMade d.conf.types entry.attrs

-- a change that leads from a directory to a directory
pub record IsChange (d : Tree) (c : stored.Change) : Type 0 where
  pub fit : IsFit d c
  pub directory : IsDirectory d.conf (changed d.entries (seen_change c))

abbrev pub planned : Tree → stored.Change → Planned
planned d c = record { tree = d; change = seen_change c }

-- nothing stands where an entry moves to, nor below
abbrev pub IsSpare : Tree → stored.Change → Type 0
IsSpare d changes.Nothing = Unit {0}
IsSpare d (changes.Add path number entry) = Unit {0}
IsSpare d (changes.Replace path number entry) = Unit {0}
IsSpare d (changes.Remove path number) = Unit {0}
IsSpare d (changes.Move from to number entry) = (q : Path) (n : ℕ) → finite.get d.numbers q ≡ Some n → begins to q ≡ false

-- what a plan keeps
pub record IsPlan (d : Tree) (c : stored.Change) : Type 0 where
  pub change : IsChange d c
  pub spare : IsSpare d c
  pub numbered : IsNumbered d.entries d.numbers
  pub free : (q : Path) → finite.get d.numbers q ≢ Some d.next_number

-- an entry that is there may get another name, by which it comes to this path
abbrev pub RenamesTo : Tree → Path → Path → Entry → Type 0
RenamesTo d path to entry = (number : ℕ) → finite.get d.numbers path ≡ Some number → IsChange d (renaming path to number entry)

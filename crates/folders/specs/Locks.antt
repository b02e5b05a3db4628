-- The lock of a file, which one process at most holds at a time, and what other processes do.
use Rattle.std.specs.Prelude.{◌≡◌, ℕ, ◌⊎◌, Bool, true, false, List, Option, None, ⊤, IfSome}
use Rattle.std.specs.Option.{option_map}
use Rattle.folders.specs.Folders.{Files, Finds}
use Rattle.folders.specs.declared.folder.LockFault.{LockFault}
use Rattle.folders.specs.declared.folder.LockFault.TheVariants as faults

-- What other processes do: of which files they hold the lock, by their names, and what they make of all files before a lock is taken here.
pub record Others : Type 0 where
  pub hold : List ℕ → Bool
  pub make : Files → Files

-- What is seen of locks: whether one is held here, and what other processes do, where the folder tells that.
pub record Locking : Type 0 where
  pub held : Bool
  pub others : Option Others

-- another process holds the lock of the file of this name
abbrev pub IsInUse : Option Others → List ℕ → Type 0
IsInUse others name = IfSome others (λ o. o.hold name ≡ true)

-- none does
abbrev pub IsFree : Option Others → List ℕ → Type 0
IsFree others name = IfSome others (λ o. o.hold name ≡ false)

-- The lock is in use; or none holds it, and it can't be had for another reason; or there is no such file; or memory ran out.
abbrev pub IsNotTaken : Option Files → Option Others → List ℕ → LockFault → Type 0
IsNotTaken files others name faults.InUse = IsInUse others name
IsNotTaken files others name faults.Device = IsFree others name ⊎ Finds files name None
IsNotTaken files others name faults.OutOfMemory = ⊤

-- The lock of the file of this name is taken. No other process holds it, and the files are what the others made of them before.
pub record Takes (name : List ℕ) (files files' : Option Files) (lock lock' : Locking) : Type 0 where
  pub free : IsFree lock.others name
  pub files_are : IfSome lock.others (λ o. files' ≡ option_map o.make files)
  pub held : lock' ≡ record lock { held = true }

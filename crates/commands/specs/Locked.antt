-- How a command ends that writes: under the lock of the directory's dir.conf, or at once where it has no lock.
use Rattle.std.specs.Prelude.{◌≡◌, ℕ, ◌⊎◌, List, Option, None, Some, string_bytes}
use Rattle.folders.specs.Folders.{Files, Finds}
use Rattle.commands.specs.DirectoryFiles.{conf_name}
use Rattle.folders.specs.Locks.{Others, IsInUse, IsFree, Takes}
use Rattle.commands.specs.Worlds.{World}
use Rattle.commands.specs.Endings.{StoppedAt, IsAtOnce, IsFault, Stops, Ends}
use Rattle.commands.specs.Failures.{IsMemory}
use Rattle.commands.specs.declared.messages.Status.{Status}
use Rattle.commands.specs.declared.messages.CommandFault.{CommandFault}
use Rattle.commands.specs.declared.messages.CommandFault.TheVariants as faults

-- ---- where it has no lock

-- Why: another process holds it, and the folder is named; or none does, and dir.conf can't be opened or locked; or memory ran out.
abbrev pub LockFails : Option Files → Option Others → List ℕ → CommandFault → Type 0
LockFails files others db (faults.InUse name) = (string_bytes name ≡ db) × IsInUse others (conf_name db)
LockFails files others db (faults.CannotRead name) = (string_bytes name ≡ conf_name db) × (IsFree others (conf_name db) ⊎ Finds files (conf_name db) None)
LockFails files others db fault = IsMemory fault

abbrev pub HasNoLock : List ℕ → World → StoppedAt → Type 0
HasNoLock db w at = IsFault (LockFails w.files w.lock.others db) at.why × IsAtOnce w at

-- ---- where it has one

-- the lock was taken, and nothing else happened but what other processes had done before
pub record IsLocked (db : List ℕ) (w w' : World) : Type 0 where
  pub takes : Takes (conf_name db) w.files w'.files w.lock w'.lock
  pub stays : w' ≡ record w { files = w'.files; lock = w'.lock }

-- the lock was taken first, and from there on it goes so
pub record Under (db : List ℕ) (Goes : World → World → Type 0) (w w' : World) : Type 0 where
  pub locked : World
  pub is : IsLocked db w locked
  pub goes : Goes locked w'

-- A command that writes the directory in this folder ends so under its lock, or has none and stops. One that writes none ends so at once.
abbrev pub EndsUnder : Option (List ℕ) → (World → World → Status → Type 0) → (World → StoppedAt → Type 0) → World → World → Status → Type 0
EndsUnder None GoesThrough ComesTo w w' s = Ends GoesThrough ComesTo w w' s
EndsUnder (Some db) GoesThrough ComesTo w w' s = Stops (HasNoLock db) w w' s ⊎ Under db (λ locked w'. Ends GoesThrough ComesTo locked w' s) w w'

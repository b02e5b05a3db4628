-- How a command has ended, before it reports why it stops.
use Rattle.std.specs.Prelude.{◌≡◌, ℕ, ◌<◌, ◌-◌, ◌^◌, ◌⊎◌, List, Option, None, Some, Result, Ok, Err, ⊤}
use Rattle.folders.specs.Folders.{File, with_files}
use Rattle.commands.specs.Worlds.{World}
use Rattle.commands.specs.Endings.{StoppedAt}
use Rattle.commands.specs.Locked.{HasNoLock, Under}
use Rattle.commands.specs.declared.messages.Status.{Status}
use Rattle.commands.specs.declared.messages.Stop.{Stop}
use Rattle.commands.specs.declared.messages.Stop.TheVariants as stops

-- how often standard error may have failed where it is to report this: it can fail once more, unless nothing is reported
abbrev pub CanReport : Stop → ℕ → Type 0
CanReport (stops.Fault fault) failed = failed < 2 ^ 64 - 1
CanReport (stops.Usage text) failed = failed < 2 ^ 64 - 1
CanReport stops.Messages failed = ⊤

-- it came to this world, had stored these files, and stops
pub record HasStopped (ComesTo : World → StoppedAt → Type 0) (w w' : World) (why : Stop) : Type 0 where
  pub stored : List File
  pub comes : ComesTo w (record { why = why; stored = stored; world = w' })
  pub files : w'.files ≡ with_files w.files stored

-- it went through, or stops
abbrev pub HasEnded : (World → World → Status → Type 0) → (World → StoppedAt → Type 0) → World → World → Result Status Stop → Type 0
HasEnded GoesThrough ComesTo w w' (Ok s) = GoesThrough w w' s
HasEnded GoesThrough ComesTo w w' (Err why) = HasStopped ComesTo w w' why

-- so it did under the lock of the directory that it writes in this folder, or it has none and stops; where it writes none, so it did at once
abbrev pub HasEndedUnder : Option (List ℕ) → (World → World → Status → Type 0) → (World → StoppedAt → Type 0) → World → World → Result Status Stop → Type 0
HasEndedUnder None GoesThrough ComesTo w w' result = HasEnded GoesThrough ComesTo w w' result
HasEndedUnder (Some db) GoesThrough ComesTo w w' result =
    HasEnded (λ w w' s. ⊥) (HasNoLock db) w w' result ⊎ Under db (λ locked w'. HasEnded GoesThrough ComesTo locked w' result) w w'

-- sort: an LDIF text is printed with its records so ordered that each comes behind those above it.
use Rattle.std.specs.Prelude.{◌≡◌, ℕ, ◌⊎◌, List, Option, codes}
use Rattle.std.specs.Option.{option_copied}
use Rattle.device.specs.Device.{Broke}
use Rattle.command_line.specs.declared.request.SortOptions.{SortOptions}
use Rattle.sorting.specs.Sorted.{sorted_text}
use Rattle.commands.specs.Endings.{StoppedAt, HasOnlyPrinted, IsFault}
use Rattle.commands.specs.Failures.{FailsToWrite}
use Rattle.commands.specs.Texts.{ReadsText, IsUnread}
use Rattle.commands.specs.Worlds.{World, IsPrinted}
use Rattle.commands.specs.declared.messages.Status.{Status}
use Rattle.commands.specs.declared.messages.Status.TheVariants.{Done}

-- a text was read whole, and this is what it is in order
pub record ReadsInOrder (file : Option (List ℕ)) (sorted : List ℕ) (w w' : World) : Type 0 where
  pub text : List ℕ
  pub reads : ReadsText file text w w'
  pub sorts : sorted ≡ sorted_text text

-- it was printed
pub record SortGoesThrough (asked : SortOptions) (w w' : World) (s : Status) : Type 0 where
  pub sorted : List ℕ
  pub mid : World
  pub reads : ReadsInOrder (option_copied asked.file) sorted w mid
  pub printed : IsPrinted sorted mid w'
  pub done : s ≡ Done

-- printing it was broken off
pub record IsSortBrokenOff (asked : SortOptions) (w : World) (at : StoppedAt) : Type 0 where
  pub sorted : List ℕ
  pub mid : World
  pub reads : ReadsInOrder (option_copied asked.file) sorted w mid
  pub why : IsFault (FailsToWrite (codes "output")) at.why
  pub broke : Broke mid.output at.world.output sorted
  pub only : HasOnlyPrinted mid at

-- it couldn't be read, or memory ran out before anything was printed
abbrev pub SortStops : SortOptions → World → StoppedAt → Type 0
SortStops asked w at = IsUnread (option_copied asked.file) w at ⊎ IsSortBrokenOff asked w at

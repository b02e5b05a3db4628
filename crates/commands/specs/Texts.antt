-- A text that is read: a file's, or the input's.
use Rattle.std.specs.Prelude.{◌≡◌, ℕ, List, [], Option, None, Some, IfSome}
use Rattle.device.specs.Device.{Seen}
use Rattle.commands.specs.Changes.{IsSource, source_name}
use Rattle.commands.specs.Endings.{StoppedAt, IsFault}
use Rattle.commands.specs.Failures.{FailsToRead}
use Rattle.commands.specs.Worlds.{World}

-- where the source is the input, nothing changed but what is seen of it; where it is a file, nothing did
abbrev pub ReadsAtMost : Option (List ℕ) → World → World → Type 0
ReadsAtMost None w w' = w' ≡ record w { input = w'.input }
ReadsAtMost (Some name) w w' = w' ≡ w

-- the file of this name, or the input, was read whole, and nothing changed but what is seen of the input
pub record ReadsText (file : Option (List ℕ)) (text : List ℕ) (w w' : World) : Type 0 where
  pub source : Seen
  pub source' : Seen
  pub source_is : IsSource file w w' source source'
  pub text_is : IfSome source.left (λ bytes. text ≡ bytes)
  pub stays : w' ≡ record w { input = w'.input }

-- it can't be read, or memory ran out
pub record IsUnread (file : Option (List ℕ)) (w : World) (at : StoppedAt) : Type 0 where
  pub why : IsFault (FailsToRead (source_name file)) at.why
  pub stored : at.stored ≡ []
  pub stays : ReadsAtMost file w at.world

-- What a sink is told.
use Rattle.std.specs.Prelude.{◌≡◌, ℕ, ◌<◌, List, ◌⊎◌}
use Rattle.device.specs.Device.{Written, Took, Broke}
use Rattle.sentences.specs.Sentence.{IsLine, IsSentence}

-- a text is told: a sink that never failed takes all of it, or a beginning of it and fails; one that has failed takes nothing
pub record Tells (old new : Written) (text : List ℕ) : Type 0 where
  pub told : old.failed ≡ 0 → Took old new text ⊎ Broke old new text
  pub silent : 0 < old.failed → new ≡ old

-- nothing is told, or one sentence
abbrev pub TellsSentence : Written → Written → Type 0
TellsSentence old new = (new ≡ old) ⊎ ((sentence : List ℕ) × IsSentence sentence × Tells old new sentence)

-- nothing is told, or one line
abbrev pub TellsLine : Written → Written → Type 0
TellsLine old new = (new ≡ old) ⊎ ((line : List ℕ) × IsLine line × Tells old new line)

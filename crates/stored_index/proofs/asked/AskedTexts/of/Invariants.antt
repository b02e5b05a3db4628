use Rattle.std.proofs.Common.{◌≡◌, ℕ, List, take}
use Rattle.stored_index.specs.Stored.{is_written_as}
use Rattle.stored_index.specs.inner.Asked.{are_written}
use Rattle.stored_index.proofs.asked.AskedTexts.of.Given as goal

abbrev pub invariant-loop-key : goal.invariant-loop-key
invariant-loop-key l = (word : List ℕ) → are_written l.texts word ≡ is_written_as (take l.key-index l.keys) word

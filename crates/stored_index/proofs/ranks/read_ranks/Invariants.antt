use Rattle.std.proofs.Common.{◌≡◌, ◌≤◌, ℕ, ◌+◌, true, false, List, [], length, Option, Some, None, Bor}
use Rattle.base.proofs.Each.{with_front}
use Rattle.base.specs.Answers.{each}
use Rattle.base.specs.Ascii.{space}
use Rattle.stored_index.specs.Cuts.{parts, parts_if}
use Rattle.stored_index.specs.Words.{number_in}
use Rattle.stored_index.specs.KeyLines.{are_in_order}
use Rattle.stored_index.proofs.RankLemmas.{least_after}
use Rattle.stored_index.proofs.ranks.read_ranks.Given as goal

-- how many bytes are left, and one more where there is a text
abbrev left : Option (Bor (List ℕ)) → ℕ
left None = 0
left (Some text) = length text.now + 1

abbrev pub invariant-loop-rest : goal.invariant-loop-rest
invariant-loop-rest l =
    (ns : List ℕ) × (with_front ns (each number_in (parts_if space l.rest)) ≡ each number_in (parts space l.text))
    × (l.is_in_order ≡ are_in_order l.is_key_in_order ns)
    × (l.least ≡ least_after 0 ns)
    × (l.is_asked ≡ true → l.is_in_order ≡ true → l.least ≤ l.entries → l.ranks.items ≡ ns)
    × (l.is_asked ≡ false → l.ranks.items ≡ [])

abbrev pub decreases-loop-rest : goal.decreases-loop-rest
decreases-loop-rest l = left l.rest

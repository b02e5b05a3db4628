use Rattle.std.proofs.Common.{◌≡◌, ◌≤◌, ◌||◌, ℕ, length, get_or, nat_eq, List, ap, ◌∙◌, arith}
use Rattle.std.proofs.lemmas.Nat.Bits.{bit_at_or, bit_at-lt}
use Rattle.std.specs.Int.Bits.{bit_or}
use Rattle.dense_sets.specs.inner.Merged.{IsMerged}
use Rattle.id_sets.specs.Words.{has_bit}
use Rattle.id_sets.proofs.Bits.{has_bit_past}
use Rattle.dense_sets.proofs.Bits.{IfOk-from_two, either_set, has_bit_merged}
use Rattle.dense_sets.proofs.Logic.{or_swap, or_false}
use Rattle.dense_sets.proofs.words.join.Goals as goal

joined : (xs ys new : List ℕ) → length ys ≤ length xs → IsMerged bit_or xs ys new → length new ≡ length xs → (q : ℕ) → has_bit new q ≡ (has_bit xs q || has_bit ys q)
joined xs ys new short m long =
    has_bit_merged bit_or (λ a b. a || b) xs ys new
    (λ k i h. ap (λ b. nat_eq b 1) (bit_at_or (get_or xs k 0) (get_or ys k 0) i) ∙ either_set _ _ (bit_at-lt _ _) (bit_at-lt _ _))
    (λ h b. or_false b)
    (λ q h. has_bit_past ys q (omega arith))
    m long

pub returns-then-left-right-clause-bits : goal.returns-then-left-right-clause-bits
returns-then-left-right-clause-bits c =
    IfOk-from_two c.merged.result (λ all. IsMerged bit_or c.args.right.now c.args.left.now all.items) (λ all. length all.items ≡ length c.args.right.now) (λ all. (q : ℕ) → has_bit all.items q ≡ (has_bit c.args.left.now q || has_bit c.args.right.now q))
    (λ all m long q. joined c.args.right.now c.args.left.now all.items c.if-left-right.true m long q ∙ or_swap (has_bit c.args.right.now q) (has_bit c.args.left.now q))
    c.merged.ensures.words c.merged.ensures.len

pub returns-else-left-right-clause-bits : goal.returns-else-left-right-clause-bits
returns-else-left-right-clause-bits c =
    IfOk-from_two c.merged-else-left-right.result (λ all. IsMerged bit_or c.args.left.now c.args.right.now all.items) (λ all. length all.items ≡ length c.args.left.now) (λ all. (q : ℕ) → has_bit all.items q ≡ (has_bit c.args.left.now q || has_bit c.args.right.now q))
    (λ all m long q. joined c.args.left.now c.args.right.now all.items (omega arith) m long q)
    c.merged-else-left-right.ensures.words c.merged-else-left-right.ensures.len

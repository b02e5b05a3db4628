use Rattle.std.proofs.Common.{◌≡◌, ◌<◌, ◌&&◌, ℕ, not, length, get_or, nat_eq, min, ◌^◌, List, refl, ap, ◌∙◌}
use Rattle.std.proofs.lemmas.Nat.Bits.{bit_at_and, bit_at_not, bit_at-lt}
use Rattle.std.specs.Int.{w64, bit_at, bit_not}
use Rattle.std.specs.Int.Bits.{bit_and}
use Rattle.dense_sets.specs.inner.Merged.{IsMerged}
use Rattle.id_sets.specs.Words.{has_bit}
use Rattle.dense_sets.proofs.Bits.{IfOk-from_two, first_set, has_bit_merged}
use Rattle.dense_sets.proofs.Logic.{and_true}
use Rattle.dense_sets.proofs.words.minus.Goals as goal

left : (xs ys new : List ℕ) → ((k : ℕ) → get_or ys k 0 < 2 ^ 64) → IsMerged (λ a b. bit_and a (bit_not w64 b)) xs ys new → length new ≡ length xs → (q : ℕ) → has_bit new q ≡ (has_bit xs q && not (has_bit ys q))
left xs ys new fits m long =
    has_bit_merged (λ a b. bit_and a (bit_not w64 b)) (λ a b. a && not b) xs ys new
    (λ k i h. ap (λ b. nat_eq b 1) (bit_at_and (get_or xs k 0) (bit_not w64 (get_or ys k 0)) i ∙ ap (min (bit_at (get_or xs k 0) i)) (bit_at_not w64 (get_or ys k 0) i (fits k) h)) ∙ first_set _ _ (bit_at-lt _ _) (bit_at-lt _ _))
    (λ h b. and_true b)
    (λ q h. refl)
    m long

pub returns-clause-bits : goal.returns-clause-bits
returns-clause-bits c =
    IfOk-from_two c.merged.result (λ rest. IsMerged (λ a b. bit_and a (bit_not w64 b)) c.args.left.now c.args.right.now rest.items) (λ rest. length rest.items ≡ length c.args.left.now) (λ rest. (q : ℕ) → has_bit rest.items q ≡ (has_bit c.args.left.now q && not (has_bit c.args.right.now q)))
    (λ rest m long q. left c.args.left.now c.args.right.now rest.items (λ k. (c.type_inv.right k).fits) m long q)
    c.merged.ensures.words c.merged.ensures.len

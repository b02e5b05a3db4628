use Rattle.std.proofs.Common.{◌≡◌, ℕ, ◌∙◌, ◌-◌, take, drop, length, sym, arith}
use Rattle.std.proofs.lemmas.Bool.{true≢false}
use Rattle.std.proofs.lemmas.Slice.Eq.{bytes_eq-Decides}
use Rattle.values.proofs.Buckets.{equal_ends}
use Rattle.values.proofs.name_index.are_equal.Goals as goal
use Rattle.values.proofs.name_index.are_equal.Goals.{then-eq, else-eq}

pub returns-then-len-le16 : goal.returns-then-len-le16
returns-then-len-le16 c =
    let a = c.args.a.now in
    let b = c.args.b.now in
    let from : ℕ = length a - 8 in
    elim c.if-eq.branch [
      | then-eq w ↦ λ h.
          let front : take 8 a ≡ take 8 b = (bytes_eq-Decides (take 8 a) (take 8 b)).0 (sym c.eq.ensures ∙ w.if-eq.true) in
          let back : take (length a - from) (drop from a) ≡ take (length b - from) (drop from b) =
          (bytes_eq-Decides (take (length a - from) (drop from a)) (take (length b - from) (drop from b))).0 (sym w.eq-then-eq.ensures ∙ sym w.result-is ∙ h) in
          equal_ends a b 8 from (omega (arith, c.if-len-le16.true)) front back
      | else-eq w ↦ λ h. absurd (true≢false (sym h ∙ w.result-is ∙ w.if-eq.false))
    ]

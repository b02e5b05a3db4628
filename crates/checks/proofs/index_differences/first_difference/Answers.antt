use Rattle.std.proofs.Common.{◌≡◌, ◌∙◌, List, ℕ, [], IfOk, sym, subst, ap, arith}
use Rattle.std.proofs.lemmas.Grind.{common_steps}
use Rattle.checks.specs.IndexDifferences.{slot_and_key, first_line, first_difference}
use Rattle.checks.proofs.Differing.{texts, IsHere, one_ended, other_ended, they_differ}
use Rattle.checks.proofs.index_differences.first_difference.Goals as goal
use Rattle.checks.proofs.index_differences.first_difference.Goals.{then-lines-test+then-not-is_empty+else-is_same, then-lines-test+else-not-is_empty, else-lines-test}

pub returns : goal.returns
returns c =
    let here : IsHere c.lines.slot.now c.lines.ours.now c.lines.theirs.now = elim c.lines-test.branch [
      | then-lines-test+then-not-is_empty+else-is_same w ↦ they_differ c.lines.slot.now c.lines.ours.now c.lines.theirs.now _ _ (sym w.is_same.ensures ∙ w.if-is_same.false)
      | then-lines-test+else-not-is_empty w ↦ other_ended c.lines.slot.now c.lines.ours.now c.lines.theirs.now (grind (arith, common_steps, w.is_empty-in-lines.ensures, w.if-not-is_empty.false))
      | else-lines-test w ↦ one_ended c.lines.slot.now c.lines.ours.now c.lines.theirs.now (grind (arith, common_steps, c.is_empty.ensures, w.lines-test.false))
    ] in
    let same : slot_and_key c.lines.slot.now c.first_line.result.now c.first_line-2.result.now ≡ first_difference [] (texts c.args.one.now) (texts c.args.other.now) =
    ap (λ (one : List ℕ). slot_and_key c.lines.slot.now one c.first_line-2.result.now) c.first_line.ensures
    ∙ ap (λ (other : List ℕ). slot_and_key c.lines.slot.now (first_line (texts c.lines.ours.now)) other) c.first_line-2.ensures ∙ sym here ∙ c.lines.invariant in
    subst (λ (text : List ℕ). IfOk c.slot_and_key.result (λ v. v.items ≡ text)) same c.slot_and_key.ensures

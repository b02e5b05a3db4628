use Rattle.std.proofs.Common.{◌≡◌, ◌∙◌, sym, arith}
use Rattle.std.proofs.lemmas.Grind.{common_steps}
use Rattle.checks.specs.IndexDifferences.{first_is_less, is_before}
use Rattle.checks.proofs.Differing.{first_ended, second_ended, bytes_differ}
use Rattle.checks.proofs.index_differences.is_before.Goals as goal
use Rattle.checks.proofs.index_differences.is_before.Goals.{then-bytes-test+then-not-is_empty+else-is_same_byte, then-bytes-test+else-not-is_empty, else-bytes-test}

pub returns : goal.returns
returns c =
    let here : is_before c.bytes.ours.now c.bytes.theirs.now ≡ first_is_less c.bytes.ours.now c.bytes.theirs.now = elim c.bytes-test.branch [
      | then-bytes-test+then-not-is_empty+else-is_same_byte w ↦ bytes_differ c.bytes.ours.now c.bytes.theirs.now _ _ (sym w.is_same_byte.ensures ∙ w.if-is_same_byte.false)
      | then-bytes-test+else-not-is_empty w ↦ second_ended c.bytes.ours.now c.bytes.theirs.now (grind (arith, common_steps, w.is_empty-in-bytes.ensures, w.if-not-is_empty.false))
      | else-bytes-test w ↦ first_ended c.bytes.ours.now c.bytes.theirs.now (grind (arith, common_steps, c.is_empty.ensures, w.bytes-test.false))
    ] in
    c.first_is_less.ensures ∙ sym here ∙ c.bytes.invariant

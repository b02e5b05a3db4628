use Rattle.std.proofs.Common.{◌++◌, ◌∙◌, List, ℕ, take, sym, ap}
use Rattle.std.proofs.lemmas.List.{append_assoc}
use Rattle.commands.proofs.Checked.{consumes_more}
use Rattle.commands.proofs.index_check.has_bytes.Goals as goal

pub pulls-preserved : goal.pulls-preserved
pulls-preserved g c =
    let before = c.pulls.invariant.taken in
    let piece = take c.in-Ok.n c.pull.new.buffer in
    let gave = c.in-Ok.ensures.gave in
    record {
      taken = (
        before.0 ++ piece,
        consumes_more _ _ _ before.0 piece before.1 gave.left,
        append_assoc before.0 piece c.in-Some.others.now ∙ ap (λ (rest : List ℕ). before.0 ++ rest) (sym c.in-Some.ensures) ∙ before.2,
      );
      failed = gave.failed ∙ c.pulls.invariant.failed;
    }

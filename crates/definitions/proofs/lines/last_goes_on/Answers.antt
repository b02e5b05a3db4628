use Rattle.std.proofs.Common.{List, ℕ, ap, ◌∙◌}
use Rattle.definitions.specs.Lines.{goes_on_with}
use Rattle.definitions.proofs.LastLine.{of_last}
use Rattle.definitions.proofs.lines.last_goes_on.Goals as goal

pub returns-in-Some : goal.returns-in-Some
returns-in-Some c =
    c.goes_on_with.ensures ∙ ap (λ (text : List ℕ). goes_on_with text c.args.next.now) c.as_slice.ensures
    ∙ of_last c.args.lines.now c.in-Some.last.now c.args.next.now c.in-Some.ensures.value

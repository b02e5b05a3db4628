use Rattle.std.proofs.Common.{◌≡◌, ◌++◌, ◌∙◌, List, ℕ, OnOk, subst}
use Rattle.checks.specs.Warnings.{warning}
use Rattle.checks.proofs.warnings.put_unknown_word.Goals as goal

pub returns : goal.returns
returns c =
    subst (λ (what : List ℕ). OnOk c.put_warning.result (c.put_warning.new.out.items ≡ c.args.out.now.items ++ warning c.args.line what))
    (c.as_slice.ensures.value ∙ c.in_ok-what.ensures) c.put_warning.ensures

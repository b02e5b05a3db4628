use Rattle.std.proofs.Common.{◌≡◌, ◌++◌, ◌∙◌, List, ℕ, OnOk, codes, subst}
use Rattle.checks.proofs.warnings.put_word.Goals as goal

pub returns : goal.returns
returns c =
    subst (λ (shown : List ℕ). OnOk c.put_shown.result (c.put_shown.new.text.items ≡ c.args.text.now.items ++ (shown ++ codes " isn't known")))
    (c.as_slice.ensures.value ∙ c.in_ok-shown.ensures) c.put_shown.ensures

use Rattle.std.proofs.Common.{ℕ, ◌∷◌, sym, ap, ◌∙◌}
use Rattle.ldif.proofs.Spaces.{one_space}
use Rattle.ldif.proofs.line.plain_value.Goals as goal

pub returns-else-begins_with : goal.returns-else-begins_with
returns-else-begins_with c =
    let v = c.in-Some-eq32-default.value.now in
    one_space c.args.rest.now v
    (c.in-Some-eq32-default.ensures.cases.0 ∙ ap (λ (b : ℕ). b ∷ v) c.in-Some-eq32-default.field-0-0-test)
    (sym c.begins_with.ensures ∙ c.if-begins_with.false)

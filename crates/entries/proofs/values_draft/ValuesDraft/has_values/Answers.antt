use Rattle.std.proofs.Common.{◌∙◌, length, sym, ap, subst, Option}
use Rattle.std.specs.Prelude.{nat_lt}
use Rattle.entries.specs.declared.values_draft.Places.{Places}
use Rattle.entries.specs.inner.ValuesDrafts.{left_of, KeepsPlaces, KeepPlaces}
use Rattle.entries.proofs.LeftFrom.{some_left}
use Rattle.entries.proofs.values_draft.ValuesDraft.has_values.Goals as goal

pub returns-in-Some : goal.returns-in-Some
returns-in-Some c =
    let kept : KeepsPlaces c.in-Some.places c.self.inside.values = subst (λ (o : Option Places). KeepPlaces o c.self.inside.values) c.in-Some.is c.self.invariant in
    ap (nat_lt 0) c.len.ensures.len ∙ some_left c.in-Some.places.since c.self.inside.values kept.left
    ∙ ap (λ vs. nat_lt 0 (length vs)) (ap (λ (o : Option Places). left_of o c.self.inside.values) (sym c.in-Some.is) ∙ c.self.view_is)

use Rattle.std.proofs.Common.{◌≡◌, true, not, [], ◌∷◌, sym, ap, ◌∙◌, arith}
use Rattle.std.proofs.lemmas.Bool.{eq-eqb, ne_eqb}
use Rattle.std.specs.Ordering.{nat_cmp}
use Rattle.std.specs.FinSet as set
use Rattle.std.specs.FinSet.{from_list, contains-empty}
use Rattle.dense_sets.specs.Keys.{Kept}
use Rattle.dense_sets.specs.inner.Forms.{kept_as}
use Rattle.id_sets.proofs.Ascending.{insert_present}
use Rattle.dense_sets.proofs.Keys.{contains_one, few_as_list, len_more, len_one}
use Rattle.dense_sets.proofs.key_set.KeySetIdSet.insert.Goals as goal

pub returns-in-Empty-clause-new : goal.returns-in-Empty-clause-new
returns-in-Empty-clause-new c = sym (ap not (ap (λ (k : Kept). set.contains k.members c.args.id) (sym c.self.view_is ∙ ap kept_as c.in-Empty.is) ∙ contains-empty nat_cmp c.args.id))

pub returns-in-Empty-clause-form : goal.returns-in-Empty-clause-form
returns-in-Empty-clause-form c = few_as_list c.args.self.now _ (ap (λ (k : Kept). k.is_words) (sym c.self.view_is ∙ ap kept_as c.in-Empty.is)) (let one = len_one c.args.id in omega (arith, one))

there : (c : goal.Then-one-id) → set.contains c.args.self.now.members c.args.id ≡ true
there c = ap (λ (k : Kept). set.contains k.members c.args.id) (sym c.self.view_is ∙ ap kept_as c.in-One.is) ∙ contains_one c.in-One.one c.args.id ∙ eq-eqb c.in-One.one c.args.id c.if-one-id.true

pub returns-then-one-id-clause-new : goal.returns-then-one-id-clause-new
returns-then-one-id-clause-new c = sym (ap not (there c))

pub returns-then-one-id-clause-ok : goal.returns-then-one-id-clause-ok
returns-then-one-id-clause-ok c = ap (λ (k : Kept). k.members) (ap kept_as (sym c.in-One.is) ∙ c.self.view_is) ∙ insert_present c.args.self.now.members c.args.id (there c)

pub returns-then-one-id-clause-form : goal.returns-then-one-id-clause-form
returns-then-one-id-clause-form c = few_as_list c.args.self.now _ (ap (λ (k : Kept). k.is_words) (sym c.self.view_is ∙ ap kept_as c.in-One.is)) (let one = len_one c.in-One.one in omega (arith, one))

pub returns-in_ok-new-in-One-clause-new : goal.returns-in_ok-new-in-One-clause-new
returns-in_ok-new-in-One-clause-new c = sym (ap not (ap (λ (k : Kept). set.contains k.members c.args.id) (sym c.self.view_is ∙ ap kept_as c.in-One.is) ∙ contains_one c.in-One.one c.args.id ∙ ne_eqb c.in-One.one c.args.id c.if-one-id.false))

pub returns-in_ok-new-in-One-clause-form : goal.returns-in_ok-new-in-One-clause-form
returns-in_ok-new-in-One-clause-form c =
    few_as_list c.args.self.now _ (ap (λ (k : Kept). k.is_words) (sym c.self.view_is ∙ ap kept_as c.in-One.is))
    (let both = ap set.len (c.in_ok-new-in-One.ensures.ok ∙ c.in_ok-both-in-One.ensures) in
    let one = len_one c.in-One.one in
    let more = len_more (from_list {R = nat_cmp} (c.in-One.one ∷ [])) c.args.id in
    omega (arith, both, one, more))

use Rattle.std.proofs.Common.{◌≡◌, false, [], ◌∷◌, sym, ap, ◌∙◌, arith}
use Rattle.std.proofs.lemmas.Bool.{eq-eqb, ne_eqb}
use Rattle.std.specs.Ordering.{nat_cmp}
use Rattle.std.specs.FinSet as set
use Rattle.std.specs.FinSet.{contains-empty}
use Rattle.dense_sets.specs.Keys.{Kept}
use Rattle.dense_sets.specs.inner.Forms.{kept_as}
use Rattle.id_sets.proofs.Ascending.{remove_absent, remove_is}
use Rattle.dense_sets.proofs.Keys.{contains_one}
use Rattle.dense_sets.proofs.key_set.KeySetIdSet.remove.Goals as goal

no_member : (c : goal.In-Empty) → set.contains c.args.self.now.members c.args.id ≡ false
no_member c = ap (λ (k : Kept). set.contains k.members c.args.id) (sym (ap kept_as (sym c.in-Empty.is) ∙ c.self.view_is)) ∙ contains-empty nat_cmp c.args.id

pub returns-in-Empty-clause-was : goal.returns-in-Empty-clause-was
returns-in-Empty-clause-was c = sym (no_member c)

pub returns-in-Empty-clause-removed : goal.returns-in-Empty-clause-removed
returns-in-Empty-clause-removed c = ap (λ (k : Kept). k.members) c.self.view_is ∙ remove_absent c.args.self.now.members c.args.id (no_member c)

other : (c : goal.Then-one-id) → set.contains c.args.self.now.members c.args.id ≡ false
other c = ap (λ (k : Kept). set.contains k.members c.args.id) (sym (ap kept_as (sym c.in-One.is) ∙ c.self.view_is)) ∙ contains_one c.in-One.one c.args.id ∙ ne_eqb c.in-One.one c.args.id c.if-one-id.true

pub returns-then-one-id-clause-was : goal.returns-then-one-id-clause-was
returns-then-one-id-clause-was c = sym (other c)

pub returns-then-one-id-clause-removed : goal.returns-then-one-id-clause-removed
returns-then-one-id-clause-removed c = ap (λ (k : Kept). k.members) (ap kept_as (sym c.in-One.is) ∙ c.self.view_is) ∙ remove_absent c.args.self.now.members c.args.id (other c)

pub returns-else-one-id-clause-was : goal.returns-else-one-id-clause-was
returns-else-one-id-clause-was c = sym (ap (λ (k : Kept). set.contains k.members c.args.id) (sym (ap kept_as (sym c.in-One.is) ∙ c.self.view_is)) ∙ contains_one c.in-One.one c.args.id ∙ eq-eqb c.in-One.one c.args.id c.if-one-id.false)

pub returns-else-one-id-clause-removed : goal.returns-else-one-id-clause-removed
returns-else-one-id-clause-removed c = remove_is (c.in-One.one ∷ []) 0 c.args.id (tt, tt) (omega arith) c.if-one-id.false ∙ ap (λ (k : Kept). set.remove k.members c.args.id) (ap kept_as (sym c.in-One.is) ∙ c.self.view_is)

use Rattle.std.proofs.Common.{List, ℕ, take, Option, ap, subst, sym, ◌∙◌}
use Rattle.std.specs.Borrow.{Bor}
use Rattle.entries.specs.StoredEntries.{Entry}
use Rattle.index.specs.KeyChanges.{IsMadeIn}
use Rattle.index_keys.proofs.StoredNorms.{norms_are}
use Rattle.index.proofs.changes.same_front.Goals as goal

pub returns-in-Some-after : goal.returns-in-Some-after
returns-in-Some-after c =
    let made = subst (λ (o : Option (Bor Entry)). IsMadeIn c.args.conf.now.types o) c.in-Some.is c.requires.before in
    let made_after = subst (λ (o : Option (Bor Entry)). IsMadeIn c.args.conf.now.types o) c.in-Some-after.is c.requires.after in
    rw (c.in-Some.is, c.in-Some-after.is)
    (ap (λ (norms : List (List ℕ)). take c.same_norms.result norms) (sym (norms_are c.args.conf.now.types c.in-Some.one.now.attrs made.each c.args.slot.now.type_id))
    ∙ c.same_norms.ensures
    ∙ ap (λ (norms : List (List ℕ)). take c.same_norms.result norms) (norms_are c.args.conf.now.types c.in-Some-after.other.now.attrs made_after.each c.args.slot.now.type_id))

use Rattle.std.proofs.Common.{Some, sym, ap, ◌∙◌, arith}
use Rattle.std.proofs.lemmas.Grind.{common_steps}
use Rattle.tree.specs.declared.cells.Cell.TheVariants.{Free, Taken}
use Rattle.tree.proofs.Chains.{set_is, count_set, next_within, next_is_free, read_at_next, next_is_not_taken, pushed, filled, all_taken}
use Rattle.tree.proofs.cells.Cells.insert_reserved.Goals as goal

pub invariant_of-self : goal.invariant_of-self
invariant_of-self g c = rw c.push_reserved.ensures.items (pushed _ _ _ c.args.value c.self.invariant (omega arith))

pub index_mut-requires : goal.index_mut-requires
index_mut-requires g c = omega (arith, next_within _ _ _ c.self.invariant (λ e. omega arith))

pub invariant_of-self-in-Free : goal.invariant_of-self-in-Free
invariant_of-self-in-Free g c =
    let found = read_at_next _ _ _ _ c.self.invariant (λ e. omega arith) c.index_mut.ensures.value in
    rw c.replace.ensures.after (filled _ _ _ _ c.args.value c.self.invariant (found ∙ ap Some (sym c.replace.ensures.value ∙ c.in-Free.is)))

pub unreachable-requires : goal.unreachable-requires
unreachable-requires g c =
    let found = read_at_next _ _ _ _ c.self.invariant (λ e. omega arith) c.index_mut.ensures.value in
    next_is_not_taken _ _ _ _ c.self.invariant (found ∙ ap Some (sym c.replace.ensures.value ∙ c.in-Taken.is))

pub returns-clause-set : goal.returns-clause-set
returns-clause-set g c =
    let within = next_within _ _ _ c.self.invariant (λ e. omega arith) in
    rw (← c.self.view_is, c.replace.ensures.after) (set_is _ _ (Taken c.args.value) within)

pub returns-clause-taken : goal.returns-clause-taken
returns-clause-taken g c =
    let found = read_at_next _ _ _ _ c.self.invariant (λ e. omega arith) c.index_mut.ensures.value in
    let free = found ∙ ap Some (sym c.replace.ensures.value ∙ c.in-Free.is) in
    let counted = count_set c.self.inside.cells.items c.self.inside.next (Free c.in-Free.next) (Taken c.args.value) free in
    rw (← c.self.view_is, c.replace.ensures.after) (omega arith)

pub returns-then-number-len-clause-was_free : goal.returns-then-number-len-clause-was_free
returns-then-number-len-clause-was_free g c = rw (← c.self.view_is) (next_is_free _ _ _ c.self.invariant)

pub returns-clause-was_free : goal.returns-clause-was_free
returns-clause-was_free g c = rw (← c.self.view_is) (next_is_free _ _ _ c.self.invariant)

pub returns-then-number-len-clause-set : goal.returns-then-number-len-clause-set
returns-then-number-len-clause-set g c = grind (arith, common_steps)

pub returns-then-number-len-clause-taken : goal.returns-then-number-len-clause-taken
returns-then-number-len-clause-taken g c = grind (arith, common_steps)

pub returns-then-number-len-clause-number : goal.returns-then-number-len-clause-number
returns-then-number-len-clause-number g c = grind (arith, common_steps)

pub returns-clause-number : goal.returns-clause-number
returns-clause-number g c = grind (arith, common_steps)

pub overflow_add-self-then-number-len : goal.overflow_add-self-then-number-len
overflow_add-self-then-number-len g c =
    let few = rw (← c.self.view_is) at c.requires.few in
    omega (arith, few, all_taken _ _ _ c.self.invariant (omega arith), c.self.invariant.counted)

pub push_reserved-requires : goal.push_reserved-requires
push_reserved-requires g c =
    let room = rw (← c.self.view_is) at c.requires.room in
    omega (arith, room, all_taken _ _ _ c.self.invariant (omega arith), c.self.invariant.counted)

use Rattle.std.proofs.Common.{arith, refl}
use Rattle.std.proofs.lemmas.Grind.{common_steps}
use Rattle.std.proofs.lemmas.Option.{slice_get_within}
use Rattle.tree.specs.declared.cells.Cell.TheVariants.{Free, Taken}
use Rattle.tree.proofs.Chains.{set_is, taken_at, count_set, freed}
use Rattle.tree.proofs.cells.Cells.remove.Goals as goal

pub invariant_of-self : goal.invariant_of-self
invariant_of-self g c =
    let found = taken_at c.self.inside.cells.items c.args.number (rw (← c.self.view_is) at c.requires) in
    rw c.replace.ensures.after (freed _ _ _ c.args.number found.0 c.self.invariant found.1)

pub returns-clause-set : goal.returns-clause-set
returns-clause-set g c =
    let found = taken_at c.self.inside.cells.items c.args.number (rw (← c.self.view_is) at c.requires) in
    rw (← c.self.view_is, c.replace.ensures.after) (set_is c.self.inside.cells.items c.args.number (Free c.self.inside.next) (slice_get_within c.self.inside.cells.items c.args.number (Taken found.0) found.1))

pub returns-clause-taken : goal.returns-clause-taken
returns-clause-taken g c =
    let found = taken_at c.self.inside.cells.items c.args.number (rw (← c.self.view_is) at c.requires) in
    let counted = count_set c.self.inside.cells.items c.args.number (Taken found.0) (Free c.self.inside.next) found.1 in
    rw (← c.self.view_is, c.replace.ensures.after) (omega arith)

pub returns-clause-next : goal.returns-clause-next
returns-clause-next g c = refl

pub overflow_sub-self : goal.overflow_sub-self
overflow_sub-self g c = grind (arith, common_steps)

pub returns-clause-value : goal.returns-clause-value
returns-clause-value g c = grind (arith, common_steps)

pub unreachable-requires : goal.unreachable-requires
unreachable-requires g c = grind (arith, common_steps)

pub index_mut-requires : goal.index_mut-requires
index_mut-requires g c = grind (arith, common_steps)

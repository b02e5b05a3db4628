use Rattle.std.proofs.Common.{sym, ap, subst, ◌∙◌}
use Rattle.entries.specs.StoredEntries.{IsMade}
use Rattle.tree.specs.Trees.{Tree}
use Rattle.tree.specs.Plans.{before}
use Rattle.tree.specs.declared.plans.Change.TheVariants.{Replace, Remove, Move}
use Rattle.tree.proofs.PlanLemmas.{fits, same_plan}
use Rattle.tree.proofs.plans.Plan.before.Goals as goal

pub entry_numbered-requires : goal.entry_numbered-requires
entry_numbered-requires c =
    (c.in-Replace.path, (fits c.self.inside.of.value c.self.inside.change c.args.self.now c.args.tree.now (Replace c.in-Replace.path c.in-Replace.number c.in-Replace.entry) c.self.view_is c.requires c.in-Replace.is c.self.invariant.change).fit.0)

pub returns-in-Replace-clause-entry : goal.returns-in-Replace-clause-entry
returns-in-Replace-clause-entry c =
    sym (c.entry_numbered.ensures.entry c.in-Replace.path (fits c.self.inside.of.value c.self.inside.change c.args.self.now c.args.tree.now (Replace c.in-Replace.path c.in-Replace.number c.in-Replace.entry) c.self.view_is c.requires c.in-Replace.is c.self.invariant.change).fit.0)
    ∙ ap before (same_plan c.self.inside.of.value c.self.inside.change c.args.self.now c.args.tree.now (Replace c.in-Replace.path c.in-Replace.number c.in-Replace.entry) c.self.view_is c.requires c.in-Replace.is)

pub returns-in-Replace-clause-made : goal.returns-in-Replace-clause-made
returns-in-Replace-clause-made c = subst (λ (d : Tree). IsMade d.conf.types c.entry_numbered.result.now.attrs) (sym c.requires) c.entry_numbered.ensures.made

pub entry_numbered-requires-in-Remove : goal.entry_numbered-requires-in-Remove
entry_numbered-requires-in-Remove c =
    (c.in-Remove.path, (fits c.self.inside.of.value c.self.inside.change c.args.self.now c.args.tree.now (Remove c.in-Remove.path c.in-Remove.number) c.self.view_is c.requires c.in-Remove.is c.self.invariant.change).fit)

pub returns-in-Remove-clause-entry : goal.returns-in-Remove-clause-entry
returns-in-Remove-clause-entry c =
    sym (c.entry_numbered-in-Remove.ensures.entry c.in-Remove.path (fits c.self.inside.of.value c.self.inside.change c.args.self.now c.args.tree.now (Remove c.in-Remove.path c.in-Remove.number) c.self.view_is c.requires c.in-Remove.is c.self.invariant.change).fit)
    ∙ ap before (same_plan c.self.inside.of.value c.self.inside.change c.args.self.now c.args.tree.now (Remove c.in-Remove.path c.in-Remove.number) c.self.view_is c.requires c.in-Remove.is)

pub returns-in-Remove-clause-made : goal.returns-in-Remove-clause-made
returns-in-Remove-clause-made c = subst (λ (d : Tree). IsMade d.conf.types c.entry_numbered-in-Remove.result.now.attrs) (sym c.requires) c.entry_numbered-in-Remove.ensures.made

pub entry_numbered-requires-in-Move : goal.entry_numbered-requires-in-Move
entry_numbered-requires-in-Move c =
    (c.in-Move.from, (fits c.self.inside.of.value c.self.inside.change c.args.self.now c.args.tree.now (Move c.in-Move.from c.in-Move.to c.in-Move.number c.in-Move.entry) c.self.view_is c.requires c.in-Move.is c.self.invariant.change).fit.0)

pub returns-in-Move-clause-entry : goal.returns-in-Move-clause-entry
returns-in-Move-clause-entry c =
    sym (c.entry_numbered-in-Move.ensures.entry c.in-Move.from (fits c.self.inside.of.value c.self.inside.change c.args.self.now c.args.tree.now (Move c.in-Move.from c.in-Move.to c.in-Move.number c.in-Move.entry) c.self.view_is c.requires c.in-Move.is c.self.invariant.change).fit.0)
    ∙ ap before (same_plan c.self.inside.of.value c.self.inside.change c.args.self.now c.args.tree.now (Move c.in-Move.from c.in-Move.to c.in-Move.number c.in-Move.entry) c.self.view_is c.requires c.in-Move.is)

pub returns-in-Move-clause-made : goal.returns-in-Move-clause-made
returns-in-Move-clause-made c = subst (λ (d : Tree). IsMade d.conf.types c.entry_numbered-in-Move.result.now.attrs) (sym c.requires) c.entry_numbered-in-Move.ensures.made

use Rattle.std.proofs.Common.{Bool, Ok, Option, cond, sym, ap, subst, ◌∙◌}
use Rattle.std.proofs.lemmas.Result.{IfOk-from_err, err_from_is_err_and}
use Rattle.std.specs.Map.Iter.{deref}
use Rattle.std.specs.Option.{option_map}
use Rattle.base.specs.Answers.{Fails}
use Rattle.schema.specs.Conf.{Conf}
use Rattle.entries.specs.Entries.{EntryContent}
use Rattle.entries.specs.Gives.{fault_of}
use Rattle.entries.specs.StoredEntries.{content_of, IsMade}
use Rattle.tree.specs.declared.plans.Change.TheVariants as changes
use Rattle.tree.specs.Changes.{Put, Move}
use Rattle.tree.specs.Renames.{rename_there}
use Rattle.tree.specs.inner.Plans.{IsChange}
use Rattle.tree.proofs.planner.Planner.rename_at.Goals as goal

pub rename_there-requires-clause-there : goal.rename_there-requires-clause-there
rename_there-requires-clause-there c = sym c.in-Some.ensures.entry

pub rename_there-requires-clause-made : goal.rename_there-requires-clause-made
rename_there-requires-clause-made c = subst (λ (k : Conf). IsMade k.types c.in-Some.entry.now.attrs) c.args.self.now.same_conf c.in-Some.ensures.made

pub returns-then-eq-clause-change : goal.returns-then-eq-clause-change
returns-then-eq-clause-change c =
    subst (λ (b : Bool). IsChange c.args.self.now.tree.now (cond b (changes.Replace c.args.path c.in-Some.number c.in_ok-to.entry) (changes.Move c.args.path c.in_ok-to.to c.in-Some.number c.in_ok-to.entry)))
    (sym c.eq.ensures ∙ c.if-eq.true) (c.in_ok-to.ensures.change c.in-Some.number (sym c.in-Some.ensures.number))

pub returns-else-eq-clause-change : goal.returns-else-eq-clause-change
returns-else-eq-clause-change c =
    subst (λ (b : Bool). IsChange c.args.self.now.tree.now (cond b (changes.Replace c.args.path c.in-Some.number c.in_ok-to.entry) (changes.Move c.args.path c.in_ok-to.to c.in-Some.number c.in_ok-to.entry)))
    (sym c.eq.ensures ∙ c.if-eq.false) (c.in_ok-to.ensures.change c.in-Some.number (sym c.in-Some.ensures.number))

pub returns-then-eq-clause-gives : goal.returns-then-eq-clause-gives
returns-then-eq-clause-gives c =
    ap (λ (o : Option EntryContent). rename_there c.args.self.now.conf.now c.args.self.now.tree.now.entries c.args.path c.args.newrdn.now c.args.delete_old (option_map deref c.args.superior) o) (sym c.in-Some.ensures.entry)
    ∙ c.in_ok-to.ensures.gives
    ∙ ap (λ (b : Bool). Ok (cond b (Put c.args.path (content_of c.in_ok-to.entry)) (Move c.args.path c.in_ok-to.to (content_of c.in_ok-to.entry)))) (sym c.eq.ensures ∙ c.if-eq.true)

pub returns-else-eq-clause-gives : goal.returns-else-eq-clause-gives
returns-else-eq-clause-gives c =
    ap (λ (o : Option EntryContent). rename_there c.args.self.now.conf.now c.args.self.now.tree.now.entries c.args.path c.args.newrdn.now c.args.delete_old (option_map deref c.args.superior) o) (sym c.in-Some.ensures.entry)
    ∙ c.in_ok-to.ensures.gives
    ∙ ap (λ (b : Bool). Ok (cond b (Put c.args.path (content_of c.in_ok-to.entry)) (Move c.args.path c.in_ok-to.to (content_of c.in_ok-to.entry)))) (sym c.eq.ensures ∙ c.if-eq.false)

pub returns-in_err-to-clause-gives : goal.returns-in_err-to-clause-gives
returns-in_err-to-clause-gives c =
    let p = err_from_is_err_and c.from_residual.result c.from_residual.ensures.1 in
    let is = ap (λ (o : Option EntryContent). rename_there c.args.self.now.conf.now c.args.self.now.tree.now.entries c.args.path c.args.newrdn.now c.args.delete_old (option_map deref c.args.superior) o) (sym c.in-Some.ensures.entry) in
    rw (p.1, p.2) (subst (Fails (fault_of c.in_err-to.field-0.0)) (sym is) c.in_err-to.ensures.gives)

pub returns-in_err-to-clause-change : goal.returns-in_err-to-clause-change
returns-in_err-to-clause-change c = IfOk-from_err _ _ c.from_residual.ensures.0

pub returns-in_err-to-clause-path : goal.returns-in_err-to-clause-path
returns-in_err-to-clause-path c = IfOk-from_err _ _ c.from_residual.ensures.0

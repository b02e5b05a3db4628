use Rattle.std.proofs.Common.{◌≡◌, false, not, Ok, ap, sym, subst, ◌∙◌}
use Rattle.std.specs.Prelude.{◌&&◌}
use Rattle.std.proofs.lemmas.Result.{IfOk-from_err, err_from_is_err_and}
use Rattle.std.specs.FinMap as finite
use Rattle.base.specs.Answers.{Fails}
use Rattle.paths.specs.Paths.{parent_of, is_root}
use Rattle.entries.specs.Gives.{fault_of}
use Rattle.entries.specs.StoredEntries.{Entry, attributes_of, content_of, IsMade}
use Rattle.tree.specs.Changes.{Put}
use Rattle.tree.proofs.PlanLemmas.{at_root, has_parent, add_at_is}
use Rattle.tree.proofs.planner.Planner.add_at.Goals as goal
use Rattle.tree.proofs.planner.Planner.add_at.Goals.{else-not-is_root-via-then-not-is_root+else-not-has_parent, else-not-is_root-via-else-not-is_root}

pub returns-clause-new : goal.returns-clause-new
returns-clause-new c = sym c.in_ok-is_there.ensures.entry ∙ c.if-is_there.false

pub returns-clause-made : goal.returns-clause-made
returns-clause-made c = subst (λ (e : Entry). IsMade c.args.self.now.conf.now.types e.attrs) (sym c.new.ensures) c.in_ok-complete.ensures.made

pub complete-requires-clause-made : goal.complete-requires-clause-made
complete-requires-clause-made c = c.in_ok-attrs.ensures.made

pub returns-in_err-complete-clause-new : goal.returns-in_err-complete-clause-new
returns-in_err-complete-clause-new c = IfOk-from_err _ _ c.from_residual-in_err-complete.ensures.0

pub returns-in_err-complete-clause-made : goal.returns-in_err-complete-clause-made
returns-in_err-complete-clause-made c = IfOk-from_err _ _ c.from_residual-in_err-complete.ensures.0

pub returns-in_err-attrs-clause-new : goal.returns-in_err-attrs-clause-new
returns-in_err-attrs-clause-new c = IfOk-from_err _ _ c.from_residual-in_err-attrs.ensures.0

pub returns-in_err-attrs-clause-made : goal.returns-in_err-attrs-clause-made
returns-in_err-attrs-clause-made c = IfOk-from_err _ _ c.from_residual-in_err-attrs.ensures.0

pub returns-in_err-is_there-clause-new : goal.returns-in_err-is_there-clause-new
returns-in_err-is_there-clause-new c = IfOk-from_err _ _ c.from_residual.ensures.0

pub returns-in_err-is_there-clause-made : goal.returns-in_err-is_there-clause-made
returns-in_err-is_there-clause-made c = IfOk-from_err _ _ c.from_residual.ensures.0

pub returns-in_err-is_there-clause-gives : goal.returns-in_err-is_there-clause-gives
returns-in_err-is_there-clause-gives c = let p = err_from_is_err_and c.from_residual.result c.from_residual.ensures.1 in rw (p.1, p.2) tt

pub returns-clause-gives : goal.returns-clause-gives
returns-clause-gives c =
    let d = c.args.self.now.tree.now.entries in
    let conf = c.args.self.now.conf.now in
    let p = c.args.path.now in
    let above : (not (is_root p) && not (finite.contains_key d (parent_of p))) ≡ false = elim c.else-not-is_root.branch [
      | else-not-is_root-via-then-not-is_root+else-not-has_parent w ↦ has_parent (is_root p) (finite.contains_key d (parent_of p)) (sym c.in_ok-is_there.ensures.parent ∙ w.if-not-has_parent.false)
      | else-not-is_root-via-else-not-is_root w ↦ at_root (is_root p) (finite.contains_key d (parent_of p)) (sym c.is_root.ensures ∙ w.if-not-is_root.false)
    ] in
    let is = add_at_is conf c.args.self.now.mode d p c.args.rdn c.args.lines.now (attributes_of c.in_ok-attrs.attrs.entries) (sym c.in_ok-is_there.ensures.entry ∙ c.if-is_there.false) above c.in_ok-attrs.ensures.gives in
    is ∙ c.in_ok-complete.ensures.gives p ∙ ap (λ (e : Entry). Ok (Put p (content_of e))) (sym c.new.ensures)

pub returns-in_err-complete-clause-gives : goal.returns-in_err-complete-clause-gives
returns-in_err-complete-clause-gives c =
    let d = c.args.self.now.tree.now.entries in
    let conf = c.args.self.now.conf.now in
    let p = c.args.path.now in
    let above : (not (is_root p) && not (finite.contains_key d (parent_of p))) ≡ false = elim c.else-not-is_root.branch [
      | else-not-is_root-via-then-not-is_root+else-not-has_parent w ↦ has_parent (is_root p) (finite.contains_key d (parent_of p)) (sym c.in_ok-is_there.ensures.parent ∙ w.if-not-has_parent.false)
      | else-not-is_root-via-else-not-is_root w ↦ at_root (is_root p) (finite.contains_key d (parent_of p)) (sym c.is_root.ensures ∙ w.if-not-is_root.false)
    ] in
    let is = add_at_is conf c.args.self.now.mode d p c.args.rdn c.args.lines.now (attributes_of c.in_ok-attrs.attrs.entries) (sym c.in_ok-is_there.ensures.entry ∙ c.if-is_there.false) above c.in_ok-attrs.ensures.gives in
    let k = err_from_is_err_and c.from_residual-in_err-complete.result c.from_residual-in_err-complete.ensures.1 in
    rw (k.1, k.2) (subst (Fails (fault_of c.in_err-complete.field-0.0)) (sym is) (c.in_err-complete.ensures.gives p))

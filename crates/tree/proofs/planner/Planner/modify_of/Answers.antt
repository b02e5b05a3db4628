use Rattle.std.proofs.Common.{◌≡◌, ◌∙◌, sym, subst, ap, Option, Result}
use Rattle.std.specs.Prelude.{IfOk}
use Rattle.std.proofs.lemmas.Result.{IfOk-from_err}
use Rattle.base.specs.Answers.{◌>>=◌}
use Rattle.paths.specs.Paths.{Path}
use Rattle.schema.specs.declared.code.Code.{Code}
use Rattle.entries.specs.Gives.{Gives}
use Rattle.tree.specs.Changes.{Change, path_before}
use Rattle.std.specs.FinMap as finite
use Rattle.tree.specs.Modifies.{modify_there}
use Rattle.tree.specs.inner.Plans.{seen_change}
use Rattle.tree.proofs.Places.{modify_from, path_is, refused}
use Rattle.tree.proofs.planner.Planner.modify_of.Goals as goal

pub returns-clause-path : goal.returns-clause-path
returns-clause-path c =
    subst (λ (at : Option Path). IfOk c.modify_at.result (λ x. path_before (seen_change x) ≡ at)) (path_is c.args.self.now.conf.now c.args.dn.now c.in_ok-path.path c.in_ok-path.ensures) c.modify_at.ensures.path

pub returns-clause-gives : goal.returns-clause-gives
returns-clause-gives c =
    let is = modify_from c.args.self.now.conf.now c.args.self.now.tree.now.entries c.args.dn.now c.args.mods.now ∙ ap (λ (x : Result Path Code). x >>= (λ (p : Path). modify_there c.args.self.now.conf.now p c.args.mods.now (finite.get c.args.self.now.tree.now.entries p))) c.in_ok-path.ensures in
    subst (λ (said : Result Change Code). Gives seen_change c.modify_at.result said) (sym is) c.modify_at.ensures.gives

pub returns-in_err-path-clause-path : goal.returns-in_err-path-clause-path
returns-in_err-path-clause-path c = IfOk-from_err _ _ c.from_residual.ensures.0

pub returns-in_err-path-clause-change : goal.returns-in_err-path-clause-change
returns-in_err-path-clause-change c = IfOk-from_err _ _ c.from_residual.ensures.0

pub returns-in_err-path-clause-gives : goal.returns-in_err-path-clause-gives
returns-in_err-path-clause-gives c =
    refused seen_change c.from_residual.result c.in_err-path.field-0.0 _ ((λ (p : Path). modify_there c.args.self.now.conf.now p c.args.mods.now (finite.get c.args.self.now.tree.now.entries p))) _
    c.from_residual.ensures.1 c.in_err-path.ensures (modify_from c.args.self.now.conf.now c.args.self.now.tree.now.entries c.args.dn.now c.args.mods.now)

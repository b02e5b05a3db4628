use Rattle.std.proofs.Common.{◌≡◌, ◌∙◌, sym, subst, ap, Option, Result}
use Rattle.std.specs.Prelude.{IfOk}
use Rattle.std.proofs.lemmas.Result.{IfOk-from_err}
use Rattle.base.specs.Answers.{◌>>=◌}
use Rattle.paths.specs.Paths.{Path}
use Rattle.schema.specs.declared.code.Code.{Code}
use Rattle.entries.specs.Gives.{Gives}
use Rattle.tree.specs.Changes.{Change, path_before}
use Rattle.tree.specs.Deletes.{delete_at}
use Rattle.tree.specs.inner.Plans.{seen_change}
use Rattle.tree.proofs.Places.{delete_from, path_is, refused}
use Rattle.tree.proofs.planner.Planner.delete_of.Goals as goal

pub returns-clause-path : goal.returns-clause-path
returns-clause-path c =
    subst (λ (at : Option Path). IfOk c.delete_at.result (λ x. path_before (seen_change x) ≡ at)) (path_is c.args.self.now.conf.now c.args.dn.now c.in_ok-path.path c.in_ok-path.ensures) c.delete_at.ensures.path

pub returns-clause-gives : goal.returns-clause-gives
returns-clause-gives c =
    let is = delete_from c.args.self.now.conf.now c.args.self.now.tree.now.entries c.args.dn.now ∙ ap (λ (x : Result Path Code). x >>= (λ (p : Path). delete_at c.args.self.now.tree.now.entries p)) c.in_ok-path.ensures in
    subst (λ (said : Result Change Code). Gives seen_change c.delete_at.result said) (sym is) c.delete_at.ensures.gives

pub returns-in_err-path-clause-path : goal.returns-in_err-path-clause-path
returns-in_err-path-clause-path c = IfOk-from_err _ _ c.from_residual.ensures.0

pub returns-in_err-path-clause-change : goal.returns-in_err-path-clause-change
returns-in_err-path-clause-change c = IfOk-from_err _ _ c.from_residual.ensures.0

pub returns-in_err-path-clause-gives : goal.returns-in_err-path-clause-gives
returns-in_err-path-clause-gives c =
    refused seen_change c.from_residual.result c.in_err-path.field-0.0 _ ((λ (p : Path). delete_at c.args.self.now.tree.now.entries p)) _
    c.from_residual.ensures.1 c.in_err-path.ensures (delete_from c.args.self.now.conf.now c.args.self.now.tree.now.entries c.args.dn.now)

use Rattle.std.proofs.lemmas.Grind.{common_steps}
use Rattle.std.proofs.lemmas.Result.{IfOk-from_err}
use Rattle.std.proofs.Common.{List, sym, subst, arith}
use Rattle.std.specs.List.{AllByRecursion}
use Rattle.schema.specs.Rdns.{TypedRdn}
use Rattle.schema.specs.inner.Keys.{AreKnown}
use Rattle.schema.proofs.Found.{all_known}
use Rattle.schema.proofs.conf.Conf.new.Goals as goal

pub of-requires-clause-known : goal.of-requires-clause-known
of-requires-clause-known c =
    subst (λ (rs : List TypedRdn). AllByRecursion (AreKnown c.args.types) rs) (sym c.as_slice.ensures) (all_known c.args.types c.args.suffix c.requires.suffix)

pub returns-in_err-derived : goal.returns-in_err-derived
returns-in_err-derived c = IfOk-from_err _ _ c.from_residual.ensures.0

pub of-requires-clause-ordered : goal.of-requires-clause-ordered
of-requires-clause-ordered c = grind (arith, common_steps)

pub invariant_of-result : goal.invariant_of-result
invariant_of-result c = grind (arith, common_steps)

use Rattle.std.proofs.Common.{ℕ, Option, sym, ap, subst, ◌∙◌}
use Rattle.std.specs.Option.{MatchOption}
use Rattle.filter_text.specs.Depth.{IsShallow, IsDeepAt}
use Rattle.filter_text.specs.inner.Depth.{deep_from}
use Rattle.filter_text.proofs.Depths.{deep_found}
use Rattle.filter_text.proofs.depth.deep_at.Goals as goal

pub returns-clause-shallow : goal.returns-clause-shallow
returns-clause-shallow c =
    subst (λ (r : Option ℕ). MatchOption r (IsShallow c.args.text.now) (IsDeepAt c.args.text.now)) (sym (c.deep_from.ensures ∙ ap (λ n. deep_from 512 0 n 0 c.args.text.now) c.added.ensures.same)) (deep_found c.args.text.now)

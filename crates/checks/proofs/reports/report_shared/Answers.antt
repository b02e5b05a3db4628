use Rattle.std.proofs.Common.{◌<◌, ◌∙◌, List, ℕ, length, sym, subst}
use Rattle.std.specs.Prelude.{All}
use Rattle.checks.proofs.Reportable.{once_all}
use Rattle.checks.proofs.reports.report_shared.Goals as goal

pub put_types-requires : goal.put_types-requires
put_types-requires c = record {
  known = subst (λ (ts : List ℕ). All (λ t. t < length c.args.lent.conf.now.types) ts) (sym (c.as_slice.ensures.value ∙ c.in_ok-types.ensures))
      (once_all (λ t. t < length c.args.lent.conf.now.types) c.args.types.now c.requires);
}

use Rattle.std.proofs.Common.{sym, subst, ap, ◌∙◌}
use Rattle.index.specs.KeySets.{AreRowsOf}
use Rattle.index.specs.inner.Buckets.{all_rows}
use Rattle.index.proofs.Gathered.{rows_gathered}
use Rattle.index.proofs.buckets.Buckets.rows.Goals as goal

pub returns : goal.returns
returns c = subst (AreRowsOf c.args.self.now) (ap all_rows (sym (c.iter.ensures.rest ∙ c.deref.ensures.value))) (rows_gathered c.self.inside.sets.items c.args.self.now c.self.view_is c.self.invariant)

use Rattle.std.proofs.Common.{refl, sym, subst, ap, ◌∙◌}
use Rattle.index.specs.KeySets.{AreRowsOf}
use Rattle.index.specs.inner.MergedRows.{merged}
use Rattle.index.specs.inner.BucketRows.{rows_left}
use Rattle.index.specs.inner.ShortKeys.{fits}
use Rattle.index.specs.inner.JoinedSets.{joined}
use Rattle.index.proofs.Merged.{rows_joined}
use Rattle.index.proofs.key_sets.KeySets.rows.Goals as goal

pub returns : goal.returns
returns c =
    subst (AreRowsOf c.args.self.now) (sym (c.of.ensures ∙ ap (merged (rows_left c.rows-3.result)) c.of-others.ensures))
    (rows_joined (fits 4) c.self.inside.tiny (joined (fits 32) c.self.inside.short c.self.inside.long) c.args.self.now _ _ c.self.view_is c.self.invariant.0 c.rows-3.ensures
    (rows_joined (fits 32) c.self.inside.short c.self.inside.long _ _ _ refl c.self.invariant.1 c.rows.ensures.rows c.rows-2.ensures.rows))

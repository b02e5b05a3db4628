use Rattle.std.proofs.Common.{sym, subst, ap, ◌∙◌}
use Rattle.std.specs.Map.{keys_of}
use Rattle.index.specs.KeySets.{AreRowsOf}
use Rattle.index.specs.inner.StoredSets.{rows_by}
use Rattle.index.proofs.Keyed.{rows_are, in_order, each_found, get_is}
use Rattle.index.proofs.Gathered.{entries_are}
use Rattle.index.proofs.keyed_sets.KeyedSets.rows.Goals as goal

pub returns-clause-rows : goal.returns-clause-rows
returns-clause-rows g c = subst (AreRowsOf c.args.self.now) (ap (rows_by g.K.StoredKey.bytes) (sym c.iter.ensures.rest))
    (rows_are g.K.StoredKey.bytes c.self.inside.sets c.args.self.now c.self.view_is c.self.invariant
    (in_order g.K.StoredKey.bytes g.K.Ord.cmp g.met.K.StoredKey.by_bytes (keys_of c.self.inside.sets.entries) c.iter.ensures.ordered)
    (each_found g.K.StoredKey.bytes g.K.Ord.cmp g.met.K.StoredKey.by_bytes c.self.inside.sets c.iter.ensures.found))

pub returns-clause-entries : goal.returns-clause-entries
returns-clause-entries g c =
    let rise = (rows_are g.K.StoredKey.bytes c.self.inside.sets c.args.self.now c.self.view_is c.self.invariant
    (in_order g.K.StoredKey.bytes g.K.Ord.cmp g.met.K.StoredKey.by_bytes (keys_of c.self.inside.sets.entries) c.iter.ensures.ordered)
    (each_found g.K.StoredKey.bytes g.K.Ord.cmp g.met.K.StoredKey.by_bytes c.self.inside.sets c.iter.ensures.found)).rise in
    ap (rows_by g.K.StoredKey.bytes) c.iter.ensures.rest
    ∙ entries_are (rows_by g.K.StoredKey.bytes c.self.inside.sets.entries) c.args.self.now rise (get_is g.K.StoredKey.bytes c.self.inside.sets c.args.self.now c.self.view_is)

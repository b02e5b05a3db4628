use Rattle.index_keys.proofs.InOrder.{rise, among}
use Rattle.index_keys.proofs.gathering.in_order.Goals as goal

pub returns-clause-rise : goal.returns-clause-rise
returns-clause-rise g c = rise g.K.RankedKey.pair g.K.Ord.cmp g.K.PartialEq.eq g.met.K.Ord.total g.met.K.Ord.matches_eq g.met.K.RankedKey.by_pair c.args.keys.items c.sort_unstable.new.self.items c.dedup.new.self.items c.sort_unstable.ensures.permutation c.sort_unstable.ensures.sorted c.dedup.ensures.filtered

pub returns-clause-same : goal.returns-clause-same
returns-clause-same g c = among g.K.RankedKey.pair g.K.Ord.cmp g.K.PartialEq.eq g.met.K.Ord.total g.met.K.Ord.matches_eq g.met.K.RankedKey.by_pair c.args.keys.items c.sort_unstable.new.self.items c.dedup.new.self.items c.sort_unstable.ensures.permutation c.sort_unstable.ensures.sorted c.dedup.ensures.filtered

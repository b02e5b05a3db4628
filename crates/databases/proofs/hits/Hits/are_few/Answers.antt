use Rattle.std.proofs.Common.{◌<◌, ◌^◌, length, subst}
use Rattle.filter_text.specs.Spells.{view}
use Rattle.databases.specs.Walks.{Walk}
use Rattle.databases.proofs.FewHits.{few_lent}
use Rattle.databases.proofs.hits.Hits.are_few.Goals as goal

pub returns : goal.returns
returns g c =
    let h = c.self.inside in
    subst (λ (w : Walk). length w.to_come < 2 ^ 64) c.self.view_is (few_lent h.filter.now.conf.types h.scope h.base_depth (view h.filter.now.filter) h.meter h.rest c.self.invariant.1)

use Rattle.std.proofs.Common.{◌∙◌}
use Rattle.index.proofs.Search.{found}
use Rattle.index.proofs.key_lists.is_among.Goals as goal

pub returns : goal.returns
returns c = c.is_ok.ensures.value ∙ found (λ k. k.now) c.args.keys.now c.args.key.now c.binary_search.result c.requires c.binary_search.ensures.bound c.binary_search.ensures.position

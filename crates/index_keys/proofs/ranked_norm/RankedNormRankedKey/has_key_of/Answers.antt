use Rattle.std.proofs.Common.{◌∙◌}
use Rattle.std.proofs.lemmas.Map.Text.{is_eq-slice_cmp}
use Rattle.index_keys.proofs.ranked_norm.RankedNormRankedKey.has_key_of.Goals as goal

pub returns : goal.returns
returns c = c.eq.ensures ∙ is_eq-slice_cmp c.args.other.now.key.norm.now c.args.self.now.key.norm.now

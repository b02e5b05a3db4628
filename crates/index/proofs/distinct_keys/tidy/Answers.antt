use Rattle.std.proofs.Common.{map, refl}
use Rattle.std.proofs.lemmas.List.Filters.{dedup_is}
use Rattle.index.proofs.Distinct.{are_keys, any_texts, keys_that}
use Rattle.index.proofs.distinct_keys.tidy.Goals as goal

pub returns : goal.returns
returns c =
    keys_that _ _ _ (λ q. any_texts (λ k. k.now) q c.args.keys.now.items)
    (are_keys (λ k. k.now) (map (λ k. k.now) c.args.keys.now.items) c.args.keys.now.items c.sort_unstable.new.self.items c.dedup.new.self.items refl c.sort_unstable.ensures.permutation c.sort_unstable.ensures.sorted (dedup_is _ _ _ c.dedup.ensures.filtered))

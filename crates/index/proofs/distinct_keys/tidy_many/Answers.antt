use Rattle.std.proofs.Common.{sym, ◌∙◌}
use Rattle.index.proofs.Distinct.{any_texts}
use Rattle.index.proofs.distinct_keys.tidy_many.Goals as goal

pub returns : goal.returns
returns c = λ q. sym (any_texts (λ k. k.now) q c.tidy.new.keys.items) ∙ c.tidy.ensures.exact q

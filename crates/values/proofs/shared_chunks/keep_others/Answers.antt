use Rattle.std.proofs.Common.{rules, not}
use Rattle.std.specs.Str.{bytes_eq}
use Rattle.values.specs.Values.{Value}
use Rattle.values.proofs.Retained.{retained}
use Rattle.values.proofs.shared_chunks.keep_others.Goals as goal

pub returns : goal.returns
returns c = retained _ (λ (v : Value). not (bytes_eq v.norm c.args.norm.now)) _ (λ x y b q said. search rules) _ _ c.retain_mut.ensures.filtered

use Rattle.std.proofs.Common.{ℕ, List, ap, nat_eq}
use Rattle.std.specs.Cmp.Lexicographic.{pointwise}
use Rattle.std.specs.Map.{lookup}
use Rattle.paths.specs.Packed.{pack}
use Rattle.sentences.proofs.missing.RefusedAdds.new.Goals as goal

pub returns : goal.returns
returns c = λ path. ap (λ (es : List (List ℕ × ℕ)). lookup (pointwise nat_eq (pack path)) es) c.new.ensures.empty

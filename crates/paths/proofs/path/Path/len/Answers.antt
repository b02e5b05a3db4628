use Rattle.std.proofs.Common.{List, ℕ, ap, ◌∙◌}
use Rattle.std.specs.Prelude.{◌==◌, count_by}
use Rattle.paths.proofs.PackedPaths.{ends_counted}
use Rattle.paths.proofs.path.Path.len.Goals as goal

pub returns : goal.returns
returns c = c.count_ends.ensures ∙ ap (λ (bs : List ℕ). count_by (λ b. b == 0) bs) c.bytes.ensures ∙ ends_counted c.args.self.now

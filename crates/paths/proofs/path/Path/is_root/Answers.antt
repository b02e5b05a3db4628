use Rattle.std.proofs.Common.{List, ℕ, ap, ◌∙◌, length}
use Rattle.std.specs.Prelude.{◌==◌}
use Rattle.paths.proofs.PackedPaths.{root_is_empty}
use Rattle.paths.proofs.path.Path.is_root.Goals as goal

pub returns : goal.returns
returns c = c.is_empty.ensures ∙ ap (λ (bs : List ℕ). length bs == 0) c.bytes.ensures ∙ root_is_empty c.args.self.now

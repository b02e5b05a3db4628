use Rattle.std.proofs.Common.{◌∙◌}
use Rattle.std.specs.Prelude.{nat_eq}
use Rattle.std.specs.List.{starts_with}
use Rattle.paths.proofs.PackedPaths.{begins_packed}
use Rattle.paths.proofs.path.Path.begins.Goals as goal

pub returns : goal.returns
returns c = c.starts_with.ensures.value ∙ (λ i. starts_with nat_eq (c.bytes.ensures i) (c.bytes-2.ensures i)) ∙ begins_packed c.args.self.now c.args.other.now

use Rattle.std.proofs.Common.{◌∙◌, ap}
use Rattle.std.specs.Prelude.{nat_eq}
use Rattle.std.specs.List.{starts_with}
use Rattle.paths.specs.Paths.{Path, parent_of}
use Rattle.paths.specs.Packed.{pack}
use Rattle.paths.proofs.PackedPaths.{begins_packed}
use Rattle.paths.proofs.Unpacked.{reads_as, is_packed}
use Rattle.paths.proofs.path.Path.parent_begins.Goals as goal

pub parent_len-requires : goal.parent_len-requires
parent_len-requires c = is_packed c.bytes-bytes.result.now c.args.self.now c.bytes-bytes.ensures

pub returns : goal.returns
returns c =
    let cut = c.parent_len.ensures.cut ∙ ap (λ (p : Path). pack (parent_of p)) (reads_as c.bytes-bytes.result.now c.args.self.now c.bytes-bytes.ensures) in
    c.starts_with.ensures.value ∙ (λ i. starts_with nat_eq (c.bytes.ensures i) (cut i)) ∙ begins_packed (parent_of c.args.self.now) c.args.other.now

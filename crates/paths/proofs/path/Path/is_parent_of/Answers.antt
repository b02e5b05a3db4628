use Rattle.std.proofs.Common.{◌∙◌, ap}
use Rattle.std.specs.Prelude.{nat_eq}
use Rattle.std.specs.Ordering.{is_eq}
use Rattle.std.specs.Cmp.Lexicographic.{pointwise, texts_ties}
use Rattle.paths.specs.Paths.{Path, parent_of}
use Rattle.paths.specs.Packed.{pack}
use Rattle.paths.proofs.PackOrder.{packed_order}
use Rattle.paths.proofs.Unpacked.{reads_as, is_packed}
use Rattle.paths.proofs.path.Path.is_parent_of.Goals as goal

pub parent_len-requires : goal.parent_len-requires
parent_len-requires c = is_packed c.bytes-bytes.result.now c.args.other.now c.bytes-bytes.ensures

pub returns : goal.returns
returns c =
    let cut = c.parent_len.ensures.cut ∙ ap (λ (p : Path). pack (parent_of p)) (reads_as c.bytes-bytes.result.now c.args.other.now c.bytes-bytes.ensures) in
    c.eq.ensures ∙ (λ i. pointwise nat_eq (c.bytes.ensures i) (cut i))
    ∙ texts_ties (pack c.args.self.now) (pack (parent_of c.args.other.now)) ∙ ap is_eq (packed_order c.args.self.now (parent_of c.args.other.now))

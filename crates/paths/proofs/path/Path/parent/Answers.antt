use Rattle.std.proofs.Common.{◌≡◌, ap, ◌∙◌}
use Rattle.paths.specs.Paths.{parent_of}
use Rattle.paths.specs.Packed.{pack}
use Rattle.paths.proofs.Unpacked.{reads_as, is_packed}
use Rattle.paths.proofs.path.Path.parent.Goals as goal
use Rattle.paths.proofs.path.Path.parent.Goals.{In_ok-from_slice}

pub parent_len-requires : goal.parent_len-requires
parent_len-requires c = is_packed c.bytes-bytes.result.now c.args.self.now c.bytes-bytes.ensures

is_cut : (c : In_ok-from_slice) → c.in_ok-from_slice.field-0.items ≡ pack (parent_of c.args.self.now)
is_cut c =
    c.in_ok-from_slice.ensures.ok ∙ c.parent_len.ensures.cut ∙ ap (λ p. pack (parent_of p)) (reads_as c.bytes-bytes.result.now c.args.self.now c.bytes-bytes.ensures)

pub invariant_of-result : goal.invariant_of-result
invariant_of-result c = is_packed c.in_ok-from_slice.field-0.items (parent_of c.args.self.now) (is_cut c)

pub returns : goal.returns
returns c = reads_as c.in_ok-from_slice.field-0.items (parent_of c.args.self.now) (is_cut c)

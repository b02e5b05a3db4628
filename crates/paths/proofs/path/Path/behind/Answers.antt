use Rattle.std.proofs.Common.{◌≡◌, ◌∙◌, length, drop, arith}
use Rattle.paths.specs.Packed.{pack}
use Rattle.paths.proofs.Unpacked.{reads_as, is_packed}
use Rattle.paths.proofs.PackedPaths.{front_fits, rest_packed}
use Rattle.paths.proofs.path.Path.behind.Goals as goal
use Rattle.paths.proofs.path.Path.behind.Goals.{In_ok-from_slice}

pub split_at-requires : goal.split_at-requires
split_at-requires c =
    let fits = front_fits c.args.upper.now c.args.self.now c.bytes-2.result.now c.bytes.result.now c.bytes-2.ensures c.bytes.ensures c.requires in
    omega (arith, fits)

rest_is : (c : In_ok-from_slice) → c.in_ok-from_slice.field-0.items ≡ pack (drop (length c.args.upper.now) c.args.self.now)
rest_is c =
    c.in_ok-from_slice.ensures.ok ∙ c.split_at.ensures.back
    ∙ rest_packed c.args.upper.now c.args.self.now c.bytes-2.result.now c.bytes.result.now c.bytes-2.ensures c.bytes.ensures c.requires

pub invariant_of-result : goal.invariant_of-result
invariant_of-result c = is_packed c.in_ok-from_slice.field-0.items (drop (length c.args.upper.now) c.args.self.now) (rest_is c)

pub returns : goal.returns
returns c = reads_as c.in_ok-from_slice.field-0.items (drop (length c.args.upper.now) c.args.self.now) (rest_is c)

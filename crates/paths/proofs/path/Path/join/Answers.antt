use Rattle.std.proofs.Common.{◌≡◌, ◌∙◌, ◌++◌, sym}
use Rattle.paths.specs.Packed.{pack}
use Rattle.paths.proofs.Unpacked.{reads_as, is_packed}
use Rattle.paths.proofs.PackedPaths.{pack_append}
use Rattle.paths.proofs.path.Path.join.Goals as goal
use Rattle.paths.proofs.path.Path.join.Goals.{In_ok-extend_from_slice}

joined : (c : In_ok-extend_from_slice) → c.extend_from_slice.new.self.items ≡ pack (c.args.self.now ++ c.args.rest.now)
joined c =
    c.in_ok-extend_from_slice.ensures.ok
    ∙ (λ i. (c.in_ok-bytes.ensures.ok ∙ c.bytes.ensures) i ++ c.bytes-2.ensures i)
    ∙ sym (pack_append c.args.self.now c.args.rest.now)

pub invariant_of-result : goal.invariant_of-result
invariant_of-result c = is_packed _ (c.args.self.now ++ c.args.rest.now) (joined (goal.at.invariant_of-result c).In_ok-extend_from_slice)

pub returns : goal.returns
returns c = reads_as _ (c.args.self.now ++ c.args.rest.now) (joined (goal.at.returns c).In_ok-extend_from_slice)

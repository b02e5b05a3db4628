use Rattle.std.proofs.Common.{◌≡◌, ◌++◌, ◌∷◌, [], ap}
use Rattle.paths.specs.Packed.{step_code, pack}
use Rattle.paths.proofs.Unpacked.{bytes_of, reads_as, is_packed}
use Rattle.paths.proofs.PackedPaths.{packed_more}
use Rattle.paths.proofs.draft.PathDraft.with_key.Goals as goal
use Rattle.paths.proofs.draft.PathDraft.with_key.Goals.{In_ok-push_step}

pushed : (c : In_ok-push_step) → c.push_step.new.out.items ≡ pack (c.args.self ++ c.args.key.now ∷ [])
pushed c =
    packed_more c.args.self c.args.key.now c.self.inside.bytes.items (step_code c.pairs.result.now) c.push_step.new.out.items
    (bytes_of c.self.inside.bytes.items c.args.self c.self.invariant c.self.view_is)
    (ap step_code c.pairs.ensures) c.in_ok-push_step.ensures

pub invariant_of-result : goal.invariant_of-result
invariant_of-result c = is_packed c.push_step.new.out.items (c.args.self ++ c.args.key.now ∷ []) (pushed (goal.at.invariant_of-result c).In_ok-push_step)

pub returns : goal.returns
returns c = reads_as c.push_step.new.out.items (c.args.self ++ c.args.key.now ∷ []) (pushed (goal.at.returns c).In_ok-push_step)

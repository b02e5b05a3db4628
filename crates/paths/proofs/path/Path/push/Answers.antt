use Rattle.std.proofs.Common.{◌≡◌, ◌++◌, ◌∷◌, [], ap, ◌∙◌}
use Rattle.paths.specs.Packed.{step_code, pack}
use Rattle.paths.proofs.Unpacked.{bytes_of, reads_as, is_packed}
use Rattle.paths.proofs.PackedPaths.{packed_more}
use Rattle.paths.proofs.path.Path.push.Goals as goal
use Rattle.paths.proofs.path.Path.push.Goals.{In_ok-extend_from_slice}

pushed : (c : In_ok-extend_from_slice) → c.extend_from_slice.new.self.items ≡ pack (c.args.self.now ++ c.args.step ∷ [])
pushed c =
    packed_more c.args.self.now c.args.step c.self.inside.bytes.items c.deref.result.now c.extend_from_slice.new.self.items
    (bytes_of c.self.inside.bytes.items c.args.self.now c.self.invariant c.self.view_is)
    (c.deref.ensures.value ∙ c.in_ok-push_step.ensures ∙ ap (λ bs. bs ++ step_code c.pairs.result.now) c.new-code.ensures.items ∙ ap step_code c.pairs.ensures)
    c.in_ok-extend_from_slice.ensures.ok

pub invariant_of-self-2 : goal.invariant_of-self-2
invariant_of-self-2 c = is_packed c.extend_from_slice.new.self.items (c.args.self.now ++ c.args.step ∷ []) (pushed (goal.at.invariant_of-self-2 c).In_ok-extend_from_slice)

pub returns-clause-ok : goal.returns-clause-ok
returns-clause-ok c = reads_as c.extend_from_slice.new.self.items (c.args.self.now ++ c.args.step ∷ []) (pushed (goal.at.returns-clause-ok c).In_ok-extend_from_slice)

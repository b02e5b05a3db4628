use Rattle.std.proofs.Common.{◌≡◌, ◌++◌, ◌∷◌, [], refl}
use Rattle.paths.specs.Packed.{step_code, pack}
use Rattle.paths.proofs.Unpacked.{bytes_of, reads_as, is_packed}
use Rattle.paths.proofs.PackedPaths.{packed_more}
use Rattle.paths.proofs.draft.PathDraft.with.Goals as goal
use Rattle.paths.proofs.draft.PathDraft.with.Goals.{In_ok-push_single}

pushed : (c : In_ok-push_single) → c.push_single.new.out.items ≡ pack (c.args.self ++ ((c.args.t, c.args.norm.now) ∷ []) ∷ [])
pushed c =
    packed_more c.args.self ((c.args.t, c.args.norm.now) ∷ []) c.self.inside.bytes.items (step_code ((c.args.t, c.args.norm.now) ∷ [])) c.push_single.new.out.items
    (bytes_of c.self.inside.bytes.items c.args.self c.self.invariant c.self.view_is)
    refl c.in_ok-push_single.ensures

pub invariant_of-result : goal.invariant_of-result
invariant_of-result c = is_packed c.push_single.new.out.items (c.args.self ++ ((c.args.t, c.args.norm.now) ∷ []) ∷ []) (pushed (goal.at.invariant_of-result c).In_ok-push_single)

pub returns : goal.returns
returns c = reads_as c.push_single.new.out.items (c.args.self ++ ((c.args.t, c.args.norm.now) ∷ []) ∷ []) (pushed (goal.at.returns c).In_ok-push_single)

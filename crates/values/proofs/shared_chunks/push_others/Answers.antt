use Rattle.std.proofs.Common.{arith, ◌∙◌, ◌++◌, ◌≡◌, [], ◌∷◌, rules, sym, ap, append-nil, false}
use Rattle.std.proofs.lemmas.Grind.{common_steps}
use Rattle.std.proofs.lemmas.List.Concat.{flat_map-append}
use Rattle.std.specs.List.{flat_map}
use Rattle.values.proofs.Norms.{none_goes}
use Rattle.values.specs.Norms.{has_norm}
use Rattle.values.proofs.shared_chunks.push_others.Goals as goal

pub returns-then-not-is_among : goal.returns-then-not-is_among
returns-then-not-is_among c =
    let none : has_norm c.args.norm.now c.args.chunk.now.value.items ≡ false = search rules in
    ap (flat_map (λ r. r.value.items)) c.in_ok-push.ensures.items
    ∙ flat_map-append (λ r. r.value.items) c.args.chunks.now.items (c.in_ok-clone.field-0 ∷ [])
    ∙ ap (λ vs. flat_map (λ r. r.value.items) c.args.chunks.now.items ++ vs) (append-nil c.in_ok-clone.field-0.value.items ∙ ap (λ v. v.items) c.in_ok-clone.ensures.cases ∙ sym (none_goes c.args.norm.now c.args.chunk.now.value.items none))

pub returns-in_ok-push-2 : goal.returns-in_ok-push-2
returns-in_ok-push-2 c = grind (arith, common_steps)

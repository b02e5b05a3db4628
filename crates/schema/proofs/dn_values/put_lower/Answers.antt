use Rattle.std.proofs.Common.{◌++◌, ◌+◌, ◌∷◌, [], List, ℕ, drop, refl, sym, ap, ◌∙◌, append_assoc}
use Rattle.std.proofs.lemmas.List.{append-nil, drop_more}
use Rattle.matching.specs.Forms.{lower}
use Rattle.schema.proofs.Rest.{none_left}
use Rattle.schema.proofs.dn_values.put_lower.Goals as goal

pub loop-b-preserved : goal.loop-b-preserved
loop-b-preserved c =
    let out = c.loop-b.out.items in
    let rest = drop (c.loop-b.b-index + 1) c.args.name.now in
    ap (λ (bs : List ℕ). bs ++ lower rest) (c.in_ok-push.ensures.items ∙ ap (λ (b : ℕ). out ++ b ∷ []) c.to_ascii_lowercase.ensures.value)
    ∙ append_assoc out _ (lower rest)
    ∙ sym (ap (λ (bs : List ℕ). out ++ lower bs) (drop_more c.args.name.now c.loop-b.b-index 0 c.loop-b-test.true))
    ∙ c.loop-b.invariant

pub returns : goal.returns
returns c =
    sym (ap (λ (bs : List ℕ). c.loop-b.out.items ++ lower bs) (none_left c.args.name.now _ c.loop-b.b-index refl c.loop-b-test.false) ∙ append-nil c.loop-b.out.items) ∙ c.loop-b.invariant

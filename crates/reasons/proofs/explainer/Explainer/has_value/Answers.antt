use Rattle.std.proofs.Common.{◌≡◌, ℕ, List, Option, [], sym, ap, ◌∙◌}
use Rattle.std.specs.Prelude.{unwrap_or}
use Rattle.values.specs.Norms.{has_norm}
use Rattle.values.specs.Values.{Value}
use Rattle.schema.specs.Values.{norm_at}
use Rattle.entries.proofs.StoredLemmas.{equal_stored}
use Rattle.reasons.proofs.explainer.Explainer.has_value.Goals as goal

pub returns-in-Some : goal.returns-in-Some
returns-in-Some c =
    let types = c.args.self.now.conf.now.types in
    let t = c.args.ava.now.0 in
    let es = c.args.attrs.now in
    let v : Value = c.in_ok-value.value in
    let normal : v.norm ≡ norm_at types t c.args.ava.now.1 = ap (λ (x : Value). x.norm) c.in_ok-value.ensures ∙ ap (norm_at types t) c.as_slice.ensures in
    c.has_norm.ensures
    ∙ ap (λ (n : List ℕ). has_norm n c.in-Some.values.now) c.norm.ensures
    ∙ ap (λ (o : Option (List Value)). has_norm v.norm (unwrap_or o [])) c.in-Some.ensures
    ∙ sym (equal_stored types t c.args.ava.now.1 v.norm es c.requires.made normal)

pub returns : goal.returns
returns c =
    let types = c.args.self.now.conf.now.types in
    let t = c.args.ava.now.0 in
    let es = c.args.attrs.now in
    let v : Value = c.in_ok-value.value in
    let normal : v.norm ≡ norm_at types t c.args.ava.now.1 = ap (λ (x : Value). x.norm) c.in_ok-value.ensures ∙ ap (norm_at types t) c.as_slice.ensures in
    ap (λ (o : Option (List Value)). has_norm v.norm (unwrap_or o [])) c.in-None.ensures
    ∙ sym (equal_stored types t c.args.ava.now.1 v.norm es c.requires.made normal)

use Rattle.std.proofs.Common.{◌≡◌, ◌∙◌, ◌∷◌, ◌++◌, [], sym, subst, ap, true, false, List, ℕ, length}
use Rattle.std.proofs.lemmas.Bool.{ltb-true}
use Rattle.std.proofs.lemmas.Result.{on_ok_weaker}
use Rattle.values.specs.Norms.{has_norm}
use Rattle.values.specs.Values.{Value}
use Rattle.entries.specs.Entries.{values_of}
use Rattle.entries.specs.Modifies.{set_values}
use Rattle.entries.specs.StoredEntries.{EntryAttribute, attributes_of, IsMade}
use Rattle.entries.proofs.LineLemmas.{ava_is, ava_value, ava_normal}
use Rattle.entries.proofs.StoredLemmas.{raws_pushed, made_pushed}
use Rattle.reasons.proofs.RenameFound.{set_last_value}
use Rattle.reasons.proofs.explainer.Explainer.put_ava.Goals as goal

pub returns-then-has_norm-clause-values : goal.returns-then-has_norm-clause-values
returns-then-has_norm-clause-values c =
    let types = c.args.self.now.conf.now.types in
    let es : List EntryAttribute = c.args.attrs.now.items in
    let t = c.args.ava.now.0 in
    let v : Value = c.in_ok-value.value in
    let values : c.in_ok-values.values ≡ values_of es t = c.in_ok-values.ensures ∙ ap (λ (xs : List EntryAttribute). values_of xs t) c.deref.ensures.value in
    let there : has_norm v.norm (values_of es t) ≡ true = sym (c.has_norm.ensures ∙ ap (λ (n : List ℕ). has_norm n c.in_ok-values.values) c.norm.ensures ∙ ap (has_norm v.norm) values) ∙ c.if-has_norm.true in
    sym (ava_is types es c.requires.made t v (ava_normal types t c.as_slice.result.now v c.in_ok-value.ensures) true (sym there) c.args.ava.now (ava_value types c.args.ava.now c.as_slice.result.now v c.as_slice.ensures c.in_ok-value.ensures))

pub returns-clause-made : goal.returns-clause-made
returns-clause-made c =
    let types = c.args.self.now.conf.now.types in
    let es : List EntryAttribute = c.args.attrs.now.items in
    let t = c.args.ava.now.0 in
    let v : Value = c.in_ok-value.value in
    let values : c.in_ok-values.values ≡ values_of es t = c.in_ok-values.ensures ∙ ap (λ (xs : List EntryAttribute). values_of xs t) c.deref.ensures.value in
    on_ok_weaker c.set_values.result
    (λ done. subst (IsMade types) (sym (done ∙ ap (set_values es t) (c.in_ok-push.ensures.ok ∙ ap (λ (vs : List Value). vs ++ v ∷ []) values) ∙ set_last_value t v es))
    (made_pushed types t es v c.requires.made (ltb-true t (length types) c.requires.ava.known) (ava_normal types t c.as_slice.result.now v c.in_ok-value.ensures)))
    c.set_values.ensures

pub returns-clause-values : goal.returns-clause-values
returns-clause-values c =
    let types = c.args.self.now.conf.now.types in
    let es : List EntryAttribute = c.args.attrs.now.items in
    let t = c.args.ava.now.0 in
    let v : Value = c.in_ok-value.value in
    let values : c.in_ok-values.values ≡ values_of es t = c.in_ok-values.ensures ∙ ap (λ (xs : List EntryAttribute). values_of xs t) c.deref.ensures.value in
    let new : has_norm v.norm (values_of es t) ≡ false = sym (c.has_norm.ensures ∙ ap (λ (n : List ℕ). has_norm n c.in_ok-values.values) c.norm.ensures ∙ ap (has_norm v.norm) values) ∙ c.if-has_norm.false in
    on_ok_weaker c.set_values.result
    (λ done. ap attributes_of (done ∙ ap (set_values es t) (c.in_ok-push.ensures.ok ∙ ap (λ (vs : List Value). vs ++ v ∷ []) values) ∙ set_last_value t v es)
    ∙ raws_pushed es t v
    ∙ sym (ava_is types es c.requires.made t v (ava_normal types t c.as_slice.result.now v c.in_ok-value.ensures) false (sym new) c.args.ava.now (ava_value types c.args.ava.now c.as_slice.result.now v c.as_slice.ensures c.in_ok-value.ensures)))
    c.set_values.ensures

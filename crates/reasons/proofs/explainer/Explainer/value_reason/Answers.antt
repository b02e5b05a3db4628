use Rattle.std.proofs.Common.{◌≡◌, ℕ, ◌+◌, suc, List, Some, take, true, false, refl, ap, subst, ◌∙◌, arith}
use Rattle.std.specs.Option.{option_map}
use Rattle.std.specs.List.{slice_get}
use Rattle.std.proofs.lemmas.Grind.{common_steps}
use Rattle.values.specs.Norms.{has_norm}
use Rattle.values.specs.Values.{Value}
use Rattle.schema.specs.Values.{is_valid_at, norm_at}
use Rattle.entries.specs.Entries.{values_of, has_equal}
use Rattle.entries.specs.StoredEntries.{attributes_of}
use Rattle.reasons.specs.BlockFlaws.{values_with}
use Rattle.reasons.specs.Reasons.{value_flaw_of}
use Rattle.reasons.specs.inner.Changes.{KeepsValues, is_there}
use Rattle.reasons.proofs.ValuesFound.{bad_found, looked, equal_told, one_looked, value_at, found_by, as_value, both_none}
use Rattle.reasons.proofs.RecordFound.{ok_map}
use Rattle.reasons.proofs.explainer.Explainer.value_reason.Goals as goal

pub returns-in-Err-Invalid-clause-found : goal.returns-in-Err-Invalid-clause-found
returns-in-Err-Invalid-clause-found c =
    let types = c.args.self.now.conf.now.types in
    let m = c.args.block.now in
    let i = c.args.index in
    let v = c.index-as_slice-index.result in
    let h = c.index-as_slice-index.is in
    let at : slice_get m.values i ≡ Some v = value_at m.values c.as_slice.result.now i v c.as_slice.ensures c.requires.within c.index-as_slice-index.is in
    let invalid : is_valid_at types c.args.t v ≡ false = grind (arith, common_steps) in
    bad_found types (attributes_of c.args.attrs.now) m i v at c.args.t c.requires.type_id invalid

pub returns-clause-found : goal.returns-clause-found
returns-clause-found c =
    let types = c.args.self.now.conf.now.types in
    let m = c.args.block.now in
    let i = c.args.index in
    let t = c.args.t in
    let es = c.args.attrs.now in
    let v = c.index-as_slice-index.result in
    let at : slice_get m.values i ≡ Some v = value_at m.values c.as_slice.result.now i v c.as_slice.ensures c.requires.within c.index-as_slice-index.is in
    let valid : is_valid_at types t v ≡ true = grind (arith, common_steps) in
    let norm_is : c.in-Ok.value.norm ≡ norm_at types t v = ap (λ (x : Value). x.norm) c.in-Ok.ensures.1 ∙ ap (norm_at types t) c.as_slice-2.ensures in
    let told = equal_told types t v m.op es c.args.changed.now.come c.in-Ok.value.norm c.requires.made c.requires.kept.normal norm_is in
    let there : has_equal types t v (values_with types t m.op (values_of (attributes_of es) t) (take i m.values)) ≡ is_there m.op (has_norm c.in-Ok.value.norm (values_of es t)) (has_norm c.in-Ok.value.norm c.args.changed.now.come) =
    subst (λ (ws : List (List ℕ)). has_equal types t v (values_with types t m.op (values_of (attributes_of es) t) ws) ≡ is_there m.op (has_norm c.in-Ok.value.norm (values_of es t)) (has_norm c.in-Ok.value.norm c.args.changed.now.come)) c.requires.kept.come_are told in
    ok_map _ _ (λ why is. found_by types (attributes_of es) m i (option_map value_flaw_of why) _ is (looked types (attributes_of es) m i v at t c.requires.type_id valid m.op refl _ there)) c.look.result (c.look.ensures.found (values_of es t) c.requires.kept.before)

pub returns-clause-kept : goal.returns-clause-kept
returns-clause-kept c =
    let types = c.args.self.now.conf.now.types in
    let m = c.args.block.now in
    let i = c.args.index in
    let t = c.args.t in
    let es = c.args.attrs.now in
    let v = c.index-as_slice-index.result in
    let at : slice_get m.values i ≡ Some v = value_at m.values c.as_slice.result.now i v c.as_slice.ensures c.requires.within c.index-as_slice-index.is in
    let value_is : c.in-Ok.value ≡ record { raw = v; norm = norm_at types t v } = c.in-Ok.ensures.1 ∙ ap (as_value types t) c.as_slice-2.ensures in
    let one : suc i ≡ i + 1 = omega arith in
    both_none c.look.result _ _ (KeepsValues types t (values_of es t) (take (i + 1) m.values) c.look.new.self)
    (λ seen come. subst (λ (n : ℕ). KeepsValues types t (values_of es t) (take n m.values) c.look.new.self) one
    (one_looked types t (values_of es t) m.values i v at c.args.changed.now c.look.new.self c.in-Ok.value c.requires.kept value_is c.look.ensures.before seen come))
    c.look.ensures.seen c.look.ensures.come

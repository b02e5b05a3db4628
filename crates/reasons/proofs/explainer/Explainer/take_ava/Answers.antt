use Rattle.std.proofs.Common.{◌≡◌, ◌∙◌, ◌&&◌, sym, ap, subst, cond, false, not, length, List, ℕ, nat_eq}
use Rattle.std.specs.List.{list_any}
use Rattle.std.specs.Str.{bytes_eq}
use Rattle.std.proofs.lemmas.Bool.{ltb-true}
use Rattle.std.proofs.lemmas.Result.{on_ok_weaker}
use Rattle.values.specs.Values.{Value}
use Rattle.values.specs.Norms.{but_norm}
use Rattle.schema.specs.Rdns.{Ava}
use Rattle.schema.specs.Values.{norm_at}
use Rattle.entries.specs.Entries.{values_of}
use Rattle.entries.specs.Modifies.{has_ava, without_ava, set_values}
use Rattle.entries.specs.StoredEntries.{EntryAttribute, attributes_of, AreNormal, IsMade}
use Rattle.entries.proofs.StoredLemmas.{normal_values}
use Rattle.entries.proofs.StaysGood.{all_kept}
use Rattle.entries.proofs.ModifyLemmas.{made_set, ava_out}
use Rattle.reasons.proofs.explainer.Explainer.take_ava.Goals as goal

pub returns-clause-made : goal.returns-clause-made
returns-clause-made c =
    let types = c.args.self.now.conf.now.types in
    let es : List EntryAttribute = c.args.attrs.now.items in
    let t = c.args.ava.now.0 in
    let values : c.in_ok-values.values ≡ values_of es t = c.in_ok-values.ensures ∙ ap (λ (xs : List EntryAttribute). values_of xs t) c.deref.ensures.value in
    let left = c.in_ok-remove_norm.ensures.ok ∙ ap (but_norm c.norm-2.result.now) values in
    on_ok_weaker c.set_values.result
    (λ done. subst (IsMade types) (sym done)
    (made_set t types es c.remove_norm.new.self c.requires.made (ltb-true t (length types) c.requires.ava.known)
    (subst (AreNormal types t) (sym left)
    (all_kept (λ (v : Value). v.norm ≡ norm_at types t v.raw) (λ (v : Value). not (bytes_eq v.norm c.norm-2.result.now)) (values_of es t) (normal_values types t es c.requires.made.each)))))
    c.set_values.ensures

pub returns-clause-values : goal.returns-clause-values
returns-clause-values c =
    let types = c.args.self.now.conf.now.types in
    let es : List EntryAttribute = c.args.attrs.now.items in
    let t = c.args.ava.now.0 in
    let v : Value = c.in_ok-value.value in
    let values : c.in_ok-values.values ≡ values_of es t = c.in_ok-values.ensures ∙ ap (λ (xs : List EntryAttribute). values_of xs t) c.deref.ensures.value in
    let normal : v.norm ≡ norm_at types t c.args.ava.now.1 = ap (λ (x : Value). x.norm) c.in_ok-value.ensures ∙ ap (norm_at types t) c.as_slice.ensures in
    let none : has_ava types c.args.new.now c.args.ava.now ≡ false =
    ap (λ (n : List ℕ). list_any (λ (q : Ava). nat_eq t q.0 && bytes_eq (norm_at types t q.1) n) c.args.new.now) (sym (c.norm.ensures ∙ normal)) ∙ sym c.in_ok-has_ava.ensures ∙ c.if-branch.false in
    on_ok_weaker c.set_values.result
    (λ done. ap attributes_of (done
    ∙ ap (set_values es t) (c.in_ok-remove_norm.ensures.ok ∙ (λ i. but_norm (c.norm-2.ensures i) (values i))))
    ∙ ava_out types es t c.args.ava.now.1 v.norm c.requires.made normal
    ∙ ap (λ b. cond b (attributes_of es) (without_ava types c.args.ava.now (attributes_of es))) (sym none))
    c.set_values.ensures

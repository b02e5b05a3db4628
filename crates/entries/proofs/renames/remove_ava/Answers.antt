use Rattle.std.proofs.Common.{◌≡◌, ◌∙◌, ◌&&◌, sym, ap, subst, cond, false, not, length, List, ℕ, nat_eq}
use Rattle.std.specs.List.{list_any}
use Rattle.std.specs.Str.{bytes_eq}
use Rattle.std.proofs.lemmas.Bool.{ltb-true}
use Rattle.std.proofs.lemmas.Result.{on_ok_weaker, IfOk-from_err}
use Rattle.values.specs.Values.{Value}
use Rattle.values.specs.Norms.{but_norm}
use Rattle.schema.specs.Rdns.{Ava}
use Rattle.schema.specs.Values.{norm_at}
use Rattle.entries.specs.Entries.{values_of}
use Rattle.entries.specs.Modifies.{has_ava, without_ava, set_values}
use Rattle.entries.specs.StoredEntries.{attributes_of, AreNormal, IsMade}
use Rattle.entries.proofs.StoredLemmas.{normal_values}
use Rattle.entries.proofs.StaysGood.{all_kept}
use Rattle.entries.proofs.ModifyLemmas.{made_set, ava_out}
use Rattle.entries.proofs.renames.remove_ava.Goals as goal

pub returns-clause-made : goal.returns-clause-made
returns-clause-made c =
    let types = c.args.conf.now.types in
    let t = c.args.ava.now.0 in
    let left = c.in_ok-remove_norm.ensures.ok ∙ ap (but_norm c.norm-2.result.now) c.take-values.ensures.values in
    on_ok_weaker c.set.result
    (λ done. subst (IsMade types) (sym (done ∙ c.take-values.ensures.place c.remove_norm.new.self))
    (made_set t types c.args.attrs.now.entries c.remove_norm.new.self c.requires.made (ltb-true t (length types) c.requires.ava.known)
    (subst (AreNormal types t) (sym left)
    (all_kept (λ (v : Value). v.norm ≡ norm_at types t v.raw) (λ (v : Value). not (bytes_eq v.norm c.norm-2.result.now)) (values_of c.args.attrs.now.entries t) (normal_values types t c.args.attrs.now.entries c.requires.made.each)))))
    c.set.ensures.ok

pub returns-clause-values : goal.returns-clause-values
returns-clause-values c =
    let types = c.args.conf.now.types in
    let es = c.args.attrs.now.entries in
    let t = c.args.ava.now.0 in
    let v : Value = c.in_ok-value.value in
    let normal : v.norm ≡ norm_at types t c.args.ava.now.1 = ap (λ (x : Value). x.norm) c.in_ok-value.ensures ∙ ap (norm_at types t) c.as_slice.ensures in
    let none : has_ava types c.args.new.now c.args.ava.now ≡ false =
    ap (λ (n : List ℕ). list_any (λ (q : Ava). nat_eq t q.0 && bytes_eq (norm_at types t q.1) n) c.args.new.now) (sym (c.norm.ensures ∙ normal)) ∙ sym c.in_ok-has_ava.ensures ∙ c.if-branch.false in
    on_ok_weaker c.set.result
    (λ done. ap attributes_of (done ∙ c.take-values.ensures.place c.remove_norm.new.self
    ∙ ap (set_values es t) (c.in_ok-remove_norm.ensures.ok ∙ (λ i. but_norm (c.norm-2.ensures i) (c.take-values.ensures.values i))))
    ∙ ava_out types es t c.args.ava.now.1 v.norm c.requires.made normal
    ∙ ap (λ b. cond b (attributes_of es) (without_ava types c.args.ava.now (attributes_of es))) (sym none))
    c.set.ensures.ok

pub returns-in_err-remove_norm-clause-made : goal.returns-in_err-remove_norm-clause-made
returns-in_err-remove_norm-clause-made c = IfOk-from_err _ _ c.from_residual-in_err-remove_norm.ensures.0

pub returns-in_err-remove_norm-clause-values : goal.returns-in_err-remove_norm-clause-values
returns-in_err-remove_norm-clause-values c = IfOk-from_err _ _ c.from_residual-in_err-remove_norm.ensures.0

pub returns-in_err-has_ava-clause-values : goal.returns-in_err-has_ava-clause-values
returns-in_err-has_ava-clause-values c = IfOk-from_err _ _ c.from_residual-in_err-has_ava.ensures.0

pub returns-in_err-has_ava-clause-made : goal.returns-in_err-has_ava-clause-made
returns-in_err-has_ava-clause-made c = IfOk-from_err _ _ c.from_residual-in_err-has_ava.ensures.0

pub returns-in_err-value-clause-values : goal.returns-in_err-value-clause-values
returns-in_err-value-clause-values c = IfOk-from_err _ _ c.from_residual.ensures.0

pub returns-in_err-value-clause-made : goal.returns-in_err-value-clause-made
returns-in_err-value-clause-made c = IfOk-from_err _ _ c.from_residual.ensures.0

use Rattle.std.proofs.lemmas.Grind.{common_steps}
use Rattle.std.proofs.Common.{◌≡◌, ◌++◌, [], ◌∷◌, List, ℕ, sym, ap, subst, ◌∙◌, append_assoc, arith}
use Rattle.std.specs.Prelude.{OnOk}
use Rattle.std.proofs.lemmas.Result.{on_err_weaker}
use Rattle.base.specs.Extends.{Extends}
use Rattle.base.proofs.Extended.{extends_put, extends_on, on_err_too}
use Rattle.dn.specs.Writing.{value_text, ava_text}
use Rattle.schema.specs.Names.{written_ava}
use Rattle.schema.proofs.names.put_ava.Goals as goal

pub returns-clause-put : goal.returns-clause-put
returns-clause-put c =
    let out = c.args.out.now.items in
    let printed = c.printed_name.result.now in
    let value = c.args.ava.now.1 in
    let whole : c.extend_from_slice-2.new.self.items ++ value_text c.as_slice.result.now ≡ out ++ ava_text (written_ava c.args.types.now c.args.ava.now) =
    (λ i. (c.in_ok-extend_from_slice-2.ensures.items ∙ ap (λ (bs : List ℕ). bs ++ 61 ∷ []) c.in_ok-extend_from_slice.ensures.items) i ++ value_text (c.as_slice.ensures i))
    ∙ append_assoc (out ++ printed) (61 ∷ []) (value_text value)
    ∙ append_assoc out printed (61 ∷ value_text value)
    ∙ ap (λ (name : List ℕ). out ++ (name ++ 61 ∷ value_text value)) c.printed_name.ensures
    in
    subst (λ (bs : List ℕ). OnOk c.put_value.result (c.put_value.new.out.items ≡ bs)) whole c.put_value.ensures.put

pub returns-clause-kept : goal.returns-clause-kept
returns-clause-kept c =
    let out = c.args.out.now.items in
    let put : c.extend_from_slice-2.new.self.items ≡ out ++ _ =
    c.in_ok-extend_from_slice-2.ensures.items ∙ ap (λ (bs : List ℕ). bs ++ 61 ∷ []) c.in_ok-extend_from_slice.ensures.items ∙ append_assoc out c.printed_name.result.now (61 ∷ [])
    in
    on_err_weaker c.put_value.result (extends_on _ _ _ (subst (Extends out) (sym put) (extends_put out _))) c.put_value.ensures.kept

pub returns-in_err-extend_from_slice-2-clause-kept : goal.returns-in_err-extend_from_slice-2-clause-kept
returns-in_err-extend_from_slice-2-clause-kept c =
    let out = c.args.out.now.items in
    on_err_too c.from_residual-in_err-extend_from_slice-2.result (subst (Extends out) (sym (c.in_err-extend_from_slice-2.ensures.items ∙ c.in_ok-extend_from_slice.ensures.items)) (extends_put out _))

pub returns-in_err-extend_from_slice-clause-kept : goal.returns-in_err-extend_from_slice-clause-kept
returns-in_err-extend_from_slice-clause-kept c = grind (arith, common_steps)

use Rattle.schema.proofs.WaysOut.{gives_nothing}
use Rattle.std.proofs.lemmas.Result.{IfOk-from_err}
use Rattle.std.proofs.Common.{◌≡◌, ℕ, ◌+◌, ◌++◌, [], ◌∷◌, List, drop, Result, Ok, sym, ap, subst, refl, ◌∙◌}
use Rattle.base.specs.Answers.{◌>>=◌}
use Rattle.paths.proofs.Unpacked.{all_append}
use Rattle.values.specs.declared.types.AttributeType.{AttributeType}
use Rattle.dn.specs.Names as names
use Rattle.schema.specs.declared.code.Code.{Code}
use Rattle.schema.specs.Rdns.{TypedRdn, ava_type, avas_from}
use Rattle.schema.specs.inner.Keys.{AreKnown}
use Rattle.schema.proofs.Rest.{first_left, none_left}
use Rattle.schema.proofs.rdns.typed_rdn.Goals as goal

one_typed : (types : List AttributeType) (typed : TypedRdn) (left rest : names.Rdn) (p : names.Ava) (r : Result ℕ Code) (total : Result TypedRdn Code) → left ≡ p ∷ rest → r ≡ ava_type types typed p
    → avas_from types typed left ≡ total → (r >>= λ t. avas_from types (typed ++ (t, p.1) ∷ []) rest) ≡ total
unfolding avas_from
one_typed types typed left rest p r total cut is so_far =
    ap (λ (r : Result ℕ Code). r >>= λ t. avas_from types (typed ++ (t, p.1) ∷ []) rest) is ∙ sym (ap (avas_from types typed) cut) ∙ so_far

pub returns-in-Err-clause-gives : goal.returns-in-Err-clause-gives
returns-in-Err-clause-gives c =
    let types = c.args.types.now in
    let ava = c.ava-item.result in
    let cut = first_left c.args.avas.now _ c.loop-ava.ava-index refl ava c.loop-ava-test.true c.ava-item.is in
    sym (one_typed types c.loop-ava.typed.items _ _ ava _ _ cut (c.in-Err.ensures.gives ∙ ap (λ (r : TypedRdn). ava_type types r ava) c.deref.ensures.value) c.loop-ava.invariant.0)

pub loop-ava-preserved : goal.loop-ava-preserved
loop-ava-preserved c =
    let types = c.args.types.now in
    let ava = c.ava-item.result in
    let before = c.loop-ava.typed.items in
    let rest = drop (c.loop-ava.ava-index + 1) c.args.avas.now in
    let cut = first_left c.args.avas.now _ c.loop-ava.ava-index refl ava c.loop-ava-test.true c.ava-item.is in
    let put : c.push.new.self.items ≡ before ++ (c.in-Ok.t, ava.1) ∷ [] = c.in_ok-push.ensures.items ∙ ap (λ (v : List ℕ). before ++ (c.in-Ok.t, v) ∷ []) (c.in_ok-from_slice.ensures ∙ c.value.ensures) in (
      ap (λ (r : TypedRdn). avas_from types r rest) put
          ∙ one_typed types before _ rest ava (Ok c.in-Ok.t) _ cut (c.in-Ok.ensures.gives ∙ ap (λ (r : TypedRdn). ava_type types r ava) c.deref.ensures.value) c.loop-ava.invariant.0,
      subst (AreKnown types) (sym put) (all_append _ before _ c.loop-ava.invariant.1 (c.in-Ok.ensures.known, tt)),
    )

pub returns-clause-gives : goal.returns-clause-gives
unfolding avas_from
returns-clause-gives c =
    sym c.loop-ava.invariant.0
    ∙ ap (avas_from c.args.types.now c.loop-ava.typed.items) (none_left c.args.avas.now _ c.loop-ava.ava-index refl c.loop-ava-test.false)
    ∙ ap (λ (r : TypedRdn). Ok r) (sym (c.new.ensures ∙ c.from_vec.ensures))

pub returns-in_err-from_slice-clause-known : goal.returns-in_err-from_slice-clause-known
returns-in_err-from_slice-clause-known c = IfOk-from_err _ _ c.from_residual-in_err-from_slice.ensures.0

pub returns-in_err-push-clause-known : goal.returns-in_err-push-clause-known
returns-in_err-push-clause-known c = IfOk-from_err _ _ c.from_residual-in_err-push.ensures.0

pub returns-in_err-typed-clause-known : goal.returns-in_err-typed-clause-known
returns-in_err-typed-clause-known c = IfOk-from_err _ _ c.from_residual.ensures.0

pub returns-in_err-push-clause-gives : goal.returns-in_err-push-clause-gives
returns-in_err-push-clause-gives c = gives_nothing _ c.from_residual-in_err-push.result _ c.from_residual-in_err-push.ensures.1

pub returns-in_err-from_slice-clause-gives : goal.returns-in_err-from_slice-clause-gives
returns-in_err-from_slice-clause-gives c = gives_nothing _ c.from_residual-in_err-from_slice.result _ c.from_residual-in_err-from_slice.ensures.1

pub returns-in_err-typed-clause-gives : goal.returns-in_err-typed-clause-gives
returns-in_err-typed-clause-gives c = gives_nothing _ c.from_residual.result _ c.from_residual.ensures.1

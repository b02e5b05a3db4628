use Rattle.std.proofs.Common.{◌≡◌, ℕ, List, [], ◌∷◌, ◌++◌, refl, sym, ap, subst, ◌∙◌, append_assoc, arith, inl, inr}
use Rattle.std.proofs.lemmas.List.{append-nil}
use Rattle.filter_text.specs.inner.Begins.{IsMemory}
use Rattle.filter_text.specs.Runs.{Stops}
use Rattle.filter_text.specs.Values.{is_value_byte, IsValue, SomeByte, SomeValue}
use Rattle.filter_text.proofs.Runs.{exit_err, exit_front, faulty_in}
use Rattle.filter_text.proofs.ValueTexts.{byte_more, byte_cut, value_goes_on, value_or_stops}
use Rattle.filter_text.proofs.values.value_at.Goals as goal

pub returns-in_err-byte-clause-none : goal.returns-in_err-byte-clause-none
returns-in_err-byte-clause-none c =
    exit_err (λ e. (v text more : List ℕ) → IsValue v text → Stops is_value_byte more → c.args.bytes.now ≡ text ++ more → IsMemory e) c.from_residual.result _ c.from_residual.ensures.1
    (λ v text more h s e.
    let o = c.bytes.invariant.none v text more h s e in
    elim (value_or_stops o.0 c.bytes.rest.now o.1 more o.2 s o.3) [ inl stops ↦ absurd (c.in_err-byte.ensures.begins stops) | inr b ↦ c.in_err-byte.ensures.none b.0 b.1 b.2 ])

pub returns-in_err-byte-clause-front : goal.returns-in_err-byte-clause-front
returns-in_err-byte-clause-front c =
    let old = c.bytes.invariant.found in
    exit_front SomeValue c.args.bytes.now c.from_residual.result _ c.from_residual.ensures.1
    (faulty_in SomeByte SomeValue old.0 c.args.bytes.now c.bytes.rest.now old.1
    (λ t h. ([], (c.bytes.value.items ++ h.0 ∷ [], old.2 (h.0 ∷ []) (t ++ []) ([], byte_more h.0 t [] [] h.1, refl)))) _ c.in_err-byte.ensures.front)

pub bytes-preserved : goal.bytes-preserved
bytes-preserved c =
    let old = c.bytes.invariant.found in
    let b = c.in-Some.byte in
    let after = c.in-Some.more.now in
    let byte = rw c.in-Some.is at c.in_ok-byte.ensures.found in
    let shorter = rw c.in-Some.is at c.in_ok-byte.ensures.shorter in
    let cut = byte_cut b c.bytes.rest.now after byte in
    let items = c.bytes.value.items in
    record {
      no_longer = omega (arith, shorter, c.bytes.invariant.no_longer);
      found = (
        old.0 ++ cut.0,
        old.1 ∙ ap (λ xs. old.0 ++ xs) cut.1 ∙ sym (append_assoc old.0 cut.0 after),
        λ w t h. subst (λ (xs : List ℕ). IsValue xs ((old.0 ++ cut.0) ++ t)) (sym (ap (λ xs. xs ++ w) c.in_ok-push.ensures.items ∙ append_assoc items (b ∷ []) w))
            (subst (IsValue (items ++ b ∷ w)) (sym (append_assoc old.0 cut.0 t)) (old.2 (b ∷ w) (cut.0 ++ t) (t, byte_more b cut.0 [] t cut.2, h))),
      );
      none = λ v text more h s e.
          let o = c.bytes.invariant.none v text more h s e in
          let next = value_goes_on o.0 c.bytes.rest.now o.1 more b after o.2 s o.3 byte in
          (next.0, next.1, next.3, next.4);
    }

pub returns-clause-found : goal.returns-clause-found
returns-clause-found c =
    let old = c.bytes.invariant.found in
    (old.0, subst (λ (xs : List ℕ). IsValue xs old.0) (append-nil c.bytes.value.items ∙ sym c.from_vec.ensures) (subst (IsValue (c.bytes.value.items ++ [])) (append-nil old.0) (old.2 [] [] refl)), old.1)

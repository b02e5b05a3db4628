-- The value of a control has a fault exactly where it has not its form.
use Rattle.std.proofs.Common.{◌≡◌, ℕ, suc, ◌≤◌, Bool, false, not, cond, eqb, List, [], ◌∷◌, ◌++◌, length, replicate, take, drop, Option, Some, None, Result, Ok, Err, refl, sym, ap, subst, ◌∙◌, arith, inl, inr, ◌⊎◌}
use Rattle.std.proofs.lemmas.List.{take_at, drop_at, length-take, take-append-drop}
use Rattle.std.proofs.lemmas.List.Sums.{prefix_len-le-length}
use Rattle.std.proofs.lemmas.Bool.{eqb-true, eqb-false, ne_eqb}
use Rattle.base64.specs.GeneralPurpose.{IsBytes}
use Rattle.ldif.specs.declared.fault.LdifFaultKind.{LdifFaultKind}
use Rattle.ldif.specs.declared.fault.LdifFaultKind.TheVariants.{Word, Url, Base64}
use Rattle.ldif.specs.declared.record.Control.{Control}
use Rattle.ldif.specs.Line.{form_of}
use Rattle.ldif.specs.Controls.{ends_oid, oid_len, criticality, control_value, control_of}
use Rattle.ldif.specs.Forms.{IsCriticality, IsControlValue, IsControl}
use Rattle.ldif.specs.RecordFaults.{Not, IsControlFront, IsControlFault}
use Rattle.ldif.proofs.Inverted.{okay, chosen}
use Rattle.ldif.proofs.Spaces.{front_is, skip}
use Rattle.ldif.proofs.ValueForms.{back_bytes}
use Rattle.ldif.proofs.ControlForms.{Closes, closed_front, oid_len_at, after_ends, crit_only, crit_found, crit_bytes, oid_found, oid_len_is, control_by, made, control_found}
use Rattle.ldif.proofs.LineFaults.{bad, err_is, form_fault, url_form, uncoded_fails}
use Rattle.base.specs.Ends.{begins_with, without_front}
use Rattle.base.specs.Answers.{◌>>=◌}

abbrev with_front : (text rest : List ℕ) → IsControlFront text rest → Result (Option (List ℕ)) LdifFaultKind → Result Control LdifFaultKind
with_front text rest h r = r >>= λ value. okay (made h.oid h.critical value)

front_reads : (text rest : List ℕ) → Closes rest → (h : IsControlFront text rest) → control_of text ≡ with_front text rest h (control_value rest)
unfolding control_of
front_reads text rest closes h =
    let n = length h.oid in
    let ends = after_ends h.after h.critical h.spaces rest closes h.criticality in
    ap (λ (k : ℕ). control_by k text) (ap oid_len h.is ∙ oid_len_at h.oid h.after h.digits ends)
    ∙ ap (control_by n) h.is
    ∙ ap (λ (t : Bool). cond t (Err Word) (control_value (without_front (criticality (drop n (h.oid ++ h.after))).1) >>= λ value. Ok (made (take n (h.oid ++ h.after)) (criticality (drop n (h.oid ++ h.after))).0 value))) (ne_eqb n 0 (λ e. (let s = h.some in omega arith)))
    ∙ ap (λ (x : List ℕ). control_value (without_front (criticality (drop n (h.oid ++ h.after))).1) >>= λ value. okay (made x (criticality (drop n (h.oid ++ h.after))).0 value)) (take_at h.oid h.after n refl)
    ∙ ap (λ (x : List ℕ). control_value (without_front (criticality x).1) >>= λ value. okay (made h.oid (criticality x).0 value)) (drop_at h.oid h.after n refl)
    ∙ ap (λ (x : Bool × List ℕ). control_value (without_front x.1) >>= λ value. okay (made h.oid x.0 value)) (crit_only h.after h.critical h.spaces rest closes h.criticality)
    ∙ ap (λ (x : List ℕ). control_value x >>= λ value. okay (made h.oid h.critical value)) (skip h.spaces rest ∙ closed_front rest closes)

empty_reads : control_value [] ≡ okay None
unfolding control_value
empty_reads = refl

colon_reads : (form : List ℕ) → control_value (58 ∷ form) ≡ (form_of form >>= λ value. Ok (Some value))
unfolding control_value
colon_reads form = refl

-- what stands at the front of a text whose OID is not empty
front_found : (text : List ℕ) → eqb (oid_len text) 0 ≡ false → IsControlFront text (without_front (criticality (drop (oid_len text) text)).1)
front_found text some =
    let n = oid_len text in
    let after = drop n text in
    let r = (criticality after).1 in
    let f = front_is r in
    let within : n ≤ length text = (let k = oid_len_is text in let l = prefix_len-le-length (λ x. not (ends_oid x)) text in omega arith) in
    record {
      oid = take n text;
      after = after;
      critical = (criticality after).0;
      spaces = f.0;
      is = sym (take-append-drop n text);
      some = (let z = eqb-false n 0 some in omega (arith, length-take n text, z, within));
      digits = oid_found text;
      criticality = subst (λ (x : List ℕ). IsCriticality after (criticality after).0 x) f.1 (crit_found after);
    }

control_err : (oid : List ℕ) (critical : Bool) (r : Result (Option (List ℕ)) LdifFaultKind) (f : LdifFaultKind) → (r >>= λ value. okay (made oid critical value)) ≡ Err f → r ≡ Err f
control_err oid critical (Ok v) f e = absurd cc
control_err oid critical (Err g) f e = ap bad (err_is {A = Control} g f e)

some_err : (r : Result (List ℕ) LdifFaultKind) (f : LdifFaultKind) → (r >>= λ value. okay (Some value)) ≡ Err f → r ≡ Err f
some_err (Ok v) f e = absurd cc
some_err (Err g) f e = ap bad (err_is {A = Option (List ℕ)} g f e)

no_fault : {A : Type 0} (x : A) (f : LdifFaultKind) → okay x ≡ Err f → ⊥
no_fault x f e = cc

-- ---- a fault is one of the three

abbrev Shape : List ℕ → LdifFaultKind → Type 0
Shape rest fault = (fault ≡ Word) ⊎ ((form : List ℕ) × (rest ≡ 58 ∷ form) × (form_of form ≡ Err fault))

value_shape : (rest : List ℕ) (f : LdifFaultKind) → control_value rest ≡ Err f → Shape rest f
unfolding control_value
value_shape [] f e = absurd (no_fault None f e)
value_shape (b ∷ bs) f e = elim (chosen (eqb b 58) (form_of bs >>= λ value. okay (Some value)) (Err Word) (Err f) e) [
  | inl y ↦ inr (bs, ap (λ (x : ℕ). x ∷ bs) (eqb-true b 58 y.0), some_err (form_of bs) f y.1)
  | inr n ↦ inl (sym (err_is {A = Option (List ℕ)} Word f n.1))
]

no_front_fails : (text : List ℕ) → control_of text ≡ Err Word → Not (IsControlFront text []) × ((form : List ℕ) → Not (IsControlFront text (58 ∷ form)))
no_front_fails text e = (
  λ h. no_fault (made h.oid h.critical None) Word (sym (front_reads text [] tt h ∙ ap (with_front text [] h) empty_reads) ∙ e),
  λ form h. not_word form (some_err (form_of form) Word (sym (colon_reads form) ∙ control_err h.oid h.critical (control_value (58 ∷ form)) Word (sym (front_reads text (58 ∷ form) refl h) ∙ e))),
)
  where
    not_word : (form : List ℕ) → form_of form ≡ Err Word → ⊥
    not_word form k = elim (form_fault form Word k (begins_with 58 form) (begins_with 60 form) refl refl) [
      | inl u ↦ (let z = u.0 in cc)
      | inr u ↦ (let z = u.0 in cc)
    ]

by_form : (text form : List ℕ) (f : LdifFaultKind) → IsControlFront text (58 ∷ form) → form_of form ≡ Err f → IsControlFault text f
by_form text form f h e = elim (form_fault form f e (begins_with 58 form) (begins_with 60 form) refl refl) [
  | inl u ↦ inr (inl (u.0, u.1.0, subst (λ (x : List ℕ). IsControlFront text (58 ∷ x)) u.1.1 h))
  | inr u ↦ inr (inr (u.0, u.1.0, subst (λ (x : List ℕ). IsControlFront text (58 ∷ x)) u.1.1 h, u.1.2))
]

word_fault : (text : List ℕ) (f : LdifFaultKind) → control_of text ≡ Err f → f ≡ Word → IsControlFault text f
word_fault text f e is = let k = no_front_fails text (e ∙ ap bad is) in inl (is, k.0, k.1)

pub control_fault_found : (text : List ℕ) (f : LdifFaultKind) → control_of text ≡ Err f → IsControlFault text f
unfolding control_of
control_fault_found text f e =
    let n = oid_len text in
    let after = drop n text in
    let r = without_front (criticality after).1 in
    elim (chosen (eqb n 0) (Err Word) (control_value r >>= λ value. okay (made (take n text) (criticality after).0 value)) (Err f) e) [
      | inl y ↦ word_fault text f e (sym (err_is {A = Control} Word f y.1))
      | inr m ↦ elim (value_shape r f (control_err (take n text) (criticality after).0 (control_value r) f m.1)) [
        | inl w ↦ word_fault text f e w
        | inr s ↦ by_form text s.0 f (subst (IsControlFront text) s.1 (front_found text m.0)) s.2
      ]
    ]

-- ---- and where one of the three stands, it is a fault

colon_bytes : (text rest : List ℕ) → IsControlFront text rest → IsBytes text → IsBytes rest
colon_bytes text rest h bytes =
    back_bytes (replicate h.spaces 32) rest (crit_bytes h.after h.critical (replicate h.spaces 32 ++ rest) (back_bytes h.oid h.after (subst (λ (x : List ℕ). IsBytes x) h.is bytes)) h.criticality)

form_only_fault : (text form : List ℕ) (f : LdifFaultKind) (h : IsControlFront text (58 ∷ form)) → form_of form ≡ Err f → control_of text ≡ Err f
form_only_fault text form f h e =
    front_reads text (58 ∷ form) refl h
    ∙ ap (with_front text (58 ∷ form) h) (colon_reads form)
    ∙ ap (λ (r : Result (List ℕ) LdifFaultKind). with_front text (58 ∷ form) h (r >>= λ value. Ok (Some value))) e

found_front : (text rest : List ℕ) (c : Control) (h : IsControl text c) → h.rest ≡ rest → IsControlFront text rest
found_front text rest c h is = record {
  oid = c.oid;
  after = h.after;
  critical = c.critical;
  spaces = h.spaces;
  is = h.is;
  some = h.some;
  digits = h.oid;
  criticality = subst (λ (x : List ℕ). IsCriticality h.after c.critical (replicate h.spaces 32 ++ x)) is h.critical;
}

none_reads : (text : List ℕ) (c : Control) → Not (IsControlFront text []) → ((form : List ℕ) → Not (IsControlFront text (58 ∷ form))) → IsControl text c → ⊥
none_reads text c nothing colon h = by_value c.value h.value
  where
    by_value : (v : Option (List ℕ)) → IsControlValue h.rest v → ⊥
    by_value None e = nothing (found_front text [] c h e)
    by_value (Some v) e = colon e.0 (found_front text (58 ∷ e.0) c h e.1)

word_by : (text : List ℕ) → IsBytes text → Not (IsControlFront text []) → ((form : List ℕ) → Not (IsControlFront text (58 ∷ form))) → (r : Result Control LdifFaultKind) → control_of text ≡ r → control_of text ≡ Err Word
word_by text bytes nothing colon (Ok c) e = absurd (none_reads text c nothing colon (control_found text c bytes e))
word_by text bytes nothing colon (Err f) e = elim (control_fault_found text f e) [
  | inl w ↦ e ∙ ap bad w.0
  | inr o ↦ elim o [
    | inl u ↦ absurd (colon (60 ∷ u.1) u.2)
    | inr b ↦ absurd (colon (58 ∷ b.1) b.2)
  ]
]

pub control_fault_only : (text : List ℕ) (f : LdifFaultKind) → IsBytes text → IsControlFault text f → control_of text ≡ Err f
control_fault_only text f bytes (inl w) = word_by text bytes w.1 w.2 (control_of text) refl ∙ ap bad (sym w.0)
control_fault_only text f bytes (inr (inl u)) = form_only_fault text (60 ∷ u.1) Url u.2 (url_form u.1) ∙ ap bad (sym u.0)
control_fault_only text f bytes (inr (inr b)) =
    form_only_fault text (58 ∷ b.1) Base64 b.2 (uncoded_fails b.1 b.3 (λ i. colon_bytes text (58 ∷ 58 ∷ b.1) b.2 bytes (suc i))) ∙ ap bad (sym b.0)

-- An AVA has a fault exactly where it is read no further.
use Rattle.std.proofs.Common.{◌≡◌, ℕ, suc, Bool, true, false, cond, not, ◌&&◌, eqb, List, [], ◌∷◌, ◌++◌, length, Result, Ok, Err, ◌⊎◌, inl, inr, refl, sym, ap, subst, ◌∙◌, arith}
use Rattle.std.specs.List.{list_all, prefix_len}
use Rattle.std.proofs.lemmas.Bool.{and_parts, eqb-true, not-true}
use Rattle.std.proofs.lemmas.Bool.Decides.{nat_tests}
use Rattle.std.proofs.lemmas.List.{take-append-drop}
use Rattle.dn.specs.Spelling.{Octet}
use Rattle.dn.specs.declared.faults.NameFaultKind.{NameFaultKind}
use Rattle.dn.specs.declared.faults.NameFaultKind.TheVariants.{EqualsMissing, Escape, NotEscaped, TypeMissing, FormNotSupported}
use Rattle.dn.specs.Names.{Ava, is_type_byte, is_type}
use Rattle.base.specs.Answers.{◌>>=◌}
use Rattle.base.specs.Ends.{without_front}
use Rattle.dn.specs.Reading.{Plain, type_in, after_type, begins_form, octets_from, value_from, value_of}
use Rattle.dn.specs.inner.Cuts.{piece, first_ava, first_value}
use Rattle.dn.specs.NameFaults.{is_separator, Stops, Comes, is_equals, is_quote_or_sign, IsTyped, IsValued, IsBegun, IsAvaFault}
use Rattle.dn.proofs.Octets.{chosen}
use Rattle.dn.proofs.Pieces.{P, B}
use Rattle.dn.proofs.Runs.{front_passes, rest_stops, run_front, run_rest, skipped, skip_stops, skip_spaces}
use Rattle.dn.proofs.Firsts.{from_text, ava_first, with_type}
use Rattle.dn.proofs.ValueFaults.{IsBad, Stuck, stuck_fails, fails_stuck}

abbrev failed : {X : Type 0} → NameFaultKind → Result X NameFaultKind
failed f = Err f

failed_is : {X : Type 0} (f g : NameFaultKind) → failed {X = X} f ≡ failed g → f ≡ g
failed_is f g e = cc

-- ---- a value

-- what stands in a value where it is read no further
abbrev IsValueFault : List ℕ → NameFaultKind → Type 0
IsValueFault value f = (Comes is_quote_or_sign value × (f ≡ FormNotSupported)) ⊎ (Stops is_quote_or_sign value × Stuck value f)

no_form : (b : ℕ) → is_separator b ≡ true → is_quote_or_sign b ≡ false
no_form b h = grind (arith, nat_tests)

form_by : (t : Bool) (b : ℕ) (bs : List ℕ) → is_separator b ≡ t → begins_form (cond t [] (b ∷ bs)) ≡ is_quote_or_sign b
form_by true b bs is = sym (no_form b is)
form_by false b bs is = refl

form_piece : (b : ℕ) (bs : List ℕ) → begins_form (P (b ∷ bs)) ≡ is_quote_or_sign b
unfolding piece
form_piece b bs = form_by (is_separator b) b (piece is_separator (eqb b 92) bs) refl

comes : (value : List ℕ) → Comes is_quote_or_sign value → begins_form (P value) ≡ true
comes [] h = absurd h
comes (b ∷ bs) h = form_piece b bs ∙ h

stops : (value : List ℕ) → Stops is_quote_or_sign value → begins_form (P value) ≡ false
unfolding piece
stops [] h = refl
stops (b ∷ bs) h = form_piece b bs ∙ h

comes_too : (value : List ℕ) → begins_form (P value) ≡ true → Comes is_quote_or_sign value
unfolding piece
comes_too [] h = absurd cc
comes_too (b ∷ bs) h = sym (form_piece b bs) ∙ h

stops_too : (value : List ℕ) → begins_form (P value) ≡ false → Stops is_quote_or_sign value
stops_too [] h = tt
stops_too (b ∷ bs) h = sym (form_piece b bs) ∙ h

value_from-err : (r : Result (List Octet) NameFaultKind) (f : NameFaultKind) → value_from r ≡ Err f → r ≡ Err f
value_from-err (Ok os) f e = absurd cc
value_from-err (Err g) f e = ap failed (failed_is g f e)

value_fails : (value : List ℕ) (f : NameFaultKind) → IsValueFault value f → value_of (P value) ≡ Err f
unfolding value_of
value_fails value f (inl (h, is)) = ap (λ (t : Bool). cond t (Err FormNotSupported) (value_from (octets_from Plain (P value)))) (comes value h) ∙ ap failed (sym is)
value_fails value f (inr (h, s)) =
    ap (λ (t : Bool). cond t (Err FormNotSupported) (value_from (octets_from Plain (P value)))) (stops value h)
    ∙ ap value_from (stuck_fails value f s)

value_faulty : (value : List ℕ) (f : NameFaultKind) → value_of (P value) ≡ Err f → IsValueFault value f
unfolding value_of
value_faulty value f e = elim (chosen (begins_form (P value)) (Err FormNotSupported) (value_from (octets_from Plain (P value))) (Err f) e) [
  | inl y ↦ inl (comes_too value y.0, sym (failed_is FormNotSupported f y.1))
  | inr n ↦ inr (stops_too value n.0, fails_stuck value f (value_from-err (octets_from Plain (P value)) f n.1))
]

-- ---- an AVA

abbrev Got : Type 0
Got = Result (Ava × List ℕ) NameFaultKind

typed : (text : List ℕ) → IsTyped text (type_in (without_front text)) (without_front (after_type (without_front text)))
typed text =
    let t = without_front text in
    let s1 = skipped text in
    let s2 = skipped (after_type t) in
    record {
      before = s1.0;
      between = s2.0;
      from = t;
      after = after_type t;
      text_is = s1.1;
      no_space = skip_stops text;
      from_is = sym (take-append-drop (prefix_len is_type_byte t) t);
      type_is = front_passes is_type_byte t;
      longest = rest_stops is_type_byte t;
      after_is = s2.1;
      no_space_more = skip_stops (after_type t);
    }

-- what is read of an AVA, by what of it stands in the text
typed_first : (text ty rest : List ℕ) → IsTyped text ty rest → first_ava text ≡ from_text ty rest
typed_first text ty rest t =
    let from_is : without_front text ≡ t.from = ap without_front t.text_is ∙ skip_spaces t.before t.from t.no_space in
    let type_is : type_in t.from ≡ ty = ap type_in t.from_is ∙ run_front is_type_byte ty t.after t.type_is t.longest in
    let after_is : after_type t.from ≡ t.after = ap after_type t.from_is ∙ run_rest is_type_byte ty t.after t.type_is t.longest in
    let rest_is : without_front t.after ≡ rest = ap without_front t.after_is ∙ skip_spaces t.between rest t.no_space_more in
    ava_first text
    ∙ ap (λ (x : List ℕ). from_text (type_in x) (without_front (after_type x))) from_is
    ∙ ap (λ (x : List ℕ). from_text x (without_front (after_type t.from))) type_is
    ∙ ap (λ (x : List ℕ). from_text ty (without_front x)) after_is
    ∙ ap (from_text ty) rest_is

equals_fail : (ty rest : List ℕ) → Stops is_equals rest → from_text ty rest ≡ Err EqualsMissing
unfolding from_text
equals_fail ty [] h = refl
equals_fail ty (b ∷ bs) h = ap (λ (t : Bool). cond t (cond (eqb (length ty) 0) (Err TypeMissing) (Ok bs)) (Err EqualsMissing) >>= λ v. (first_value (without_front v) >>= with_type ty)) h

type_fails : (rest : List ℕ) → from_text [] (61 ∷ rest) ≡ Err TypeMissing
unfolding from_text
type_fails rest = refl

some_type : (ty : List ℕ) → is_type ty ≡ true → eqb (length ty) 0 ≡ false
some_type ty h = not-true (eqb (length ty) 0) (and_parts (not (eqb (length ty) 0)) (list_all is_type_byte ty) h).0

abbrev behind_value : List ℕ → List ℕ → Result (List ℕ) NameFaultKind → Got
behind_value ty value r = (r >>= λ v. Ok (v, B value)) >>= with_type ty

valued_first : (text value : List ℕ) (v : IsValued text value) → first_ava text ≡ behind_value v.ty value (value_of (P value))
unfolding from_text
valued_first text value v =
    typed_first text v.ty (61 ∷ v.rest) v.typed
    ∙ ap (λ (t : Bool). cond t (Err TypeMissing) (Ok v.rest) >>= λ w. (first_value (without_front w) >>= with_type v.ty)) (some_type v.ty v.type_is)
    ∙ ap (λ (x : List ℕ). first_value x >>= with_type v.ty) (ap without_front v.rest_is ∙ skip_spaces v.after value v.no_space)

in_value : (text value : List ℕ) (f : NameFaultKind) → IsValued text value → IsValueFault value f → first_ava text ≡ Err f
in_value text value f v h = valued_first text value v ∙ ap (behind_value v.ty value) (value_fails value f h)

begun : (text bad : List ℕ) (f : NameFaultKind) → IsBegun text bad → IsBad bad f → first_ava text ≡ Err f
begun text bad f g h = in_value text g.value f g.valued (inr (g.form, record { octets = g.octets; body = g.body; bad = bad; is = g.value_is; body_is = g.body_is; bad_is = h }))

pub ava_fails : (text : List ℕ) (f : NameFaultKind) → IsAvaFault text f → first_ava text ≡ Err f
ava_fails text EqualsMissing (ty, rest, t, h) = typed_first text ty rest t ∙ equals_fail ty rest h
ava_fails text TypeMissing (rest, t) = typed_first text [] (61 ∷ rest) t ∙ type_fails rest
ava_fails text Escape (rest, g, h) = begun text (92 ∷ rest) Escape g (rest, refl, h)
ava_fails text NotEscaped (b, rest, g, h) = begun text (b ∷ rest) NotEscaped g (b, rest, refl, h)
ava_fails text FormNotSupported (inl (value, v, h)) = in_value text value FormNotSupported v (inl (h, refl))
ava_fails text FormNotSupported (inr (rest, g)) = begun text (59 ∷ rest) FormNotSupported g (rest, refl)

-- ---- and where it has one

module _ (text value : List ℕ) (v : IsValued text value) (h : Stops is_quote_or_sign value) where
  begun_at : (f : NameFaultKind) (s : Stuck value f) (bad : List ℕ) → s.bad ≡ bad → IsBegun text bad
  begun_at f s bad is = record {
    value = value;
    valued = v;
    form = h;
    octets = s.octets;
    body = s.body;
    value_is = s.is ∙ ap (λ (x : List ℕ). s.body ++ x) is;
    body_is = s.body_is;
  }

  stuck_ava : (f : NameFaultKind) → Stuck value f → IsAvaFault text f
  stuck_ava EqualsMissing s = absurd s.bad_is
  stuck_ava TypeMissing s = absurd s.bad_is
  stuck_ava Escape s = let k = s.bad_is in (k.0, begun_at Escape s (92 ∷ k.0) k.1, k.2)
  stuck_ava NotEscaped s = let k = s.bad_is in (k.0, k.1, begun_at NotEscaped s (k.0 ∷ k.1) k.2, k.3)
  stuck_ava FormNotSupported s = let k = s.bad_is in inr (k.0, begun_at FormNotSupported s (59 ∷ k.0) k.1)

value_ava : (text value : List ℕ) (f : NameFaultKind) → IsValued text value → IsValueFault value f → IsAvaFault text f
value_ava text value f v (inl (h, is)) = subst (IsAvaFault text) (sym is) (inl (value, v, h))
value_ava text value f v (inr (h, s)) = stuck_ava text value v h f s

behind_value-err : (ty value : List ℕ) (r : Result (List ℕ) NameFaultKind) (f : NameFaultKind) → behind_value ty value r ≡ Err f → r ≡ Err f
behind_value-err ty value (Ok v) f e = absurd cc
behind_value-err ty value (Err g) f e = ap failed (failed_is g f e)

no_len : (n : ℕ) → eqb (suc n) 0 ≡ true → ⊥
no_len n e = omega (arith, eqb-true (suc n) 0 e)

module _ (text : List ℕ) (f : NameFaultKind) where
  valued_by : (ty bs : List ℕ) (t : Bool) → eqb (length ty) 0 ≡ t → IsTyped text ty (61 ∷ bs) → (cond t (Err TypeMissing) (Ok bs) >>= λ w. (first_value (without_front w) >>= with_type ty)) ≡ Err f → IsAvaFault text f
  valued_by [] bs true is t e = subst (IsAvaFault text) (failed_is TypeMissing f e) (bs, t)
  valued_by (c ∷ cs) bs true is t e = absurd (no_len (length cs) is)
  valued_by ty bs false is t e =
      let s = skipped bs in
      let v : IsValued text (without_front bs) = record { ty = ty; rest = bs; after = s.0; typed = t; type_is = ap (λ (x : Bool). not x && list_all is_type_byte ty) is ∙ t.type_is; rest_is = s.1; no_space = skip_stops bs } in
      value_ava text (without_front bs) f v (value_faulty (without_front bs) f (behind_value-err ty (without_front bs) (value_of (P (without_front bs))) f e))

  equals_by : (ty : List ℕ) (b : ℕ) (bs : List ℕ) (t : Bool) → eqb b 61 ≡ t → IsTyped text ty (b ∷ bs)
      → (cond t (cond (eqb (length ty) 0) (Err TypeMissing) (Ok bs)) (Err EqualsMissing) >>= λ w. (first_value (without_front w) >>= with_type ty)) ≡ Err f → IsAvaFault text f
  equals_by ty b bs true is t e = valued_by ty bs (eqb (length ty) 0) refl (subst (λ (x : ℕ). IsTyped text ty (x ∷ bs)) (eqb-true b 61 is) t) e
  equals_by ty b bs false is t e = subst (IsAvaFault text) (failed_is EqualsMissing f e) (ty, b ∷ bs, t, is)

  typed_ava : (ty rest : List ℕ) → IsTyped text ty rest → from_text ty rest ≡ Err f → IsAvaFault text f
  unfolding from_text
  typed_ava ty [] t e = subst (IsAvaFault text) (failed_is EqualsMissing f e) (ty, [], t, tt)
  typed_ava ty (b ∷ bs) t e = equals_by ty b bs (eqb b 61) refl t e

  pub fails_ava : first_ava text ≡ Err f → IsAvaFault text f
  fails_ava e = let t = typed text in typed_ava (type_in (without_front text)) (without_front (after_type (without_front text))) t (sym (ava_first text) ∙ e)

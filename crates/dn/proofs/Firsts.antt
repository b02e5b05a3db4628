-- The AVA, and the RDN, at the front of a text.
use Rattle.std.proofs.Common.{◌≡◌, ℕ, Bool, true, false, cond, eqb, List, [], ◌∷◌, ◌++◌, length, Option, Result, Ok, Err, refl, sym, ap, subst, ◌∙◌}
use Rattle.std.proofs.lemmas.Bool.{eqb-true}
use Rattle.std.proofs.lemmas.List.{take-append-drop}
use Rattle.std.specs.List.{prefix_len}
use Rattle.dn.specs.declared.faults.NameFaultKind.{NameFaultKind}
use Rattle.dn.specs.declared.faults.NameFaultKind.TheVariants.{EqualsMissing, TypeMissing}
use Rattle.base.proofs.Each.{passed_on}
use Rattle.dn.specs.Spelling.{spaces}
use Rattle.dn.specs.Names.{Ava, is_type_byte}
use Rattle.base.specs.Answers.{◌>>=◌, Fails}
use Rattle.base.specs.Ends.{is_space, without_front}
use Rattle.base.proofs.Front.{front_is}
use Rattle.dn.specs.Reading.{value_of, type_in, after_type, after_equals, ava_at, ava_of}
use Rattle.dn.specs.inner.Cuts.{piece, behind, first_value, first_ava, ava_from}
use Rattle.dn.specs.NameFaults.{is_separator}
use Rattle.dn.specs.inner.Texts.{Starts}
use Rattle.dn.proofs.Pieces.{P, B, space_apart, type_apart, front_of_piece, rest_of_piece, behind_rest}
use Rattle.dn.proofs.Runs.{skipped}
use Rattle.dn.proofs.SpelledAvas.{equals_found}

-- ---- spaces in front of a piece

spaces_of_piece : (text : List ℕ) → without_front (P text) ≡ P (without_front text)
spaces_of_piece text = front_is (P text) ∙ rest_of_piece is_space space_apart text ∙ ap P (sym (front_is text))

behind_spaces : (text : List ℕ) → B text ≡ B (without_front text)
behind_spaces text = behind_rest is_space space_apart text ∙ ap B (sym (front_is text))

-- ---- an AVA

abbrev Got : Type 0
Got = Result (Ava × List ℕ) NameFaultKind

abbrev of_type : List ℕ → List ℕ → Result Ava NameFaultKind
of_type ty value = Ok (ty, value)

abbrev pub before : {X : Type 0} → List ℕ → X → Result (X × List ℕ) NameFaultKind
before rest x = Ok (x, rest)

abbrev pub with_type : List ℕ → List ℕ × List ℕ → Got
with_type ty s = Ok ((ty, s.0), s.1)

by_value : (r : Result (List ℕ) NameFaultKind) (ty rest : List ℕ) → ((r >>= of_type ty) >>= before rest) ≡ ((r >>= before rest) >>= with_type ty)
by_value (Ok v) ty rest = refl
by_value (Err e) ty rest = refl

value_first : (ty v : List ℕ) → ((value_of (without_front (P v)) >>= of_type ty) >>= before (B v)) ≡ (first_value (without_front v) >>= with_type ty)
value_first ty v =
    ap (λ (x : List ℕ). (value_of x >>= of_type ty) >>= before (B v)) (spaces_of_piece v)
    ∙ ap (λ (x : List ℕ). (value_of (P (without_front v)) >>= of_type ty) >>= before x) (behind_spaces v)
    ∙ by_value (value_of (P (without_front v))) ty (B (without_front v))

-- what is read of a text from behind a type, and of its piece
abbrev from_piece : List ℕ → List ℕ → List ℕ → Got
from_piece ty text rest = (after_equals ty text >>= λ v. (value_of (without_front v) >>= of_type ty)) >>= before rest

unfoldable pub from_text : List ℕ → List ℕ → Got
from_text ty text = after_equals ty text >>= λ v. (first_value (without_front v) >>= with_type ty)

by_type : (t : Bool) (ty bs : List ℕ) → ((cond t (Err TypeMissing) (Ok (P bs)) >>= λ v. (value_of (without_front v) >>= of_type ty)) >>= before (B bs)) ≡ (cond t (Err TypeMissing) (Ok bs) >>= λ v. (first_value (without_front v) >>= with_type ty))
by_type true ty bs = refl
by_type false ty bs = value_first ty bs

at_equals : (ty bs : List ℕ) → from_piece ty (P (61 ∷ bs)) (B (61 ∷ bs)) ≡ from_text ty (61 ∷ bs)
unfolding piece behind from_text
at_equals ty bs = by_type (eqb (length ty) 0) ty bs

no_equals : (t : Bool) (ty : List ℕ) (b : ℕ) (bs rest : List ℕ) → eqb b 61 ≡ false → from_piece ty (cond t [] (b ∷ bs)) rest ≡ Err EqualsMissing
no_equals true ty b bs rest h = refl
no_equals false ty b bs rest h = ap (λ (t : Bool). (cond t (cond (eqb (length ty) 0) (Err TypeMissing) (Ok bs)) (Err EqualsMissing) >>= λ v. (value_of (without_front v) >>= of_type ty)) >>= before rest) h

by_byte : (ty : List ℕ) (b : ℕ) (bs : List ℕ) (t : Bool) → eqb b 61 ≡ t → from_piece ty (P (b ∷ bs)) (B (b ∷ bs)) ≡ from_text ty (b ∷ bs)
unfolding piece from_text
by_byte ty b bs true is = subst (λ (x : ℕ). from_piece ty (P (x ∷ bs)) (B (x ∷ bs)) ≡ from_text ty (x ∷ bs)) (sym (eqb-true b 61 is)) (at_equals ty bs)
by_byte ty b bs false is =
    no_equals (is_separator b) ty b (piece is_separator (eqb b 92) bs) (B (b ∷ bs)) is
    ∙ sym (ap (λ (t : Bool). cond t (cond (eqb (length ty) 0) (Err TypeMissing) (Ok bs)) (Err EqualsMissing) >>= λ v. (first_value (without_front v) >>= with_type ty)) is)

equals_first : (ty text : List ℕ) → from_piece ty (P text) (B text) ≡ from_text ty text
unfolding piece behind from_text
equals_first ty [] = refl
equals_first ty (b ∷ bs) = by_byte ty b bs (eqb b 61) refl

type_first : (text : List ℕ) → (ava_at (P text) >>= before (B text)) ≡ from_text (type_in text) (without_front (after_type text))
unfolding ava_at
type_first text =
    let ty = type_in text in
    let rest = after_type text in
    ap (λ (x : List ℕ). from_piece x (without_front (after_type (P text))) (B text)) (front_of_piece is_type_byte type_apart text)
    ∙ ap (λ (x : List ℕ). from_piece ty (without_front x) (B text)) (rest_of_piece is_type_byte type_apart text)
    ∙ ap (λ (x : List ℕ). from_piece ty x (B text)) (spaces_of_piece rest)
    ∙ ap (from_piece ty (P (without_front rest))) (behind_rest is_type_byte type_apart text ∙ behind_spaces rest)
    ∙ equals_first ty (without_front rest)

pub ava_first : (text : List ℕ) → first_ava text ≡ from_text (type_in (without_front text)) (without_front (after_type (without_front text)))
unfolding ava_of
ava_first text =
    ap (λ (x : List ℕ). ava_at x >>= before (B text)) (spaces_of_piece text)
    ∙ ap (λ (x : List ℕ). ava_at (P (without_front text)) >>= before x) (behind_spaces text)
    ∙ type_first (without_front text)

-- ---- the steps to it

pub ava_is : (text t ty after rest : List ℕ) → t ≡ without_front text → ty ≡ type_in t → after ≡ after_type t → rest ≡ without_front after → first_ava text ≡ from_text ty rest
ava_is text t ty after rest from is behind rest_is =
    ava_first text
    ∙ ap (λ (x : List ℕ). from_text (type_in x) (without_front (after_type x))) (sym from)
    ∙ ap (λ (x : List ℕ). from_text x (without_front (after_type t))) (sym is)
    ∙ ap (λ (x : List ℕ). from_text ty (without_front x)) (sym behind)
    ∙ ap (from_text ty) (sym rest_is)

module _ (total : Got) (ty rest : List ℕ) (total_is : total ≡ from_text ty rest) where
  abbrev reads : Result (List ℕ) NameFaultKind → Got
  reads r = r >>= λ v. (first_value (without_front v) >>= with_type ty)

  pub equals_fails : (e : Option NameFaultKind) → Fails e (after_equals ty rest) → Fails e total
  unfolding from_text
  equals_fails e = passed_on e (after_equals ty rest) total λ fault h. total_is ∙ ap reads h

  module _ (v from : List ℕ) (equals : after_equals ty rest ≡ Ok v) (from_is : from ≡ without_front v) where
    pub value_in : total ≡ (first_value from >>= with_type ty)
    unfolding from_text
    value_in = total_is ∙ ap reads equals ∙ ap (λ (x : List ℕ). first_value x >>= with_type ty) (sym from_is)

-- the type, the equals sign and what follows it stand in the text
pub starts : (t ty after rest v from : List ℕ) → ty ≡ type_in t → after ≡ after_type t → rest ≡ without_front after → after_equals ty rest ≡ Ok v → from ≡ without_front v → Starts t ty from
starts t ty after rest v from is behind_is rest_is equals from_is =
    let s2 = skipped after in
    let s3 = skipped v in
    record {
      before = s2.0;
      behind = s3.0;
      is =
          sym (take-append-drop (prefix_len is_type_byte t) t)
          ∙ ap (λ (x : List ℕ). x ++ after_type t) (sym is)
          ∙ ap (λ (x : List ℕ). ty ++ x) (sym behind_is ∙ s2.1
          ∙ ap (λ (x : List ℕ). spaces s2.0 ++ x) (sym rest_is ∙ (equals_found ty rest v equals).0
          ∙ ap (λ (x : List ℕ). 61 ∷ x) (s3.1 ∙ ap (λ (x : List ℕ). spaces s3.0 ++ x) (sym from_is))));
    }

-- ---- a value behind a type

pub ava_read : (ty from value behind : List ℕ) (p : Ava) → first_value from ≡ before behind value → p ≡ (ty, value) → ava_from ty from ≡ before behind p
ava_read ty from value behind p h is = ap (λ (r : Result (List ℕ × List ℕ) NameFaultKind). r >>= with_type ty) h ∙ ap (before behind) (sym is)

pub value_fails : (ty from : List ℕ) (e : Option NameFaultKind) (p : List ℕ) → p ≡ P from → Fails e (value_of p) → Fails e (ava_from ty from)
value_fails ty from e p is = passed_on e (value_of p) (ava_from ty from) λ fault h. ap (λ (r : Result (List ℕ) NameFaultKind). (r >>= before (B from)) >>= with_type ty) (ap value_of (sym is) ∙ h)

pub value_of_piece : (from p rest v : List ℕ) → p ≡ P from → rest ≡ B from → value_of p ≡ Ok v → first_value from ≡ before rest v
value_of_piece from p rest v is behind_is h =
    ap (λ (x : List ℕ). value_of x >>= before (B from)) (sym is)
    ∙ ap (λ (r : Result (List ℕ) NameFaultKind). r >>= before (B from)) h
    ∙ ap (λ (x : List ℕ). before x v) (sym behind_is)

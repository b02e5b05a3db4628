-- The loops that read each AVA, and each RDN, up to the first fault.
use Rattle.std.proofs.lemmas.List.{length_push, append-nil}
use Rattle.std.proofs.lemmas.Bool.Decides.{nat_tests}
use Rattle.dn.specs.Names.{Ava, Rdn, Name, is_ava, is_rdn}
use Rattle.std.proofs.Common.{◌≡◌, ℕ, ◌+◌, ◌<◌, ◌≤◌, arith, false, cond, not, eqb, length, Bool, true, List, [], ◌∷◌, ◌++◌, ◌&&◌, Option, Some, None, Result, Ok, Err, refl, sym, ap, ◌∙◌}
use Rattle.std.specs.List.{list_all}
use Rattle.std.proofs.lemmas.List.Folds.{list_all-append}
use Rattle.dn.specs.declared.faults.NameFaultKind.{NameFaultKind}
use Rattle.base.proofs.Each.{passed_on, with_front, nothing_front, more, onto, onto_more}
use Rattle.base.specs.Ascii.{plus_sign}
use Rattle.base.specs.Ends.{begins_with}
use Rattle.base.specs.Answers.{◌>>=◌, Fails}
use Rattle.dn.specs.inner.Cuts.{piece, behind, first_by, first_ava, first_rdn, avas_behind, avas_from, after_first}
use Rattle.base.proofs.Bound.{same_ok}
use Rattle.dn.proofs.Pieces.{shorter}
use Rattle.dn.proofs.Firsts.{before}
use Rattle.dn.proofs.Steps.{Found, with_ava, rdn_first, names, names_in, names_behind, names_from, name_first}

abbrev ok : {Y : Type 0} → List Y → Result (List Y) NameFaultKind
ok ys = Ok ys

-- ---- an RDN

abbrev found : Rdn → List ℕ → Found
found ps rest = Ok (ps, rest)

pub onto_is : (front : Rdn) (r : Found) → onto front r ≡ (r >>= λ t. Ok (front ++ t.0, t.1))
unfolding onto
onto_is front (Ok s) = refl
onto_is front (Err e) = refl

pub rdn_starts : (text : List ℕ) (said : Result (Ava × List ℕ) NameFaultKind) → first_ava text ≡ said → first_rdn text ≡ (said >>= avas_from)
rdn_starts text said h = rdn_first text ∙ ap (λ (r : Result (Ava × List ℕ) NameFaultKind). r >>= avas_from) h

pub avas_fail : (text : List ℕ) (e : Option NameFaultKind) → Fails e (first_ava text) → Fails e (first_rdn text)
avas_fail text e = passed_on e (first_ava text) (first_rdn text) λ fault h. rdn_first text ∙ ap (λ (r : Result (Ava × List ℕ) NameFaultKind). r >>= avas_from) h

module _ (front : Rdn) (rest : List ℕ) (total : Found) (so_far : onto front (avas_behind rest) ≡ total) where
  module _ (more_text : List ℕ) (is : rest ≡ 43 ∷ more_text) where
    at_plus : onto front (first_rdn more_text) ≡ total
    unfolding avas_behind
    at_plus = sym (ap (λ (x : List ℕ). onto front (avas_behind x)) is) ∙ so_far

    pub avas_go_on : (p : Ava) (new_rest : List ℕ) (new : Rdn) → first_ava more_text ≡ before new_rest p → new ≡ front ++ p ∷ [] → onto new (avas_behind new_rest) ≡ total
    avas_go_on p new_rest new h new_is =
        ap (λ (ps : Rdn). onto ps (avas_behind new_rest)) new_is ∙ onto_more front p (avas_behind new_rest)
        ∙ sym (ap (onto front) (rdn_first more_text ∙ ap (λ (r : Result (Ava × List ℕ) NameFaultKind). r >>= avas_from) h)) ∙ at_plus

    pub avas_end_at : (e : Option NameFaultKind) → Fails e (first_ava more_text) → Fails e total
    unfolding onto
    avas_end_at e = passed_on e (first_ava more_text) total λ fault h. sym at_plus ∙ ap (onto front) (avas_fail more_text (Some fault) h)

  pub avas_done : (avas_behind rest ≡ Ok ([], rest)) → total ≡ found front rest
  unfolding onto
  avas_done h = sym so_far ∙ ap (onto front) h ∙ ap (λ (ps : Rdn). found ps rest) (append-nil front)

-- ---- a name

pub names_begin : (text : List ℕ) (new : Name) → new ≡ [] → with_front new (names_in (Some text)) ≡ names text
unfolding names_in
names_begin text new is = ap (λ (rs : Name). with_front rs (names text)) is ∙ nothing_front (names text)

module _ (front : Name) (text : List ℕ) (total : Result Name NameFaultKind) (so_far : with_front front (names_in (Some text)) ≡ total) where
  at_text : with_front front (first_rdn text >>= names_from) ≡ total
  unfolding names_in
  at_text = ap (with_front front) (sym (name_first text)) ∙ so_far

  pub names_go_on : (r : Rdn) (rest : List ℕ) (new : Name) (left : Option (List ℕ)) → first_rdn text ≡ before rest r → new ≡ front ++ r ∷ [] → left ≡ after_first rest → with_front new (names_in left) ≡ total
  names_go_on r rest new left h new_is left_is =
      ap (λ (rs : Name). with_front rs (names_in left)) new_is
      ∙ ap (λ (x : Option (List ℕ)). with_front (front ++ r ∷ []) (names_in x)) left_is
      ∙ more front r (names_behind rest)
      ∙ sym (ap (λ (s : Found). with_front front (s >>= names_from)) h) ∙ at_text

  pub names_end_at : (e : Option NameFaultKind) → Fails e (first_rdn text) → Fails e total
  unfolding with_front
  names_end_at e = passed_on e (first_rdn text) total λ fault h. sym at_text ∙ ap (λ (s : Found). with_front front (s >>= names_from)) h

pub names_done : (front : Name) (left : Option (List ℕ)) (total : Result Name NameFaultKind) → with_front front (names_in left) ≡ total → left ≡ None → total ≡ Ok front
unfolding with_front names_in
names_done front left total so_far h = sym so_far ∙ ap (λ (x : Option (List ℕ)). with_front front (names_in x)) h ∙ ap (λ (rs : Name). ok rs) (append-nil front)

-- ---- what all pass, and at the end one more

pub all_push : {Y : Type 0} (p : Y → Bool) (front : List Y) (y : Y) (new : List Y) → new ≡ front ++ y ∷ [] → list_all p front ≡ true → p y ≡ true → list_all p new ≡ true
all_push p front y new is h g = ap (list_all p) is ∙ list_all-append p front (y ∷ []) ∙ ap (λ (t : Bool). t && (p y && true)) h ∙ ap (λ (t : Bool). t && true) g

not_empty : {Y : Type 0} (front : List Y) (y : Y) → not (eqb (length (front ++ y ∷ [])) 0) ≡ true
not_empty front y = grind (arith, nat_tests, length_push front y)

pub rdn_push : (front : Rdn) (p : Ava) (new : Rdn) → new ≡ front ++ p ∷ [] → list_all is_ava front ≡ true → is_ava p ≡ true → is_rdn new ≡ true
rdn_push front p new is h g =
    ap (λ (t : Bool). not (eqb (length new) 0) && t) (all_push is_ava front p new is h g)
    ∙ ap (λ (ps : Rdn). not (eqb (length ps) 0) && true) is ∙ ap (λ (t : Bool). t && true) (not_empty front p)

-- ---- the loops end

left_is_end : {X : Type 0} (r : Result X NameFaultKind) (x : X) (rest end : List ℕ) → (r >>= before end) ≡ before rest x → rest ≡ end
left_is_end {X} (Ok y) x rest end h = sym (ap (λ (s : X × List ℕ). s.1) (same_ok (y, end) (x, rest) h))
left_is_end (Err e) x rest end h = absurd cc

pub less_is_left : {X : Type 0} (ends : ℕ → Bool) (read : List ℕ → Result X NameFaultKind) (text : List ℕ) (x : X) (s : ℕ) (rest old : List ℕ) → first_by ends read text ≡ before rest x → old ≡ s ∷ text → length rest < length old
less_is_left ends read text x s rest old h is =
    omega (arith, ap length (left_is_end (read (piece ends false text)) x rest (behind ends false text) h), ap length is, shorter ends false text)

-- what is left of a text, and one for a text that may be read
pub size : Option (List ℕ) → ℕ
size None = 0
size (Some text) = length text + 1

size_behind : (rest : List ℕ) → size (after_first rest) ≤ length rest
unfolding size
size_behind [] = omega arith
size_behind (b ∷ bs) = omega arith

pub less_is_left_behind : {X : Type 0} (ends : ℕ → Bool) (read : List ℕ → Result X NameFaultKind) (text : List ℕ) (x : X) (rest : List ℕ) (left old : Option (List ℕ)) → first_by ends read text ≡ before rest x → left ≡ after_first rest → old ≡ Some text → size left < size old
unfolding size
less_is_left_behind ends read text x rest left old h left_is old_is =
    let le = ap length (left_is_end (read (piece ends false text)) x rest (behind ends false text) h) in
    omega (arith, le, shorter ends false text, ap size left_is, ap size old_is, size_behind rest)

pub no_plus : (text : List ℕ) → begins_with plus_sign text ≡ false → avas_behind text ≡ Ok ([], text)
unfolding avas_behind
no_plus [] h = refl
no_plus (b ∷ bs) h = ap (λ (t : Bool). cond t (first_rdn bs) (found [] (b ∷ bs))) h

pub one_only : (p : Ava) (rest : List ℕ) → begins_with plus_sign rest ≡ false → avas_from (p, rest) ≡ before rest (p ∷ [])
one_only p rest plain = ap (with_ava p) (no_plus rest plain)

-- said: what the first AVA reads as
pub one_at : (said : Result (Ava × List ℕ) NameFaultKind) (p : Ava) (rest : List ℕ) → said ≡ before rest p → begins_with plus_sign rest ≡ false → (said >>= avas_from) ≡ before rest (p ∷ [])
one_at said p rest h plain = ap (λ (r : Result (Ava × List ℕ) NameFaultKind). r >>= avas_from) h ∙ one_only p rest plain

pub two_at : (said : Result (Ava × List ℕ) NameFaultKind) (p : Ava) (rest more : List ℕ) (q : Ava) (end : List ℕ) → said ≡ before rest p → rest ≡ 43 ∷ more → first_ava more ≡ before end q → begins_with plus_sign end ≡ false → (said >>= avas_from) ≡ before end (p ∷ q ∷ [])
unfolding avas_behind
two_at said p rest more q end h is g plain =
    ap (λ (r : Result (Ava × List ℕ) NameFaultKind). r >>= avas_from) h ∙ ap (λ (x : List ℕ). avas_from (p, x)) is
    ∙ ap (with_ava p) (rdn_starts more (before end q) g ∙ one_only q end plain)

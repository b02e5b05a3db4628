-- An AVA is read exactly where a text spells it.
use Rattle.std.proofs.Common.{◌≡◌, ℕ, drop, zero, suc, Bool, true, false, cond, not, ◌&&◌, eqb, List, [], ◌∷◌, ◌++◌, map, length, Result, Ok, Err, inl, inr, refl, sym, ap, subst, ◌∙◌, arith}
use Rattle.std.specs.List.{list_all, prefix_len}
use Rattle.std.proofs.lemmas.Bool.{and_parts, eqb-true, not-true}
use Rattle.std.proofs.lemmas.Bool.Decides.{nat_tests}
use Rattle.std.proofs.lemmas.List.{take-append-drop, append-nil}
use Rattle.std.proofs.lemmas.List.Folds.{list_all-append}
use Rattle.dn.specs.declared.faults.NameFaultKind.{NameFaultKind}
use Rattle.dn.specs.declared.faults.NameFaultKind.TheVariants.{EqualsMissing, TypeMissing}
use Rattle.dn.specs.Names.{Ava, is_type_byte, is_type}
use Rattle.dn.specs.Spelling.{Octet, AreOctets, begins_well, ends_well, spaces, SpellsAva, byte_of}
use Rattle.base.proofs.Bound.{bind_ok, same_ok}
use Rattle.base.proofs.Front.{front_is}
use Rattle.base.specs.Answers.{◌>>=◌}
use Rattle.base.specs.Ends.{is_space, without_front}
use Rattle.dn.specs.Reading.{type_in, after_type, after_equals, octets_from, trimmed, value_of, ava_at, ava_of}
use Rattle.dn.proofs.Octets.{chosen, value_sound, value_complete, body_begins}
use Rattle.dn.specs.NameFaults.{Stops}
use Rattle.dn.proofs.Runs.{front_passes, run_front, run_rest, skipped, skip_stops, skip_spaces, all_spaces}

abbrev ok_bytes : List ℕ → Result (List ℕ) NameFaultKind
ok_bytes v = Ok v

-- ---- what is read is spelled so

named : (ty rest got : List ℕ) → cond (eqb (length ty) 0) (Err TypeMissing) (Ok rest) ≡ ok_bytes got → (rest ≡ got) × (eqb (length ty) 0 ≡ false)
named ty rest got e = elim (chosen (eqb (length ty) 0) (Err TypeMissing) (Ok rest) (Ok got) e) [
  | inl y ↦ absurd (let k = y.1 in cc)
  | inr n ↦ (same_ok rest got n.1, n.0)
]

pub equals_found : (ty text rest : List ℕ) → after_equals ty text ≡ Ok rest → (text ≡ 61 ∷ rest) × (eqb (length ty) 0 ≡ false)
equals_found ty [] rest e = absurd cc
equals_found ty (b ∷ bs) rest e = elim (chosen (eqb b 61) (cond (eqb (length ty) 0) (Err TypeMissing) (Ok bs)) (Err EqualsMissing) (Ok rest) e) [
  | inl y ↦ let k = named ty bs rest y.1 in (ap (λ (x : ℕ). x ∷ bs) (eqb-true b 61 y.0) ∙ ap (λ (xs : List ℕ). 61 ∷ xs) k.0, k.1)
  | inr n ↦ absurd (let k = n.1 in cc)
]

pub ava_sound : (text : List ℕ) (p : Ava) → ava_of text ≡ Ok p → SpellsAva text p
unfolding ava_of ava_at
ava_sound text p e =
    let t = without_front text in
    let ty = type_in t in
    let rest = without_front (after_type t) in
    let a = bind_ok (after_equals ty rest) (λ rest. (value_of (without_front rest) >>= λ value. Ok (ty, value))) p e in
    let b = bind_ok (value_of (without_front a.0)) (λ value. Ok (ty, value)) p a.2 in
    let p_is : (ty, b.0) ≡ p = same_ok (ty, b.0) p b.2 in
    let equals = equals_found ty rest a.0 a.1 in
    let value = value_sound (without_front a.0) b.0 (skip_stops a.0) b.1 in
    let s1 = skipped text in
    let s2 = skipped (after_type t) in
    let s3 = skipped a.0 in
    subst (SpellsAva text) p_is (record {
      before = s1.0;
      between = s2.0;
      after = s3.0;
      behind = value.behind;
      octets = value.octets;
      body = value.body;
      text_is =
          s1.1 ∙ ap (λ (x : List ℕ). spaces s1.0 ++ x) (sym (take-append-drop (prefix_len is_type_byte t) t)
          ∙ ap (λ (x : List ℕ). ty ++ x) (s2.1 ∙ ap (λ (x : List ℕ). spaces s2.0 ++ x) (equals.0
          ∙ ap (λ (x : List ℕ). 61 ∷ x) (s3.1 ∙ ap (λ (x : List ℕ). spaces s3.0 ++ x) value.text_is))));
      type_is = ap (λ (x : Bool). not x && list_all is_type_byte ty) equals.1 ∙ front_passes is_type_byte t;
      body_is = value.body_is;
      begins = value.begins;
      ends = value.ends;
      value_is = value.value_is;
    })

-- ---- and what is spelled so is read

type_apart : (b : ℕ) → is_type_byte b ≡ true → eqb b 32 ≡ false
type_apart b h = grind (arith, nat_tests)

type_bytes : (ty : List ℕ) → is_type ty ≡ true → list_all is_type_byte ty ≡ true
type_bytes ty h = (and_parts (not (eqb (length ty) 0)) (list_all is_type_byte ty) h).1

type_some : (ty : List ℕ) → is_type ty ≡ true → eqb (length ty) 0 ≡ false
type_some ty h = not-true (eqb (length ty) 0) (and_parts (not (eqb (length ty) 0)) (list_all is_type_byte ty) h).0

pub type_first : (ty rest : List ℕ) → is_type ty ≡ true → Stops is_space (ty ++ rest)
type_first [] rest h = absurd cc
type_first (b ∷ bs) rest h = type_apart b (and_parts (is_type_byte b) (list_all is_type_byte bs) (type_bytes (b ∷ bs) h)).0

-- behind a type come spaces and an equals sign
type_stops : (n : ℕ) (rest : List ℕ) → Stops is_type_byte (spaces n ++ 61 ∷ rest)
type_stops zero rest = refl
type_stops (suc n) rest = refl

skip_all : (n m : ℕ) → without_front (spaces n ++ spaces m) ≡ []
skip_all n m = front_is (spaces n ++ spaces m) ∙ ap (λ (x : List ℕ). drop (prefix_len is_space x) x) (sym (append-nil (spaces n ++ spaces m))) ∙ run_rest is_space (spaces n ++ spaces m) [] (list_all-append is_space (spaces n) (spaces m) ∙ ap (λ (t : Bool). t && list_all is_space (spaces m)) (all_spaces n) ∙ all_spaces m) tt

nothing_read : value_of [] ≡ ok_bytes []
unfolding value_of octets_from trimmed
nothing_read = refl

value_read : (after behind : ℕ) (octets : List Octet) (body v : List ℕ) → AreOctets octets body → begins_well octets ≡ true → ends_well octets ≡ true → v ≡ map byte_of octets → value_of (without_front (spaces after ++ (body ++ spaces behind))) ≡ ok_bytes v
value_read after behind [] body v are begins ends is =
    ap (λ (x : List ℕ). value_of (without_front (spaces after ++ (x ++ spaces behind)))) are
    ∙ ap value_of (skip_all after behind) ∙ nothing_read ∙ ap ok_bytes (sym is)
value_read after behind (o ∷ os) body v are begins ends is =
    ap value_of (skip_spaces after (body ++ spaces behind) (body_begins o os body (spaces behind) are begins))
    ∙ value_complete (body ++ spaces behind) v (record { octets = o ∷ os; behind = behind; body = body; text_is = refl; body_is = are; begins = begins; ends = ends; value_is = is })

abbrev Reads : List ℕ → Result (List ℕ) NameFaultKind → Result Ava NameFaultKind
Reads ty r = r >>= λ rest. (value_of (without_front rest) >>= λ value. Ok (ty, value))

ava_at_type : (ty : List ℕ) (n : ℕ) (rest : List ℕ) → is_type ty ≡ true → ava_at (ty ++ (spaces n ++ 61 ∷ rest)) ≡ Reads ty (Ok rest)
unfolding ava_at
ava_at_type ty n rest h =
    let behind = spaces n ++ 61 ∷ rest in
    let front : type_in (ty ++ behind) ≡ ty = run_front is_type_byte ty behind (type_bytes ty h) (type_stops n rest) in
    let left : without_front (after_type (ty ++ behind)) ≡ 61 ∷ rest = ap without_front (run_rest is_type_byte ty behind (type_bytes ty h) (type_stops n rest)) ∙ skip_spaces n (61 ∷ rest) refl in
    ap (λ (x : List ℕ). Reads x (after_equals x (without_front (after_type (ty ++ behind))))) front
    ∙ ap (λ (x : List ℕ). Reads ty (after_equals ty x)) left
    ∙ ap (λ (t : Bool). Reads ty (cond t (Err TypeMissing) (Ok rest))) (type_some ty h)

pub ava_complete : (text : List ℕ) (p : Ava) → SpellsAva text p → ava_of text ≡ Ok p
unfolding ava_of
ava_complete text p s =
    let rest = spaces s.after ++ (s.body ++ spaces s.behind) in
    let from = p.0 ++ (spaces s.between ++ 61 ∷ rest) in
    ap (λ (x : List ℕ). ava_at (without_front x)) s.text_is
    ∙ ap ava_at (skip_spaces s.before from (type_first p.0 (spaces s.between ++ 61 ∷ rest) s.type_is))
    ∙ ava_at_type p.0 s.between rest s.type_is
    ∙ ap (λ (r : Result (List ℕ) NameFaultKind). r >>= λ value. Ok (p.0, value)) (value_read s.after s.behind s.octets s.body p.1 s.body_is s.begins s.ends s.value_is)

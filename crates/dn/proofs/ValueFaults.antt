-- A value has a fault exactly where it is read no further.
use Rattle.std.proofs.Common.{◌≡◌, ℕ, ◌+◌, ◌*◌, Bool, true, false, cond, ◌&&◌, ◌||◌, eqb, List, [], ◌∷◌, ◌++◌, Result, Ok, Err, inl, inr, refl, sym, ap, subst, ◌∙◌, append_assoc, arith}
use Rattle.std.proofs.lemmas.Bool.{eqb-true}
use Rattle.std.proofs.lemmas.Bool.Decides.{nat_tests}
use Rattle.dn.specs.declared.faults.NameFaultKind.{NameFaultKind}
use Rattle.dn.specs.declared.faults.NameFaultKind.TheVariants.{EqualsMissing, Escape, NotEscaped, TypeMissing, FormNotSupported}
use Rattle.dn.specs.Spelling.{Octet, may_stand, may_follow, is_hex, hex, IsOctet, AreOctets}
use Rattle.dn.specs.Reading.{State, Plain, Backslash, HalfPair, with_octet, octets_from, raw_fault}
use Rattle.dn.specs.inner.Cuts.{piece}
use Rattle.dn.specs.NameFaults.{is_separator, is_special, is_escape}
use Rattle.dn.proofs.Octets.{chosen}
use Rattle.dn.proofs.Pieces.{P, stand_apart}

-- what stands where no octet is read
abbrev pub IsBad : List ℕ → NameFaultKind → Type 0
IsBad bad EqualsMissing = ⊥
IsBad bad TypeMissing = ⊥
IsBad bad Escape = (rest : List ℕ) × (bad ≡ 92 ∷ rest) × (is_escape rest ≡ false)
IsBad bad NotEscaped = (b : ℕ) × (rest : List ℕ) × (bad ≡ b ∷ rest) × (is_special b ≡ true)
IsBad bad FormNotSupported = (rest : List ℕ) × (bad ≡ 59 ∷ rest)

pub record Stuck (text : List ℕ) (fault : NameFaultKind) : Type 0 where
  pub octets : List Octet
  pub body : List ℕ
  pub bad : List ℕ
  pub is : text ≡ body ++ bad
  pub body_is : AreOctets octets body
  pub bad_is : IsBad bad fault

abbrev Read : Type 0
Read = Result (List Octet) NameFaultKind

abbrev failed : NameFaultKind → Read
failed f = Err f

failed_is : (f g : NameFaultKind) → failed f ≡ failed g → f ≡ g
failed_is f g e = cc

with_octet-err : (raw : Bool) (byte : ℕ) (r : Read) (f : NameFaultKind) → with_octet raw byte r ≡ Err f → r ≡ Err f
with_octet-err raw byte (Ok os) f e = absurd cc
with_octet-err raw byte (Err g) f e = e

-- ---- facts about bytes

digit_apart : (b : ℕ) → is_hex b ≡ true → (is_separator b ≡ false) × (eqb b 92 ≡ false)
digit_apart b h = (grind (arith, nat_tests), grind (arith, nat_tests))

no_digit : (b : ℕ) → is_separator b ≡ true → is_hex b ≡ false
no_digit b h = grind (arith, nat_tests)

no_follow : (b : ℕ) → is_hex b ≡ true → may_follow b ≡ false
no_follow b h = grind (arith, nat_tests)

special_reads : (b : ℕ) → is_special b ≡ true → (is_separator b ≡ false) × (may_stand b ≡ false) × (eqb b 92 ≡ false) × (eqb b 59 ≡ false)
special_reads b h = (grind (arith, nat_tests), grind (arith, nat_tests), grind (arith, nat_tests), grind (arith, nat_tests))

special_is : (b : ℕ) → is_separator b ≡ false → may_stand b ≡ false → eqb b 92 ≡ false → eqb b 59 ≡ false → is_special b ≡ true
special_is b h k l m = grind (arith, nat_tests)

-- ---- octets, and then what is read no further

after_byte : (b : ℕ) (rest : List ℕ) → (is_separator b ≡ false) × (eqb b 92 ≡ false) → P (b ∷ rest) ≡ b ∷ P rest
unfolding piece
after_byte b rest h = ap (λ (t : Bool). cond t [] (b ∷ piece is_separator (eqb b 92) rest)) h.0 ∙ ap (λ (t : Bool). b ∷ piece is_separator t rest) h.1

after_escape : (b : ℕ) (rest : List ℕ) → P (92 ∷ b ∷ rest) ≡ 92 ∷ b ∷ P rest
unfolding piece
after_escape b rest = refl

piece_octet : (o : Octet) (front rest : List ℕ) → IsOctet o front → P (front ++ rest) ≡ front ++ P rest
piece_octet o [] rest is = absurd is
piece_octet o (b ∷ []) rest is = after_byte b rest (stand_apart b is.0)
piece_octet o (s ∷ b ∷ []) rest is = ap (λ (x : ℕ). P (x ∷ b ∷ rest)) is.0 ∙ after_escape b rest ∙ ap (λ (x : ℕ). x ∷ b ∷ P rest) (sym is.0)
piece_octet o (s ∷ b ∷ c ∷ []) rest is =
    ap (λ (x : ℕ). P (x ∷ b ∷ c ∷ rest)) is.0 ∙ after_escape b (c ∷ rest) ∙ ap (λ (x : List ℕ). 92 ∷ b ∷ x) (after_byte c rest (digit_apart c is.2))
    ∙ ap (λ (x : ℕ). x ∷ b ∷ c ∷ P rest) (sym is.0)
piece_octet o (s ∷ b ∷ c ∷ d ∷ bs) rest is = absurd is

module _ (f : NameFaultKind) (rest : List ℕ) (ih : octets_from Plain rest ≡ Err f) where
  raw_one : (b : ℕ) → may_stand b ≡ true → octets_from Plain (b ∷ rest) ≡ Err f
  unfolding octets_from
  raw_one b is =
      ap (λ (t : Bool). cond t (with_octet true b (octets_from Plain rest)) (cond (eqb b 92) (octets_from Backslash rest) (Err (raw_fault b)))) is
      ∙ ap (with_octet true b) ih

  escaped : (b : ℕ) → may_follow b ≡ true → octets_from Plain (92 ∷ b ∷ rest) ≡ Err f
  unfolding octets_from
  escaped b is =
      ap (λ (t : Bool). cond t (with_octet false b (octets_from Plain rest)) (cond (is_hex b) (octets_from (HalfPair (hex b)) rest) (Err Escape))) is
      ∙ ap (with_octet false b) ih

  hexed : (b c : ℕ) → is_hex b ≡ true → is_hex c ≡ true → octets_from Plain (92 ∷ b ∷ c ∷ rest) ≡ Err f
  unfolding octets_from
  hexed b c is too =
      ap (λ (t : Bool). cond t (with_octet false b (octets_from Plain (c ∷ rest))) (cond (is_hex b) (octets_from (HalfPair (hex b)) (c ∷ rest)) (Err Escape))) (no_follow b is)
      ∙ ap (λ (t : Bool). cond t (octets_from (HalfPair (hex b)) (c ∷ rest)) (Err Escape)) is
      ∙ ap (λ (t : Bool). cond t (with_octet false (16 * hex b + hex c) (octets_from Plain rest)) (Err Escape)) too
      ∙ ap (with_octet false (16 * hex b + hex c)) ih

  over_octet : (o : Octet) (front : List ℕ) → IsOctet o front → octets_from Plain (front ++ rest) ≡ Err f
  over_octet o [] is = absurd is
  over_octet o (b ∷ []) is = raw_one b is.0
  over_octet o (s ∷ b ∷ []) is = ap (λ (x : ℕ). octets_from Plain (x ∷ b ∷ rest)) is.0 ∙ escaped b is.1
  over_octet o (s ∷ b ∷ c ∷ []) is = ap (λ (x : ℕ). octets_from Plain (x ∷ b ∷ c ∷ rest)) is.0 ∙ hexed b c is.1 is.2
  over_octet o (s ∷ b ∷ c ∷ d ∷ bs) is = absurd is

over_octets : (f : NameFaultKind) (os : List Octet) (body bad : List ℕ) → AreOctets os body → octets_from Plain (P bad) ≡ Err f → octets_from Plain (P (body ++ bad)) ≡ Err f
over_octets f [] body bad e h = ap (λ (x : List ℕ). octets_from Plain (P (x ++ bad))) e ∙ h
over_octets f (o ∷ os) body bad (front, rest, is, e, more) h =
    ap (λ (x : List ℕ). octets_from Plain (P x)) (ap (λ (x : List ℕ). x ++ bad) e ∙ append_assoc front rest bad)
    ∙ ap (octets_from Plain) (piece_octet o front (rest ++ bad) is)
    ∙ over_octet f (P (rest ++ bad)) (over_octets f os rest bad more h) o front is

-- ---- what is read no further

follow_not : (a b : Bool) → (a || b) ≡ false → (a ≡ false) × (b ≡ false)
follow_not true b e = absurd cc
follow_not false b e = (refl, e)

pair_not : (b c : ℕ) → is_hex b ≡ true → (is_hex b && is_hex c) ≡ false → is_hex c ≡ false
pair_not b c h e = sym (ap (λ (t : Bool). t && is_hex c) h) ∙ e

half_by : (h : ℕ) (t : Bool) (c : ℕ) (cs : List ℕ) → is_hex c ≡ false → octets_from (HalfPair h) (cond t [] (c ∷ cs)) ≡ Err Escape
unfolding octets_from
half_by h true c cs e = refl
half_by h false c cs e = ap (λ (t : Bool). cond t (with_octet false (16 * h + hex c) (octets_from Plain cs)) (Err Escape)) e

half_bad : (b : ℕ) (more : List ℕ) → is_escape (b ∷ more) ≡ false → is_hex b ≡ true → octets_from (HalfPair (hex b)) (P more) ≡ Err Escape
unfolding octets_from piece
half_bad b [] h e = refl
half_bad b (c ∷ cs) h e = half_by (hex b) (is_separator c) c (piece is_separator (eqb c 92) cs) (pair_not b c e (follow_not (may_follow b) (is_hex b && is_hex c) h).1)

no_half : (b : ℕ) (more : List ℕ) → is_escape (b ∷ more) ≡ false → may_follow b ≡ false
no_half b [] h = h
no_half b (c ∷ cs) h = (follow_not (may_follow b) (is_hex b && is_hex c) h).0

escape_by : (b : ℕ) (more : List ℕ) (t : Bool) → is_hex b ≡ t → is_escape (b ∷ more) ≡ false → cond t (octets_from (HalfPair (hex b)) (P more)) (Err Escape) ≡ failed Escape
escape_by b more true is h = half_bad b more h is
escape_by b more false is h = refl

escape_bad : (rest : List ℕ) → is_escape rest ≡ false → octets_from Plain (P (92 ∷ rest)) ≡ Err Escape
unfolding octets_from piece
escape_bad [] h = refl
escape_bad (b ∷ more) h =
    ap (λ (t : Bool). cond t (with_octet false b (octets_from Plain (P more))) (cond (is_hex b) (octets_from (HalfPair (hex b)) (P more)) (Err Escape))) (no_half b more h)
    ∙ escape_by b more (is_hex b) refl h

special_bad : (b : ℕ) (rest : List ℕ) → is_special b ≡ true → octets_from Plain (P (b ∷ rest)) ≡ Err NotEscaped
unfolding octets_from
special_bad b rest h =
    let k = special_reads b h in
    ap (octets_from Plain) (after_byte b rest (k.0, k.2))
    ∙ ap (λ (t : Bool). cond t (with_octet true b (octets_from Plain (P rest))) (cond (eqb b 92) (octets_from Backslash (P rest)) (Err (raw_fault b)))) k.1
    ∙ ap (λ (t : Bool). cond t (octets_from Backslash (P rest)) (Err (raw_fault b))) k.2
    ∙ ap (λ (t : Bool). failed (cond t FormNotSupported NotEscaped)) k.3

semicolon_bad : (rest : List ℕ) → octets_from Plain (P (59 ∷ rest)) ≡ Err FormNotSupported
unfolding octets_from piece
semicolon_bad rest = refl

bad_reads : (bad : List ℕ) (f : NameFaultKind) → IsBad bad f → octets_from Plain (P bad) ≡ Err f
bad_reads bad EqualsMissing h = absurd h
bad_reads bad TypeMissing h = absurd h
bad_reads bad Escape (rest, e, h) = ap (λ (x : List ℕ). octets_from Plain (P x)) e ∙ escape_bad rest h
bad_reads bad NotEscaped (b, rest, e, h) = ap (λ (x : List ℕ). octets_from Plain (P x)) e ∙ special_bad b rest h
bad_reads bad FormNotSupported (rest, e) = ap (λ (x : List ℕ). octets_from Plain (P x)) e ∙ semicolon_bad rest

pub stuck_fails : (text : List ℕ) (f : NameFaultKind) → Stuck text f → octets_from Plain (P text) ≡ Err f
stuck_fails text f s = ap (λ (x : List ℕ). octets_from Plain (P x)) s.is ∙ over_octets f s.octets s.body s.bad s.body_is (bad_reads s.bad f s.bad_is)

-- ---- and a fault stands where it is read no further

at_once : (bad : List ℕ) (f : NameFaultKind) → IsBad bad f → Stuck bad f
at_once bad f h = record { octets = []; body = []; bad = bad; is = refl; body_is = refl; bad_is = h }

behind_octet : (o : Octet) (front rest : List ℕ) (f : NameFaultKind) → IsOctet o front → Stuck rest f → Stuck (front ++ rest) f
behind_octet o front rest f is s = record {
  octets = o ∷ s.octets;
  body = front ++ s.body;
  bad = s.bad;
  is = ap (λ (x : List ℕ). front ++ x) s.is ∙ sym (append_assoc front s.body s.bad);
  body_is = (front, s.body, is, refl, s.body_is);
  bad_is = s.bad_is;
}

no_escape : (rest : List ℕ) (f : NameFaultKind) → is_escape rest ≡ false → failed Escape ≡ Err f → Stuck (92 ∷ rest) f
no_escape rest f h e = subst (Stuck (92 ∷ rest)) (failed_is Escape f e) (at_once (92 ∷ rest) Escape (rest, refl, h))

-- the fault that is met after this state
After : State → List ℕ → NameFaultKind → Type 0
After Plain bs f = octets_from Plain (P bs) ≡ Err f → Stuck bs f
After Backslash bs f = octets_from Backslash (piece is_separator true bs) ≡ Err f → Stuck (92 ∷ bs) f
After (HalfPair h) bs f = (c : ℕ) → is_hex c ≡ true → hex c ≡ h → octets_from (HalfPair h) (P bs) ≡ Err f → Stuck (92 ∷ c ∷ bs) f

raw_bad : (b : ℕ) (bs : List ℕ) (f : NameFaultKind) (t : Bool) → eqb b 59 ≡ t → is_separator b ≡ false → may_stand b ≡ false → eqb b 92 ≡ false → failed (cond t FormNotSupported NotEscaped) ≡ Err f → Stuck (b ∷ bs) f
raw_bad b bs f true is h k l e = subst (Stuck (b ∷ bs)) (failed_is FormNotSupported f e) (at_once (b ∷ bs) FormNotSupported (bs, ap (λ (x : ℕ). x ∷ bs) (eqb-true b 59 is)))
raw_bad b bs f false is h k l e = subst (Stuck (b ∷ bs)) (failed_is NotEscaped f e) (at_once (b ∷ bs) NotEscaped (b, bs, refl, special_is b h k l is))

module _ (b : ℕ) (bs : List ℕ) (f : NameFaultKind) where
  plain_by : (t : Bool) → is_separator b ≡ t → After Plain bs f → After Backslash bs f → octets_from Plain (cond t [] (b ∷ piece is_separator (eqb b 92) bs)) ≡ Err f → Stuck (b ∷ bs) f
  unfolding octets_from After
  plain_by true apart plain backslash e = absurd cc
  plain_by false apart plain backslash e =
      let more = piece is_separator (eqb b 92) bs in
      elim (chosen (may_stand b) (with_octet true b (octets_from Plain more)) (cond (eqb b 92) (octets_from Backslash more) (Err (raw_fault b))) (Err f) e) [
        | inl y ↦ behind_octet (record { raw = true; byte = b }) (b ∷ []) bs f (y.0, refl)
            (plain (ap (λ (t : Bool). octets_from Plain (piece is_separator t bs)) (sym (stand_apart b y.0).1) ∙ with_octet-err true b (octets_from Plain more) f y.1))
        | inr n ↦ elim (chosen (eqb b 92) (octets_from Backslash more) (Err (raw_fault b)) (Err f) n.1) [
          | inl y ↦ subst (λ (x : ℕ). Stuck (x ∷ bs) f) (sym (eqb-true b 92 y.0)) (backslash (ap (λ (t : Bool). octets_from Backslash (piece is_separator t bs)) (sym y.0) ∙ y.1))
          | inr m ↦ raw_bad b bs f (eqb b 59) refl apart n.0 m.0 m.1
        ]
      ]

  half_not : (c : ℕ) → is_hex c ≡ true → is_hex b ≡ false → is_escape (c ∷ b ∷ bs) ≡ false
  half_not c is h = ap (λ (t : Bool). t || (is_hex c && is_hex b)) (no_follow c is) ∙ ap (λ (t : Bool). t && is_hex b) is ∙ h

  half_on : (h c : ℕ) (t : Bool) → is_separator b ≡ t → is_hex c ≡ true → hex c ≡ h → After Plain bs f → octets_from (HalfPair h) (cond t [] (b ∷ piece is_separator (eqb b 92) bs)) ≡ Err f → Stuck (92 ∷ c ∷ b ∷ bs) f
  unfolding octets_from After
  half_on h c true apart is value plain e = no_escape (c ∷ b ∷ bs) f (half_not c is (no_digit b apart)) e
  half_on h c false apart is value plain e =
      let more = piece is_separator (eqb b 92) bs in
      elim (chosen (is_hex b) (with_octet false (16 * h + hex b) (octets_from Plain more)) (Err Escape) (Err f) e) [
        | inl y ↦ behind_octet (record { raw = false; byte = 16 * hex c + hex b }) (92 ∷ c ∷ b ∷ []) bs f (refl, is, y.0, refl)
            (plain (ap (λ (t : Bool). octets_from Plain (piece is_separator t bs)) (sym (digit_apart b y.0).1) ∙ with_octet-err false (16 * h + hex b) (octets_from Plain more) f y.1))
        | inr n ↦ no_escape (c ∷ b ∷ bs) f (half_not c is n.0) n.1
      ]

  backslash_by : After Plain bs f → ((c : ℕ) → is_hex c ≡ true → octets_from (HalfPair (hex c)) (P bs) ≡ Err f → Stuck (92 ∷ c ∷ bs) f) → octets_from Backslash (b ∷ P bs) ≡ Err f → Stuck (92 ∷ b ∷ bs) f
  unfolding octets_from After
  backslash_by plain half e =
      elim (chosen (may_follow b) (with_octet false b (octets_from Plain (P bs))) (cond (is_hex b) (octets_from (HalfPair (hex b)) (P bs)) (Err Escape)) (Err f) e) [
        | inl y ↦ behind_octet (record { raw = false; byte = b }) (92 ∷ b ∷ []) bs f (refl, y.0, refl) (plain (with_octet-err false b (octets_from Plain (P bs)) f y.1))
        | inr n ↦ elim (chosen (is_hex b) (octets_from (HalfPair (hex b)) (P bs)) (Err Escape) (Err f) n.1) [
          | inl y ↦ half b y.0 y.1
          | inr m ↦ no_escape (b ∷ bs) f (neither bs n.0 m.0) m.1
        ]
      ]
    where
      neither : (bs : List ℕ) → may_follow b ≡ false → is_hex b ≡ false → is_escape (b ∷ bs) ≡ false
      neither [] h k = h
      neither (c ∷ cs) h k = ap (λ (t : Bool). t || (is_hex b && is_hex c)) h ∙ ap (λ (t : Bool). t && is_hex c) k

after : (s : State) (bs : List ℕ) (f : NameFaultKind) → After s bs f
unfolding octets_from piece After
after Plain [] f = λ e. absurd cc
after Backslash [] f = λ e. no_escape [] f refl e
after (HalfPair h) [] f = λ c is value e. no_escape (c ∷ []) f (no_follow c is) e
after Plain (b ∷ bs) f = λ e. plain_by b bs f (is_separator b) refl (after Plain bs f) (after Backslash bs f) e
after Backslash (b ∷ bs) f = λ e. backslash_by b bs f (after Plain bs f) (λ c is k. after (HalfPair (hex c)) bs f c is refl k) e
after (HalfPair h) (b ∷ bs) f = λ c is value e. half_on b bs f h c (is_separator b) refl is value (after Plain bs f) e

pub fails_stuck : (text : List ℕ) (f : NameFaultKind) → octets_from Plain (P text) ≡ Err f → Stuck text f
unfolding After
fails_stuck text f e = after Plain text f e

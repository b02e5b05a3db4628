-- The octets of a value: what is read is spelled so, and what is spelled so is read.
use Rattle.std.proofs.Common.{◌≡◌, ℕ, zero, suc, ◌+◌, ◌*◌, Bool, true, false, cond, not, ◌&&◌, ◌||◌, eqb, List, [], ◌∷◌, ◌++◌, map, replicate, Result, Ok, Err, ◌⊎◌, inl, inr, refl, sym, ap, subst, ◌∙◌, append_assoc, arith}
use Rattle.std.proofs.lemmas.Bool.{eqb-true, not-true}
use Rattle.std.proofs.lemmas.Bool.Decides.{nat_tests}
use Rattle.dn.specs.declared.faults.NameFaultKind.{NameFaultKind}
use Rattle.dn.specs.declared.faults.NameFaultKind.TheVariants.{Escape, FormNotSupported}
use Rattle.dn.specs.Spelling.{Octet, may_stand, may_follow, is_hex, hex, IsOctet, AreOctets, is_raw_space, begins_well, ends_well, byte_of, spaces}
use Rattle.base.specs.Ends.{is_space}
use Rattle.dn.specs.Reading.{State, Plain, Backslash, HalfPair, with_octet, octets_from, keep, trimmed, raw_fault, begins_form, value_from, value_of}
use Rattle.dn.specs.NameFaults.{Stops}

pub chosen : {A : Type 0} (b : Bool) (x y z : A) → cond b x y ≡ z → ((b ≡ true) × (x ≡ z)) ⊎ ((b ≡ false) × (y ≡ z))
chosen true x y z e = inl (refl, e)
chosen false x y z e = inr (refl, e)

abbrev done : List Octet → Result (List Octet) NameFaultKind
done us = Ok us

done_is : (us vs : List Octet) → done us ≡ done vs → us ≡ vs
done_is us vs e = cc

abbrev fine : List ℕ → Result (List ℕ) NameFaultKind
fine v = Ok v

fine_is : (v w : List ℕ) → fine v ≡ fine w → v ≡ w
fine_is v w e = cc

with_octet-ok : (raw : Bool) (byte : ℕ) (r : Result (List Octet) NameFaultKind) (us : List Octet) → with_octet raw byte r ≡ Ok us → (more : List Octet) × (r ≡ Ok more) × (us ≡ record { raw = raw; byte = byte } ∷ more)
with_octet-ok raw byte (Ok more) us e = (more, refl, sym (done_is _ us e))
with_octet-ok raw byte (Err f) us e = absurd cc

built : (u : Octet) (more us : List Octet) (front rest : List ℕ) → us ≡ u ∷ more → IsOctet u front → AreOctets more rest → AreOctets us (front ++ rest)
built u more us front rest e is ih = subst (λ (x : List Octet). AreOctets x (front ++ rest)) (sym e) (front, rest, is, refl, ih)

-- what was read of a text after this state
Read : State → List ℕ → List Octet → Type 0
Read Plain bs us = AreOctets us bs
Read Backslash bs us = AreOctets us (92 ∷ bs)
Read (HalfPair h) bs us = (c : ℕ) → is_hex c ≡ true → hex c ≡ h → AreOctets us (92 ∷ c ∷ bs)

sound : (s : State) (bs : List ℕ) (us : List Octet) → octets_from s bs ≡ Ok us → Read s bs us
unfolding octets_from Read
sound Plain [] us e = subst (λ (x : List Octet). AreOctets x []) (done_is [] us e) refl
sound Backslash [] us e = absurd cc
sound (HalfPair h) [] us e = absurd cc
sound Plain (b ∷ bs) us e =
    elim (chosen (may_stand b) (with_octet true b (octets_from Plain bs)) (cond (eqb b 92) (octets_from Backslash bs) (Err (raw_fault b))) (Ok us) e) [
      | inl y ↦ let w = with_octet-ok true b (octets_from Plain bs) us y.1 in built (record { raw = true; byte = b }) w.0 us (b ∷ []) bs w.2 (y.0, refl) (sound Plain bs w.0 w.1)
      | inr n ↦ elim (chosen (eqb b 92) (octets_from Backslash bs) (Err (raw_fault b)) (Ok us) n.1) [
        | inl y ↦ subst (λ (x : ℕ). AreOctets us (x ∷ bs)) (sym (eqb-true _ _ y.0)) (sound Backslash bs us y.1)
        | inr m ↦ absurd (let k = m.1 in cc)
      ]
    ]
sound Backslash (b ∷ bs) us e =
    elim (chosen (may_follow b) (with_octet false b (octets_from Plain bs)) (cond (is_hex b) (octets_from (HalfPair (hex b)) bs) (Err Escape)) (Ok us) e) [
      | inl y ↦ let w = with_octet-ok false b (octets_from Plain bs) us y.1 in built (record { raw = false; byte = b }) w.0 us (92 ∷ b ∷ []) bs w.2 (refl, y.0, refl) (sound Plain bs w.0 w.1)
      | inr n ↦ elim (chosen (is_hex b) (octets_from (HalfPair (hex b)) bs) (Err Escape) (Ok us) n.1) [
        | inl y ↦ sound (HalfPair (hex b)) bs us y.1 b y.0 refl
        | inr m ↦ absurd (let k = m.1 in cc)
      ]
    ]
sound (HalfPair h) (b ∷ bs) us e = λ c is value.
    elim (chosen (is_hex b) (with_octet false (16 * h + hex b) (octets_from Plain bs)) (Err Escape) (Ok us) e) [
      | inl y ↦ let w = with_octet-ok false (16 * h + hex b) (octets_from Plain bs) us y.1 in
          built (record { raw = false; byte = 16 * h + hex b }) w.0 us (92 ∷ c ∷ b ∷ []) bs w.2 (refl, is, y.0, ap (λ (x : ℕ). record { raw = false; byte = 16 * x + hex b }) (sym value)) (sound Plain bs w.0 w.1)
      | inr m ↦ absurd (let k = m.1 in cc)
    ]

-- no hexadecimal digit may follow a backslash by itself
no_follow : (b : ℕ) → is_hex b ≡ true → may_follow b ≡ false
no_follow b e = grind (arith, nat_tests)

module _ (u : Octet) (us : List Octet) (rest : List ℕ) (ih : octets_from Plain rest ≡ Ok us) where
  raw_one : (b : ℕ) → IsOctet u (b ∷ []) → octets_from Plain (b ∷ rest) ≡ Ok (u ∷ us)
  unfolding octets_from
  raw_one b is =
      ap (λ (t : Bool). cond t (with_octet true b (octets_from Plain rest)) (cond (eqb b 92) (octets_from Backslash rest) (Err (raw_fault b)))) is.0
      ∙ ap (with_octet true b) ih ∙ ap (λ (x : Octet). done (x ∷ us)) (sym is.1)

  escaped : (s b : ℕ) → IsOctet u (s ∷ b ∷ []) → octets_from Plain (s ∷ b ∷ rest) ≡ Ok (u ∷ us)
  unfolding octets_from
  escaped s b is =
      ap (λ (x : ℕ). octets_from Plain (x ∷ b ∷ rest)) is.0
      ∙ ap (λ (t : Bool). cond t (with_octet false b (octets_from Plain rest)) (cond (is_hex b) (octets_from (HalfPair (hex b)) rest) (Err Escape))) is.1
      ∙ ap (with_octet false b) ih ∙ ap (λ (x : Octet). done (x ∷ us)) (sym is.2)

  hexed : (s b c : ℕ) → IsOctet u (s ∷ b ∷ c ∷ []) → octets_from Plain (s ∷ b ∷ c ∷ rest) ≡ Ok (u ∷ us)
  unfolding octets_from
  hexed s b c is =
      ap (λ (x : ℕ). octets_from Plain (x ∷ b ∷ c ∷ rest)) is.0
      ∙ ap (λ (t : Bool). cond t (with_octet false b (octets_from Plain (c ∷ rest))) (cond (is_hex b) (octets_from (HalfPair (hex b)) (c ∷ rest)) (Err Escape))) (no_follow b is.1)
      ∙ ap (λ (t : Bool). cond t (octets_from (HalfPair (hex b)) (c ∷ rest)) (Err Escape)) is.1
      ∙ ap (λ (t : Bool). cond t (with_octet false (16 * hex b + hex c) (octets_from Plain rest)) (Err Escape)) is.2
      ∙ ap (with_octet false (16 * hex b + hex c)) ih ∙ ap (λ (x : Octet). done (x ∷ us)) (sym is.3)

complete : (us : List Octet) (text : List ℕ) → AreOctets us text → octets_from Plain text ≡ Ok us
unfolding octets_from
complete [] text e = ap (octets_from Plain) e
complete (u ∷ us) text ([], rest, is, e, more) = absurd is
complete (u ∷ us) text (b ∷ [], rest, is, e, more) = ap (octets_from Plain) e ∙ raw_one u us rest (complete us rest more) b is
complete (u ∷ us) text (s ∷ b ∷ [], rest, is, e, more) = ap (octets_from Plain) e ∙ escaped u us rest (complete us rest more) s b is
complete (u ∷ us) text (s ∷ b ∷ c ∷ [], rest, is, e, more) = ap (octets_from Plain) e ∙ hexed u us rest (complete us rest more) s b c is
complete (u ∷ us) text (s ∷ b ∷ c ∷ d ∷ bs, rest, is, e, more) = absurd is

-- ---- the spaces at the end

abbrev pub space : Octet
space = record { raw = true; byte = 32 }

and_true : (a b : Bool) → (a && b) ≡ true → (a ≡ true) × (b ≡ true)
and_true true b e = (refl, e)
and_true false b e = absurd cc

-- only one raw space spells a raw space
space_is : (u : Octet) (front : List ℕ) → IsOctet u front → is_raw_space u ≡ true → front ≡ 32 ∷ []
space_is u [] is e = absurd is
space_is u (b ∷ []) is e =
    let k = and_true u.raw (eqb u.byte 32) e in
    ap (λ (x : ℕ). x ∷ []) (ap byte_of (sym is.1) ∙ eqb-true _ _ k.1)
space_is u (s ∷ b ∷ []) is e = absurd (let k = and_true u.raw (eqb u.byte 32) e in let l = ap (λ (x : Octet). x.raw) is.2 in cc)
space_is u (s ∷ b ∷ c ∷ []) is e = absurd (let k = and_true u.raw (eqb u.byte 32) e in let l = ap (λ (x : Octet). x.raw) is.3 in cc)
space_is u (s ∷ b ∷ c ∷ d ∷ bs) is e = absurd is

-- a text of units is the text of those that are kept, and spaces
record Cut (us : List Octet) (text : List ℕ) : Type 0 where
  pub spaces : ℕ
  pub body : List ℕ
  pub text_is : text ≡ body ++ replicate spaces 32
  pub spelled : AreOctets us body

-- one more unit in front
more_kept : (u : Octet) (kept : List Octet) (s : Bool) (front rest : List ℕ) → is_raw_space u ≡ s → IsOctet u front → Cut kept rest → Cut (keep u kept) (front ++ rest)
more_kept u (v ∷ vs) s front rest e is c = record { spaces = c.spaces; body = front ++ c.body; text_is = ap (λ (x : List ℕ). front ++ x) c.text_is ∙ sym (append_assoc front c.body (replicate c.spaces 32)); spelled = (front, c.body, is, refl, c.spelled) }
more_kept u [] true front rest e is c =
    let one = space_is u front is e in
    let all : front ++ rest ≡ [] ++ replicate (suc c.spaces) 32 = ap (λ (x : List ℕ). x ++ rest) one ∙ ap (λ (x : List ℕ). 32 ∷ x) (c.text_is ∙ ap (λ (x : List ℕ). x ++ replicate c.spaces 32) c.spelled) in
    subst (λ (t : Bool). Cut (cond t [] (u ∷ [])) (front ++ rest)) (sym e) (record { spaces = suc c.spaces; body = []; text_is = all; spelled = refl })
more_kept u [] false front rest e is c =
    subst (λ (t : Bool). Cut (cond t [] (u ∷ [])) (front ++ rest)) (sym e) (record { spaces = c.spaces; body = front ++ c.body; text_is = ap (λ (x : List ℕ). front ++ x) c.text_is ∙ sym (append_assoc front c.body (replicate c.spaces 32)); spelled = (front, c.body, is, refl, c.spelled) })

cut : (us : List Octet) (text : List ℕ) → AreOctets us text → Cut (trimmed us) text
unfolding trimmed
cut [] text e = record { spaces = 0; body = []; text_is = e; spelled = refl }
cut (u ∷ us) text (front, rest, is, e, more) = subst (λ (t : List ℕ). Cut (keep u (trimmed us)) t) (sym e) (more_kept u (trimmed us) (is_raw_space u) front rest refl is (cut us rest more))

keep_ends : (u : Octet) (kept : List Octet) (s : Bool) → is_raw_space u ≡ s → ends_well kept ≡ true → ends_well (keep u kept) ≡ true
keep_ends u (v ∷ vs) s e h = h
keep_ends u [] true e h = subst (λ (t : Bool). ends_well (cond t [] (u ∷ [])) ≡ true) (sym e) refl
keep_ends u [] false e h = subst (λ (t : Bool). ends_well (cond t [] (u ∷ [])) ≡ true) (sym e) (ap not e)

trimmed_ends : (us : List Octet) → ends_well (trimmed us) ≡ true
unfolding trimmed
trimmed_ends [] = refl
trimmed_ends (u ∷ us) = keep_ends u (trimmed us) (is_raw_space u) refl (trimmed_ends us)

-- and what is spelled so is read
spaces_too : (n : ℕ) → AreOctets (replicate n space) (replicate n 32)
spaces_too zero = refl
spaces_too (suc n) = (32 ∷ [], replicate n 32, (refl, refl), refl, spaces_too n)

with_spaces : (us : List Octet) (body : List ℕ) (n : ℕ) → AreOctets us body → AreOctets (us ++ replicate n space) (body ++ replicate n 32)
with_spaces [] body n e = subst (λ (t : List ℕ). AreOctets (replicate n space) (t ++ replicate n 32)) (sym e) (spaces_too n)
with_spaces (u ∷ us) body n (front, rest, is, e, more) = (front, rest ++ replicate n 32, is, ap (λ (t : List ℕ). t ++ replicate n 32) e ∙ append_assoc front rest (replicate n 32), with_spaces us rest n more)

no_spaces : (n : ℕ) → trimmed (replicate n space) ≡ []
unfolding trimmed
no_spaces zero = refl
no_spaces (suc n) = ap (keep space) (no_spaces n)

pub trimmed_with : (us : List Octet) (n : ℕ) → ends_well us ≡ true → trimmed (us ++ replicate n space) ≡ us
unfolding trimmed
trimmed_with [] n h = no_spaces n
trimmed_with (u ∷ []) n h = ap (keep u) (no_spaces n) ∙ ap (λ (t : Bool). cond t [] (u ∷ [])) (not-true (is_raw_space u) h)
trimmed_with (u ∷ v ∷ us) n h = ap (keep u) (trimmed_with (v ∷ us) n h)

-- ---- a value

pub record Value (text value : List ℕ) : Type 0 where
  pub octets : List Octet
  pub behind : ℕ
  pub body : List ℕ
  pub text_is : text ≡ body ++ spaces behind
  pub body_is : AreOctets octets body
  pub begins : begins_well octets ≡ true
  pub ends : ends_well octets ≡ true
  pub value_is : value ≡ map byte_of octets

value_from-ok : (r : Result (List Octet) NameFaultKind) (v : List ℕ) → value_from r ≡ Ok v → (us : List Octet) × (r ≡ Ok us) × (v ≡ map byte_of (trimmed us))
value_from-ok (Ok us) v e = (us, refl, sym cc)
value_from-ok (Err f) v e = absurd cc

-- no space and no number sign at the front
abbrev pub Fresh : List ℕ → Type 0
Fresh [] = Unit {0}
Fresh (b ∷ bs) = (eqb b 32 || eqb b 35) ≡ false

raw_begins : (o : Octet) (b : ℕ) → o ≡ record { raw = true; byte = b } → (eqb b 32 || eqb b 35) ≡ false → not (o.raw && (eqb o.byte 32 || eqb o.byte 35)) ≡ true
raw_begins o b is h = ap (λ (x : Octet). not (x.raw && (eqb x.byte 32 || eqb x.byte 35))) is ∙ ap not h

escape_begins : (o : Octet) (b : ℕ) → o ≡ record { raw = false; byte = b } → not (o.raw && (eqb o.byte 32 || eqb o.byte 35)) ≡ true
escape_begins o b is = ap (λ (x : Octet). not (x.raw && (eqb x.byte 32 || eqb x.byte 35))) is

begins_one : (o : Octet) (front rest : List ℕ) → IsOctet o front → Fresh (front ++ rest) → not (o.raw && (eqb o.byte 32 || eqb o.byte 35)) ≡ true
begins_one o [] rest is h = absurd is
begins_one o (b ∷ []) rest is h = raw_begins o b is.1 h
begins_one o (s ∷ b ∷ []) rest is h = escape_begins o b is.2
begins_one o (s ∷ b ∷ c ∷ []) rest is h = escape_begins o (16 * hex b + hex c) is.3
begins_one o (s ∷ b ∷ c ∷ d ∷ bs) rest is h = absurd is

fresh_begins : (os : List Octet) (body : List ℕ) → AreOctets os body → Fresh body → begins_well os ≡ true
fresh_begins [] body is h = refl
fresh_begins (o ∷ os) body (front, rest, is, e, more) h = begins_one o front rest is (subst Fresh e h)

fresh_front : (body rest : List ℕ) → Fresh (body ++ rest) → Fresh body
fresh_front [] rest h = tt
fresh_front (b ∷ bs) rest h = h

octets_sound : (text v : List ℕ) → Fresh text → value_from (octets_from Plain text) ≡ Ok v → Value text v
unfolding Read
octets_sound text v fresh e =
    let w = value_from-ok (octets_from Plain text) v e in
    let c = cut w.0 text (sound Plain text w.0 w.1) in
    record { octets = trimmed w.0; behind = c.spaces; body = c.body; text_is = c.text_is; body_is = c.spelled; begins = fresh_begins (trimmed w.0) c.body c.spelled (fresh_front c.body (replicate c.spaces 32) (subst Fresh c.text_is fresh)); ends = trimmed_ends w.0; value_is = w.2 }

fresh_text : (text : List ℕ) → Stops is_space text → begins_form text ≡ false → Fresh text
fresh_text [] h e = tt
fresh_text (b ∷ bs) h e = grind (arith, nat_tests)

pub value_sound : (text v : List ℕ) → Stops is_space text → value_of text ≡ Ok v → Value text v
unfolding value_of
value_sound text v h e =
    elim (chosen (begins_form text) (Err FormNotSupported) (value_from (octets_from Plain text)) (Ok v) e) [
      | inl y ↦ absurd (let k = y.1 in cc)
      | inr n ↦ octets_sound text v (fresh_text text h n.0) n.1
    ]

-- and what is spelled so is read
form_one : (o : Octet) (os : List Octet) (front rest : List ℕ) → IsOctet o front → begins_well (o ∷ os) ≡ true → begins_form (front ++ rest) ≡ false
form_one o os [] rest is h = absurd is
form_one o os (b ∷ []) rest is h = raw_form b is.0 (sym (ap (λ (x : Octet). not (x.raw && (eqb x.byte 32 || eqb x.byte 35))) is.1) ∙ h)
  where
    raw_form : (b : ℕ) → may_stand b ≡ true → not (eqb b 32 || eqb b 35) ≡ true → (eqb b 34 || eqb b 35) ≡ false
    raw_form b e f = grind (arith, nat_tests)
form_one o os (s ∷ b ∷ []) rest is h = ap (λ (x : ℕ). eqb x 34 || eqb x 35) is.0
form_one o os (s ∷ b ∷ c ∷ []) rest is h = ap (λ (x : ℕ). eqb x 34 || eqb x 35) is.0
form_one o os (s ∷ b ∷ c ∷ d ∷ bs) rest is h = absurd is

spaces_form : (n : ℕ) → begins_form (spaces n) ≡ false
spaces_form zero = refl
spaces_form (suc n) = refl

no_form : (os : List Octet) (body rest : List ℕ) → AreOctets os body → begins_well os ≡ true → begins_form rest ≡ false → begins_form (body ++ rest) ≡ false
no_form [] body rest e h k = ap (λ (x : List ℕ). begins_form (x ++ rest)) e ∙ k
no_form (o ∷ os) body rest (front, more, is, e, are) h k =
    ap (λ (x : List ℕ). begins_form (x ++ rest)) e ∙ ap begins_form (append_assoc front more rest) ∙ form_one o os front (more ++ rest) is h

pub value_complete : (text v : List ℕ) → Value text v → value_of text ≡ Ok v
unfolding value_of
value_complete text v s =
    let all = complete (s.octets ++ replicate s.behind space) (s.body ++ replicate s.behind 32) (with_spaces s.octets s.body s.behind s.body_is) in
    ap value_of s.text_is
    ∙ ap (λ (t : Bool). cond t (Err FormNotSupported) (value_from (octets_from Plain (s.body ++ spaces s.behind)))) (no_form s.octets s.body (spaces s.behind) s.body_is s.begins (spaces_form s.behind))
    ∙ ap value_from all ∙ ap (λ (us : List Octet). fine (map byte_of us)) (trimmed_with s.octets s.behind s.ends) ∙ ap fine (sym s.value_is)

raw_no_space : (b : ℕ) → not (eqb b 32 || eqb b 35) ≡ true → eqb b 32 ≡ false
raw_no_space b h = grind (arith, nat_tests)

one_begins : (o : Octet) (os : List Octet) (front rest : List ℕ) → IsOctet o front → begins_well (o ∷ os) ≡ true → Stops is_space (front ++ rest)
one_begins o os [] rest is h = absurd is
one_begins o os (b ∷ []) rest is h = raw_no_space b (sym (ap (λ (x : Octet). not (x.raw && (eqb x.byte 32 || eqb x.byte 35))) is.1) ∙ h)
one_begins o os (s ∷ b ∷ []) rest is h = ap (λ (x : ℕ). eqb x 32) is.0
one_begins o os (s ∷ b ∷ c ∷ []) rest is h = ap (λ (x : ℕ). eqb x 32) is.0
one_begins o os (s ∷ b ∷ c ∷ d ∷ bs) rest is h = absurd is

pub body_begins : (o : Octet) (os : List Octet) (body rest : List ℕ) → AreOctets (o ∷ os) body → begins_well (o ∷ os) ≡ true → Stops is_space (body ++ rest)
body_begins o os body rest (front, more, is, e, are) h =
    subst (λ (x : List ℕ). Stops is_space (x ++ rest)) (sym e) (subst (Stops is_space) (sym (append_assoc front more rest)) (one_begins o os front (more ++ rest) is h))

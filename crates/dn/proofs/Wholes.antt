-- Texts that stand whole between separators, and how such texts are cut.
use Rattle.std.proofs.Common.{◌≡◌, ℕ, Bool, true, false, cond, not, ◌&&◌, ◌||◌, eqb, List, [], ◌∷◌, ◌++◌, length, refl, sym, ap, subst, ◌∙◌, arith}
use Rattle.std.specs.List.{onto_first, list_all, join_with_byte}
use Rattle.std.proofs.lemmas.Bool.{and_parts, eqb-true}
use Rattle.std.proofs.lemmas.Bool.Decides.{nat_tests}
use Rattle.dn.specs.Names.{Ava, Rdn, is_type_byte, is_type}
use Rattle.dn.specs.Spelling.{Octet, may_stand, is_hex, IsOctet, AreOctets, spaces, SpellsAva, AreJoined, SpellsRdn}
use Rattle.base.specs.Ends.{is_space}
use Rattle.dn.specs.Reading.{escapes, cut_raw}
use Rattle.dn.proofs.Runs.{all_spaces}

-- no separator but behind a backslash, and no backslash open at the end; the second argument says whether one is open before
abbrev pub IsWhole : ℕ → Bool → List ℕ → Type 0
IsWhole sep escaped [] = escaped ≡ false
IsWhole sep escaped (b ∷ bs) = ((not escaped && eqb b sep) ≡ false) × IsWhole sep (escapes escaped b) bs

-- a plus sign or a comma
abbrev pub IsSeparator : ℕ → Type 0
IsSeparator sep = (eqb sep 43 || eqb sep 44) ≡ true

pub whole_append : (sep : ℕ) (escaped : Bool) (xs ys : List ℕ) → IsWhole sep escaped xs → IsWhole sep false ys → IsWhole sep escaped (xs ++ ys)
whole_append sep escaped [] ys h g = subst (λ (e : Bool). IsWhole sep e ys) (sym h) g
whole_append sep escaped (x ∷ xs) ys h g = (h.0, whole_append sep (escapes escaped x) xs ys h.1 g)

-- ---- cutting

itself : (sep : ℕ) → eqb sep sep ≡ true
itself sep = grind (arith, nat_tests)

pub cut_at : (sep : ℕ) (escaped : Bool) (x rest : List ℕ) → IsWhole sep escaped x → cut_raw sep escaped (x ++ sep ∷ rest) ≡ x ∷ cut_raw sep false rest
unfolding cut_raw
cut_at sep escaped [] rest h =
    ap (λ (e : Bool). cond (not e && eqb sep sep) ([] ∷ cut_raw sep false rest) (onto_first sep (cut_raw sep (escapes e sep) rest))) h
    ∙ ap (λ (t : Bool). cond t ([] ∷ cut_raw sep false rest) (onto_first sep (cut_raw sep (escapes false sep) rest))) (itself sep)
cut_at sep escaped (b ∷ bs) rest h =
    ap (λ (t : Bool). cond t ([] ∷ cut_raw sep false (bs ++ sep ∷ rest)) (onto_first b (cut_raw sep (escapes escaped b) (bs ++ sep ∷ rest)))) h.0
    ∙ ap (onto_first b) (cut_at sep (escapes escaped b) bs rest h.1)

pub cut_none : (sep : ℕ) (escaped : Bool) (x : List ℕ) → IsWhole sep escaped x → cut_raw sep escaped x ≡ x ∷ []
unfolding cut_raw
cut_none sep escaped [] h = refl
cut_none sep escaped (b ∷ bs) h =
    ap (λ (t : Bool). cond t ([] ∷ cut_raw sep false bs) (onto_first b (cut_raw sep (escapes escaped b) bs))) h.0
    ∙ ap (onto_first b) (cut_none sep (escapes escaped b) bs h.1)

-- ---- the pieces joined again

abbrev pub IsSome : {A : Type 0} → List A → Type 0
IsSome [] = ⊥
IsSome (x ∷ xs) = Unit {0}

cond_some : {A : Type 0} (t : Bool) (xs ys : List A) → IsSome xs → IsSome ys → IsSome (cond t xs ys)
cond_some true xs ys h g = h
cond_some false xs ys h g = g

onto_some : (x : ℕ) (ps : List (List ℕ)) → IsSome (onto_first x ps)
onto_some x [] = tt
onto_some x (p ∷ ps) = tt

pub cut_some : (sep : ℕ) (escaped : Bool) (text : List ℕ) → IsSome (cut_raw sep escaped text)
unfolding cut_raw
cut_some sep escaped [] = tt
cut_some sep escaped (b ∷ bs) = cond_some (not escaped && eqb b sep) _ _ tt (onto_some b (cut_raw sep (escapes escaped b) bs))

join_cons : (sep : ℕ) (ps : List (List ℕ)) → IsSome ps → join_with_byte sep ([] ∷ ps) ≡ sep ∷ join_with_byte sep ps
join_cons sep [] h = absurd h
join_cons sep (p ∷ ps) h = refl

join_onto : (sep b : ℕ) (ps : List (List ℕ)) → IsSome ps → join_with_byte sep (onto_first b ps) ≡ b ∷ join_with_byte sep ps
join_onto sep b [] h = absurd h
join_onto sep b (p ∷ []) h = refl
join_onto sep b (p ∷ q ∷ ps) h = refl

join_by : (sep b : ℕ) (bs : List ℕ) (ps qs : List (List ℕ)) (t : Bool) → (t ≡ true → b ≡ sep) → IsSome ps → IsSome qs → join_with_byte sep ps ≡ bs → join_with_byte sep qs ≡ bs → join_with_byte sep (cond t ([] ∷ ps) (onto_first b qs)) ≡ b ∷ bs
join_by sep b bs ps qs true is some other h g = join_cons sep ps some ∙ ap (λ (x : ℕ). x ∷ join_with_byte sep ps) (sym (is refl)) ∙ ap (λ (x : List ℕ). b ∷ x) h
join_by sep b bs ps qs false is some other h g = join_onto sep b qs other ∙ ap (λ (x : List ℕ). b ∷ x) g

pub cut_joins : (sep : ℕ) (escaped : Bool) (text : List ℕ) → join_with_byte sep (cut_raw sep escaped text) ≡ text
unfolding cut_raw
cut_joins sep escaped [] = refl
cut_joins sep escaped (b ∷ bs) =
    join_by sep b bs (cut_raw sep false bs) (cut_raw sep (escapes escaped b) bs) (not escaped && eqb b sep) (λ h. eqb-true b sep (and_parts (not escaped) (eqb b sep) h).1)
    (cut_some sep false bs) (cut_some sep (escapes escaped b) bs) (cut_joins sep false bs) (cut_joins sep (escapes escaped b) bs)

-- ---- AVAs are whole

abbrev Apart : ℕ → ℕ → Type 0
Apart sep b = (eqb b sep ≡ false) × (eqb b 92 ≡ false)

plain_whole : (sep : ℕ) (p : ℕ → Bool) → ((b : ℕ) → p b ≡ true → Apart sep b) → (xs : List ℕ) → list_all p xs ≡ true → IsWhole sep false xs
plain_whole sep p apart [] h = refl
plain_whole sep p apart (x ∷ xs) h =
    let k = and_parts (p x) (list_all p xs) h in
    let a = apart x k.0 in
    (a.0, subst (λ (e : Bool). IsWhole sep e xs) (sym a.1) (plain_whole sep p apart xs k.1))

space_apart : (sep : ℕ) → IsSeparator sep → (b : ℕ) → is_space b ≡ true → Apart sep b
space_apart sep h b e = (grind (arith, nat_tests), grind (arith, nat_tests))

type_apart : (sep : ℕ) → IsSeparator sep → (b : ℕ) → is_type_byte b ≡ true → Apart sep b
type_apart sep h b e = (grind (arith, nat_tests), grind (arith, nat_tests))

stand_apart : (sep : ℕ) → IsSeparator sep → (b : ℕ) → may_stand b ≡ true → Apart sep b
stand_apart sep h b e = (grind (arith, nat_tests), grind (arith, nat_tests))

hex_apart : (sep : ℕ) → IsSeparator sep → (b : ℕ) → is_hex b ≡ true → Apart sep b
hex_apart sep h b e = (grind (arith, nat_tests), grind (arith, nat_tests))

slash_apart : (sep : ℕ) → IsSeparator sep → eqb 92 sep ≡ false
slash_apart sep h = grind (arith, nat_tests)

equals_apart : (sep : ℕ) → IsSeparator sep → eqb 61 sep ≡ false
equals_apart sep h = grind (arith, nat_tests)

module _ (sep : ℕ) (is_sep : IsSeparator sep) where
  slashed : (s : ℕ) (bs : List ℕ) → s ≡ 92 → IsWhole sep true bs → IsWhole sep false (s ∷ bs)
  slashed s bs is h = subst (λ (x : ℕ). IsWhole sep false (x ∷ bs)) (sym is) (slash_apart sep is_sep, h)

  one : (b : ℕ) → Apart sep b → IsWhole sep false (b ∷ [])
  one b a = (a.0, a.1)

  octet_whole : (o : Octet) (front : List ℕ) → IsOctet o front → IsWhole sep false front
  octet_whole o [] is = absurd is
  octet_whole o (b ∷ []) is = one b (stand_apart sep is_sep b is.0)
  octet_whole o (s ∷ b ∷ []) is = slashed s (b ∷ []) is.0 (refl, refl)
  octet_whole o (s ∷ b ∷ c ∷ []) is = slashed s (b ∷ c ∷ []) is.0 (refl, one c (hex_apart sep is_sep c is.2))
  octet_whole o (s ∷ b ∷ c ∷ d ∷ bs) is = absurd is

  octets_whole : (os : List Octet) (body : List ℕ) → AreOctets os body → IsWhole sep false body
  octets_whole [] body e = subst (IsWhole sep false) (sym e) refl
  octets_whole (o ∷ os) body (front, rest, is, e, are) =
      subst (IsWhole sep false) (sym e) (whole_append sep false front rest (octet_whole o front is) (octets_whole os rest are))

  spaces_whole : (n : ℕ) → IsWhole sep false (spaces n)
  spaces_whole n = plain_whole sep is_space (space_apart sep is_sep) (spaces n) (all_spaces n)

  type_whole : (ty : List ℕ) → is_type ty ≡ true → IsWhole sep false ty
  type_whole ty h = plain_whole sep is_type_byte (type_apart sep is_sep) ty (and_parts (not (eqb (length ty) 0)) (list_all is_type_byte ty) h).1

  pub ava_whole : (text : List ℕ) (p : Ava) → SpellsAva text p → IsWhole sep false text
  ava_whole text p s =
      let value = whole_append sep false s.body (spaces s.behind) (octets_whole s.octets s.body s.body_is) (spaces_whole s.behind) in
      let behind = whole_append sep false (spaces s.after) (s.body ++ spaces s.behind) (spaces_whole s.after) value in
      let rest = spaces s.after ++ (s.body ++ spaces s.behind) in
      let equals = whole_append sep false (spaces s.between) (61 ∷ rest) (spaces_whole s.between) (equals_apart sep is_sep, behind) in
      let from = whole_append sep false p.0 (spaces s.between ++ 61 ∷ rest) (type_whole p.0 s.type_is) equals in
      subst (IsWhole sep false) (sym s.text_is) (whole_append sep false (spaces s.before) (p.0 ++ (spaces s.between ++ 61 ∷ rest)) (spaces_whole s.before) from)

-- an RDN holds no comma
pub joined_whole : {X : Type 0} (P : List ℕ → X → Type 0) (sep other : ℕ) → eqb sep other ≡ false → eqb sep 92 ≡ false → ((text : List ℕ) (x : X) → P text x → IsWhole other false text)
    → (text : List ℕ) (xs : List X) → AreJoined P sep text xs → IsWhole other false text
joined_whole P sep other apart plain whole text [] h = absurd h
joined_whole P sep other apart plain whole text (x ∷ []) h = whole text x h
joined_whole P sep other apart plain whole text (x ∷ y ∷ ys) (front, rest, is, e, more) =
    subst (IsWhole other false) (sym e) (whole_append other false front (sep ∷ rest) (whole front x is) (apart, subst (λ (t : Bool). IsWhole other t rest) (sym plain) (joined_whole P sep other apart plain whole rest (y ∷ ys) more)))

pub rdn_whole : (text : List ℕ) (r : Rdn) → SpellsRdn text r → IsWhole 44 false text
rdn_whole text r h = joined_whole SpellsAva 43 44 refl refl (λ t p s. ava_whole 44 refl t p s) text r h

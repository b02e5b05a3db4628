-- An RDN, and a name, read AVA by AVA.
use Rattle.std.proofs.Common.{◌≡◌, ℕ, Bool, true, false, cond, not, ◌&&◌, eqb, List, [], ◌∷◌, ◌++◌, Option, Some, None, Result, Ok, Err, refl, sym, ap, ◌∙◌, arith}
use Rattle.std.specs.List.{onto_first}
use Rattle.std.proofs.lemmas.Bool.{and_parts, eqb-true, not-true}
use Rattle.std.proofs.lemmas.Bool.Decides.{nat_tests}
use Rattle.std.proofs.lemmas.List.{append-nil}
use Rattle.dn.specs.declared.faults.NameFaultKind.{NameFaultKind}
use Rattle.dn.specs.Names.{Ava, Rdn, Name}
use Rattle.base.specs.Answers.{◌>>=◌, each}
use Rattle.dn.specs.Reading.{ava_of, escapes, cut_raw, rdn_of}
use Rattle.dn.specs.inner.Cuts.{piece, behind, is_comma, after_first, first_ava, first_rdn, avas_behind, avas_from}
use Rattle.dn.specs.NameFaults.{is_separator}
use Rattle.dn.proofs.Pieces.{P, B, split, ends_is}
use Rattle.dn.proofs.Firsts.{before}
use Rattle.dn.proofs.Wholes.{IsWhole, cut_at, cut_none}

-- ---- a piece holds no separator

module _ (ends : ℕ → Bool) (sep : ℕ) (apart : (b : ℕ) → ends b ≡ false → eqb b sep ≡ false) where
  no_sep : (e : Bool) (b : ℕ) → (not e && ends b) ≡ false → (not e && eqb b sep) ≡ false
  no_sep true b h = refl
  no_sep false b h = apart b h

  whole_by : (e t : Bool) (b s : ℕ) (bs ps rest more : List ℕ) → (not e && ends b) ≡ t → (rest ≡ s ∷ more → IsWhole sep (escapes e b) ps) → cond t (b ∷ bs) rest ≡ s ∷ more → IsWhole sep e (cond t [] (b ∷ ps))
  whole_by e true b s bs ps rest more is h g = not-true e (and_parts (not e) (ends b) is).0
  whole_by e false b s bs ps rest more is h g = (no_sep e b is, h g)

  pub piece_whole : (e : Bool) (text : List ℕ) (s : ℕ) (more : List ℕ) → behind ends e text ≡ s ∷ more → IsWhole sep e (piece ends e text)
  unfolding piece behind
  piece_whole e [] s more h = absurd cc
  piece_whole e (b ∷ bs) s more h =
      whole_by e (not e && ends b) b s bs (piece ends (escapes e b) bs) (behind ends (escapes e b) bs) more refl (piece_whole (escapes e b) bs s more) h

  last_by : (e t : Bool) (b : ℕ) (bs rest : List ℕ) → (not e && ends b) ≡ t → (rest ≡ [] → cut_raw sep (escapes e b) bs ≡ bs ∷ []) → cond t (b ∷ bs) rest ≡ [] → cut_raw sep e (b ∷ bs) ≡ (b ∷ bs) ∷ []
  unfolding cut_raw
  last_by e true b bs rest is h g = absurd cc
  last_by e false b bs rest is h g =
      ap (λ (t : Bool). cond t ([] ∷ cut_raw sep false bs) (onto_first b (cut_raw sep (escapes e b) bs))) (no_sep e b is)
      ∙ ap (onto_first b) (h g)

  pub cut_last : (e : Bool) (text : List ℕ) → behind ends e text ≡ [] → cut_raw sep e text ≡ text ∷ []
  unfolding behind cut_raw
  cut_last e [] h = refl
  cut_last e (b ∷ bs) h = last_by e (not e && ends b) b bs (behind ends (escapes e b) bs) refl (cut_last (escapes e b) bs) h

pub piece_last : (ends : ℕ → Bool) (e : Bool) (text : List ℕ) → behind ends e text ≡ [] → piece ends e text ≡ text
piece_last ends e text h = sym (append-nil (piece ends e text)) ∙ ap (λ (x : List ℕ). piece ends e text ++ x) (sym h) ∙ sym (split ends e text)

pub split_at : (ends : ℕ → Bool) (text : List ℕ) (s : ℕ) (more : List ℕ) → behind ends false text ≡ s ∷ more → text ≡ piece ends false text ++ s ∷ more
split_at ends text s more h = split ends false text ∙ ap (λ (x : List ℕ). piece ends false text ++ x) h

plus_apart : (b : ℕ) → is_separator b ≡ false → eqb b 43 ≡ false
plus_apart b h = grind (arith, nat_tests)

comma_apart : (b : ℕ) → is_separator b ≡ false → eqb b 44 ≡ false
comma_apart b h = grind (arith, nat_tests)

itself : (b : ℕ) → is_comma b ≡ false → eqb b 44 ≡ false
itself b h = h

-- ---- the piece up to a comma

pub after_whole : (e : Bool) (x y : List ℕ) → IsWhole 44 e x → (piece is_comma e (x ++ y) ≡ x ++ piece is_comma false y) × (behind is_comma e (x ++ y) ≡ behind is_comma false y)
unfolding piece behind
after_whole e [] y h = (ap (λ (t : Bool). piece is_comma t y) h, ap (λ (t : Bool). behind is_comma t y) h)
after_whole e (b ∷ bs) y h =
    let ih = after_whole (escapes e b) bs y h.1 in (
      ap (λ (t : Bool). cond t [] (b ∷ piece is_comma (escapes e b) (bs ++ y))) h.0 ∙ ap (λ (x : List ℕ). b ∷ x) ih.0,
      ap (λ (t : Bool). cond t (b ∷ (bs ++ y)) (behind is_comma (escapes e b) (bs ++ y))) h.0 ∙ ih.1,
    )

last_comma_by : (e t : Bool) (b : ℕ) (bs rest : List ℕ) → (not e && is_separator b) ≡ t → (rest ≡ [] → behind is_comma (escapes e b) bs ≡ []) → cond t (b ∷ bs) rest ≡ [] → behind is_comma e (b ∷ bs) ≡ []
unfolding behind
last_comma_by e true b bs rest is h g = absurd cc
last_comma_by e false b bs rest is h g = ap (λ (t : Bool). cond t (b ∷ bs) (behind is_comma (escapes e b) bs)) (no_sep is_separator 44 comma_apart e b is) ∙ h g

last_comma : (e : Bool) (text : List ℕ) → behind is_separator e text ≡ [] → behind is_comma e text ≡ []
unfolding behind
last_comma e [] h = refl
last_comma e (b ∷ bs) h = last_comma_by e (not e && is_separator b) b bs (behind is_separator (escapes e b) bs) refl (last_comma (escapes e b) bs) h

-- ---- an RDN

abbrev pub Found : Type 0
Found = Result (Rdn × List ℕ) NameFaultKind

abbrev pub with_ava : Ava → Found → Found
with_ava p r = r >>= λ t. Ok (p ∷ t.0, t.1)

abbrev onto_ava : Ava → Result Rdn NameFaultKind → Result Rdn NameFaultKind
onto_ava p r = r >>= λ ps. Ok (p ∷ ps)

no_more : (q : Result Ava NameFaultKind) → ((q >>= λ p. onto_ava p (Ok [])) >>= before []) ≡ ((q >>= before []) >>= avas_from)
unfolding avas_behind
no_more (Ok p) = refl
no_more (Err e) = refl

no_plus : (q : Result Ava NameFaultKind) (more : List ℕ) → ((q >>= λ p. onto_ava p (Ok [])) >>= before (44 ∷ more)) ≡ ((q >>= before (44 ∷ more)) >>= avas_from)
unfolding avas_behind
no_plus (Ok p) more = refl
no_plus (Err e) more = refl

onto_with : (p : Ava) (r : Result Rdn NameFaultKind) (rest : List ℕ) → (onto_ava p r >>= before rest) ≡ with_ava p (r >>= before rest)
onto_with p (Ok ps) rest = refl
onto_with p (Err e) rest = refl

with_plus : (q : Result Ava NameFaultKind) (more : List ℕ) → ((q >>= λ p. onto_ava p (rdn_of (piece is_comma false more))) >>= before (behind is_comma false more)) ≡ ((q >>= before (43 ∷ more)) >>= avas_from)
unfolding avas_behind
with_plus (Ok p) more = onto_with p (rdn_of (piece is_comma false more)) (behind is_comma false more)
with_plus (Err e) more = refl

module _ (text : List ℕ) where
  rdn_is : (piece_is : List ℕ) (rest : List ℕ) → piece is_comma false text ≡ piece_is → behind is_comma false text ≡ rest → first_rdn text ≡ (rdn_of piece_is >>= before rest)
  rdn_is x rest h g = ap (λ (y : List ℕ). rdn_of y >>= before (behind is_comma false text)) h ∙ ap (λ (y : List ℕ). rdn_of x >>= before y) g

  ava_is : (rest : List ℕ) → B text ≡ rest → first_ava text ≡ (ava_of (P text) >>= before rest)
  ava_is rest h = ap (λ (x : List ℕ). ava_of (P text) >>= before x) h

  rdn_last : B text ≡ [] → first_rdn text ≡ (first_ava text >>= avas_from)
  unfolding each rdn_of
  rdn_last h =
      rdn_is text [] (piece_last is_comma false text (last_comma false text h)) (last_comma false text h)
      ∙ ap (λ (ps : List (List ℕ)). each ava_of ps >>= before []) (cut_last is_separator 43 plus_apart false text h)
      ∙ ap (λ (x : List ℕ). each ava_of (x ∷ []) >>= before []) (sym (piece_last is_separator false text h))
      ∙ no_more (ava_of (P text))
      ∙ ap (λ (r : Result (Ava × List ℕ) NameFaultKind). r >>= avas_from) (sym (ava_is [] h))

  rdn_comma : (more : List ℕ) → B text ≡ 44 ∷ more → first_rdn text ≡ (first_ava text >>= avas_from)
  unfolding piece behind each rdn_of
  rdn_comma more h =
      let s = after_whole false (P text) (44 ∷ more) (piece_whole is_separator 44 comma_apart false text 44 more h) in
      let text_is = split_at is_separator text 44 more h in
      rdn_is (P text) (44 ∷ more) (ap (piece is_comma false) text_is ∙ s.0 ∙ append-nil (P text)) (ap (behind is_comma false) text_is ∙ s.1)
      ∙ ap (λ (ps : List (List ℕ)). each ava_of ps >>= before (44 ∷ more)) (cut_none 43 false (P text) (piece_whole is_separator 43 plus_apart false text 44 more h))
      ∙ no_plus (ava_of (P text)) more
      ∙ ap (λ (r : Result (Ava × List ℕ) NameFaultKind). r >>= avas_from) (sym (ava_is (44 ∷ more) h))

  rdn_plus : (more : List ℕ) → B text ≡ 43 ∷ more → first_rdn text ≡ (first_ava text >>= avas_from)
  unfolding piece behind each rdn_of
  rdn_plus more h =
      let s = after_whole false (P text) (43 ∷ more) (piece_whole is_separator 44 comma_apart false text 43 more h) in
      let text_is = split_at is_separator text 43 more h in
      rdn_is (P text ++ 43 ∷ piece is_comma false more) (behind is_comma false more) (ap (piece is_comma false) text_is ∙ s.0) (ap (behind is_comma false) text_is ∙ s.1)
      ∙ ap (λ (ps : List (List ℕ)). each ava_of ps >>= before (behind is_comma false more)) (cut_at 43 false (P text) (piece is_comma false more) (piece_whole is_separator 43 plus_apart false text 43 more h))
      ∙ with_plus (ava_of (P text)) more
      ∙ ap (λ (r : Result (Ava × List ℕ) NameFaultKind). r >>= avas_from) (sym (ava_is (43 ∷ more) h))

  other : (s : ℕ) → is_separator s ≡ true → eqb s 43 ≡ false → s ≡ 44
  other s h g = eqb-true s 44 (grind (arith, nat_tests))

  by_separator : (s : ℕ) (more : List ℕ) (t : Bool) → eqb s 43 ≡ t → B text ≡ s ∷ more → first_rdn text ≡ (first_ava text >>= avas_from)
  by_separator s more true is h = rdn_plus more (h ∙ ap (λ (x : ℕ). x ∷ more) (eqb-true s 43 is))
  by_separator s more false is h = rdn_comma more (h ∙ ap (λ (x : ℕ). x ∷ more) (other s (ends_is is_separator false text s more h) is))

  by_behind : (rest : List ℕ) → B text ≡ rest → first_rdn text ≡ (first_ava text >>= avas_from)
  by_behind [] h = rdn_last h
  by_behind (s ∷ more) h = by_separator s more (eqb s 43) refl h

  pub rdn_first : first_rdn text ≡ (first_ava text >>= avas_from)
  rdn_first = by_behind (B text) refl

-- ---- a name

abbrev pub names : List ℕ → Result Name NameFaultKind
names text = each rdn_of (cut_raw 44 false text)

-- the names of a text, where there is one
unfoldable pub names_in : Option (List ℕ) → Result Name NameFaultKind
names_in None = Ok []
names_in (Some text) = names text

abbrev pub names_behind : List ℕ → Result Name NameFaultKind
names_behind text = names_in (after_first text)

abbrev pub onto_rdn : Rdn → Result Name NameFaultKind → Result Name NameFaultKind
onto_rdn r rs = rs >>= λ rs. Ok (r ∷ rs)

abbrev pub names_from : Rdn × List ℕ → Result Name NameFaultKind
names_from s = onto_rdn s.0 (names_behind s.1)

rdn_then : (q : Result Rdn NameFaultKind) (rest : List ℕ) → (q >>= λ r. onto_rdn r (names_behind rest)) ≡ ((q >>= before rest) >>= names_from)
rdn_then (Ok r) rest = refl
rdn_then (Err e) rest = refl

module _ (text : List ℕ) where
  name_last : behind is_comma false text ≡ [] → names text ≡ (first_rdn text >>= names_from)
  unfolding each names_in
  name_last h =
      ap (each rdn_of) (cut_last is_comma 44 itself false text h)
      ∙ ap (λ (x : List ℕ). rdn_of x >>= λ r. onto_rdn r (names_behind [])) (sym (piece_last is_comma false text h))
      ∙ rdn_then (rdn_of (piece is_comma false text)) []
      ∙ ap (λ (x : List ℕ). (rdn_of (piece is_comma false text) >>= before x) >>= names_from) (sym h)

  name_comma : (more : List ℕ) → behind is_comma false text ≡ 44 ∷ more → names text ≡ (first_rdn text >>= names_from)
  unfolding each names_in
  name_comma more h =
      ap (λ (x : List ℕ). each rdn_of (cut_raw 44 false x)) (split_at is_comma text 44 more h)
      ∙ ap (each rdn_of) (cut_at 44 false (piece is_comma false text) more (piece_whole is_comma 44 itself false text 44 more h))
      ∙ rdn_then (rdn_of (piece is_comma false text)) (44 ∷ more)
      ∙ ap (λ (x : List ℕ). (rdn_of (piece is_comma false text) >>= before x) >>= names_from) (sym h)

  by_rest : (rest : List ℕ) → behind is_comma false text ≡ rest → names text ≡ (first_rdn text >>= names_from)
  by_rest [] h = name_last h
  by_rest (s ∷ more) h = name_comma more (h ∙ ap (λ (x : ℕ). x ∷ more) (eqb-true s 44 (ends_is is_comma false text s more h)))

  pub name_first : names text ≡ (first_rdn text >>= names_from)
  name_first = by_rest (behind is_comma false text) refl

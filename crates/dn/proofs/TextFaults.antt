-- A text has a fault exactly where it is read no further.
use Rattle.std.proofs.Common.{◌≡◌, ℕ, zero, suc, ◌<◌, Bool, true, false, cond, not, ◌&&◌, ◌||◌, eqb, List, [], ◌∷◌, ◌++◌, length, Result, Ok, Err, inl, inr, refl, sym, ap, subst, ◌∙◌, append_assoc, arith}
use Rattle.std.specs.List.{list_all}
use Rattle.std.proofs.lemmas.List.{length-append}
use Rattle.dn.specs.declared.faults.NameFaultKind.{NameFaultKind}
use Rattle.dn.specs.declared.faults.NameFault.{NameFault}
use Rattle.dn.specs.declared.faults.NameFault.TheVariants as errors
use Rattle.dn.specs.Gives.{Gives}
use Rattle.std.specs.Prelude.{IfErr}
use Rattle.dn.specs.Names.{Ava, Rdn, Name}
use Rattle.dn.specs.Spelling.{SpellsAva}
use Rattle.base.specs.Answers.{◌>>=◌}
use Rattle.base.specs.Ends.{is_space}
use Rattle.dn.specs.Reading.{escapes, ava_of, name_of}
use Rattle.dn.specs.inner.Cuts.{piece, behind, first_ava, first_rdn, avas_behind, avas_from}
use Rattle.dn.specs.NameFaults.{is_separator, IsAvaFault, AreAvas, IsNameFault, IsWhy}
use Rattle.dn.proofs.Octets.{chosen}
use Rattle.dn.proofs.Pieces.{P, B, ends_is}
use Rattle.dn.proofs.Firsts.{before}
use Rattle.dn.proofs.SpelledAvas.{ava_sound, ava_complete}
use Rattle.dn.proofs.Wholes.{IsWhole, ava_whole}
use Rattle.dn.proofs.Steps.{Found, with_ava, rdn_first, names, names_in, names_behind, names_from, name_first, onto_rdn, split_at}
use Rattle.dn.proofs.Loop.{rdn_starts}
use Rattle.dn.proofs.AvaFaults.{ava_fails, fails_ava}

abbrev failed : {X : Type 0} → NameFaultKind → Result X NameFaultKind
failed f = Err f

failed_is : {X : Type 0} (f g : NameFaultKind) → failed {X = X} f ≡ failed g → f ≡ g
failed_is f g e = cc

-- ---- a whole AVA, and a separator

neither : (e : Bool) (b : ℕ) → (not e && eqb b 43) ≡ false → (not e && eqb b 44) ≡ false → (not e && is_separator b) ≡ false
neither true b h k = refl
neither false b h k = ap (λ (t : Bool). t || eqb b 44) h ∙ k

whole_piece : (e : Bool) (x : List ℕ) (s : ℕ) (rest : List ℕ) → IsWhole 43 e x → IsWhole 44 e x → is_separator s ≡ true
    → (piece is_separator e (x ++ s ∷ rest) ≡ x) × (behind is_separator e (x ++ s ∷ rest) ≡ s ∷ rest)
unfolding piece behind
whole_piece e [] s rest h k is = (
  ap (λ (t : Bool). cond (not t && is_separator s) [] (s ∷ piece is_separator (escapes t s) rest)) h ∙ ap (λ (t : Bool). cond t [] (s ∷ piece is_separator (escapes false s) rest)) is,
  ap (λ (t : Bool). cond (not t && is_separator s) (s ∷ rest) (behind is_separator (escapes t s) rest)) h ∙ ap (λ (t : Bool). cond t (s ∷ rest) (behind is_separator (escapes false s) rest)) is,
)
whole_piece e (b ∷ bs) s rest h k is =
    let n = neither e b h.0 k.0 in
    let ih = whole_piece (escapes e b) bs s rest h.1 k.1 is in (
      ap (λ (t : Bool). cond t [] (b ∷ piece is_separator (escapes e b) (bs ++ s ∷ rest))) n ∙ ap (λ (x : List ℕ). b ∷ x) ih.0,
      ap (λ (t : Bool). cond t (b ∷ (bs ++ s ∷ rest)) (behind is_separator (escapes e b) (bs ++ s ∷ rest))) n ∙ ih.1,
    )

ava_then : (ava : List ℕ) (p : Ava) (s : ℕ) (rest : List ℕ) → SpellsAva ava p → is_separator s ≡ true → first_ava (ava ++ s ∷ rest) ≡ before (s ∷ rest) p
ava_then ava p s rest spelled is =
    let w = whole_piece false ava s rest (ava_whole 43 refl ava p spelled) (ava_whole 44 refl ava p spelled) is in
    ap (λ (x : List ℕ). ava_of x >>= before (B (ava ++ s ∷ rest))) w.0
    ∙ ap (λ (x : List ℕ). ava_of ava >>= before x) w.1
    ∙ ap (λ (r : Result Ava NameFaultKind). r >>= before (s ∷ rest)) (ava_complete ava p spelled)

-- ---- the fault of what stands behind it

abbrev Same : NameFaultKind → Result Name NameFaultKind → Result Name NameFaultKind → Type 0
Same f r q = (r ≡ Err f → q ≡ Err f) × (q ≡ Err f → r ≡ Err f)

onto_fault : (r : Rdn) (q : Result Name NameFaultKind) (f : NameFaultKind) → Same f (onto_rdn r q) q
onto_fault r (Ok rs) f = (λ e. absurd cc, λ e. absurd cc)
onto_fault r (Err g) f = (λ e. e, λ e. e)

through : (r s : Rdn) (q : Result Name NameFaultKind) (f : NameFaultKind) → Same f (onto_rdn r q) (onto_rdn s q)
through r s (Ok rs) f = (λ e. absurd cc, λ e. absurd cc)
through r s (Err g) f = (λ e. e, λ e. e)

plus_fault : (p : Ava) (r : Found) (f : NameFaultKind) → Same f (with_ava p r >>= names_from) (r >>= names_from)
plus_fault p (Ok t) f = through (p ∷ t.0) t.0 (names_behind t.1) f
plus_fault p (Err g) f = (λ e. e, λ e. e)

by_separator : (p : Ava) (s : ℕ) (rest : List ℕ) (f : NameFaultKind) (t : Bool) → eqb s 43 ≡ t → Same f (avas_from (p, s ∷ rest) >>= names_from) (names rest)
unfolding avas_behind names_in
by_separator p s rest f true is =
    let e : (avas_from (p, s ∷ rest) >>= names_from) ≡ (with_ava p (first_rdn rest) >>= names_from) = ap (λ (t : Bool). with_ava p (cond t (first_rdn rest) (Ok ([], s ∷ rest))) >>= names_from) is in
    let k = plus_fault p (first_rdn rest) f in
    (λ h. name_first rest ∙ k.0 (sym e ∙ h), λ h. e ∙ k.1 (sym (name_first rest) ∙ h))
by_separator p s rest f false is =
    let e : (avas_from (p, s ∷ rest) >>= names_from) ≡ onto_rdn (p ∷ []) (names rest) = ap (λ (t : Bool). with_ava p (cond t (first_rdn rest) (Ok ([], s ∷ rest))) >>= names_from) is in
    let k = onto_fault (p ∷ []) (names rest) f in
    (λ h. k.0 (sym e ∙ h), λ h. e ∙ k.1 h)

after_ava : (ava : List ℕ) (p : Ava) (s : ℕ) (rest : List ℕ) (f : NameFaultKind) → SpellsAva ava p → is_separator s ≡ true → Same f (names (ava ++ s ∷ rest)) (names rest)
after_ava ava p s rest f spelled is =
    let text = ava ++ s ∷ rest in
    let e : names text ≡ (avas_from (p, s ∷ rest) >>= names_from) = name_first text ∙ ap (λ (r : Found). r >>= names_from) (rdn_starts text (before (s ∷ rest) p) (ava_then ava p s rest spelled is)) in
    let k = by_separator p s rest f (eqb s 43) refl in
    (λ h. k.0 (sym e ∙ h), λ h. e ∙ k.1 h)

-- ---- a fault is met

first_fails : (text : List ℕ) (f : NameFaultKind) → first_ava text ≡ Err f → names text ≡ Err f
first_fails text f h =
    name_first text ∙ ap (λ (r : Found). r >>= names_from) (rdn_first text ∙ ap (λ (r : Result (Ava × List ℕ) NameFaultKind). r >>= avas_from) h)

names_fail : (f : NameFaultKind) (ps : List Ava) (front rest : List ℕ) → AreAvas ps front → IsAvaFault rest f → names (front ++ rest) ≡ Err f
names_fail f [] front rest e h = ap (λ (x : List ℕ). names (x ++ rest)) e ∙ first_fails rest f (ava_fails rest f h)
names_fail f (p ∷ ps) front rest (ava, sep, more, spelled, is, e, are) h =
    ap names (ap (λ (x : List ℕ). x ++ rest) e ∙ append_assoc ava (sep ∷ more) rest)
    ∙ (after_ava ava p sep (more ++ rest) f spelled is).1 (names_fail f ps more rest are h)

pub fault_met : (text : List ℕ) (f : NameFaultKind) → IsNameFault text f → name_of text ≡ Err f
unfolding name_of
fault_met text f h =
    ap (λ (t : Bool). cond t (Ok []) (names text)) h.some ∙ ap names h.text_is ∙ names_fail f h.avas h.front h.rest h.front_is h.rest_is

-- ---- and one that is met stands there

record Walk (text : List ℕ) (f : NameFaultKind) : Type 0 where
  pub avas : List Ava
  pub front : List ℕ
  pub rest : List ℕ
  pub text_is : text ≡ front ++ rest
  pub front_is : AreAvas avas front
  pub rest_is : IsAvaFault rest f

here : (text : List ℕ) (f : NameFaultKind) → IsAvaFault text f → Walk text f
here text f h = record { avas = []; front = []; rest = text; text_is = refl; front_is = refl; rest_is = h }

on : (ava : List ℕ) (p : Ava) (s : ℕ) (more : List ℕ) (f : NameFaultKind) → SpellsAva ava p → is_separator s ≡ true → Walk more f → Walk (ava ++ s ∷ more) f
on ava p s more f spelled is w = record {
  avas = p ∷ w.avas;
  front = ava ++ s ∷ w.front;
  rest = w.rest;
  text_is = ap (λ (x : List ℕ). ava ++ s ∷ x) w.text_is ∙ sym (append_assoc ava (s ∷ w.front) w.rest);
  front_is = (ava, s, w.front, spelled, is, refl, w.front_is);
  rest_is = w.rest_is;
}

pub no_fault : (f : NameFaultKind) (n : Name) → ◌≡◌ {A = Result Name NameFaultKind} (Ok n) (Err f) → ⊥
no_fault f n e = absurd cc

last_reads : (text : List ℕ) (p : Ava) → first_ava text ≡ before [] p → names text ≡ Ok ((p ∷ []) ∷ [])
unfolding avas_behind names_in
last_reads text p h = name_first text ∙ ap (λ (r : Found). r >>= names_from) (rdn_starts text (before [] p) h)

shorter : (ava : List ℕ) (s : ℕ) (more : List ℕ) (n : ℕ) → length (ava ++ s ∷ more) < suc n → length more < n
shorter ava s more n lt = omega (arith, lt, length-append ava (s ∷ more))

abbrev Walks : ℕ → NameFaultKind → Type 0
Walks n f = (text : List ℕ) → length text < n → names text ≡ Err f → Walk text f

module _ (n : ℕ) (f : NameFaultKind) (ih : Walks n f) (text : List ℕ) (lt : length text < suc n) (e : names text ≡ Err f) where
  by_rest : (p : Ava) (rest : List ℕ) → B text ≡ rest → ava_of (P text) ≡ Ok p → Walk text f
  by_rest p [] is said =
      let got : first_ava text ≡ before [] p = ap (λ (x : List ℕ). ava_of (P text) >>= before x) is ∙ ap (λ (r : Result Ava NameFaultKind). r >>= before []) said in
      absurd (no_fault f ((p ∷ []) ∷ []) (sym (last_reads text p got) ∙ e))
  by_rest p (s ∷ more) is said =
      let spelled = ava_sound (P text) p said in
      let sep = ends_is is_separator false text s more is in
      let text_is = split_at is_separator text s more is in
      subst (λ (x : List ℕ). Walk x f) (sym text_is) (on (P text) p s more f spelled sep
      (ih more (shorter (P text) s more n (subst (λ (x : List ℕ). length x < suc n) text_is lt)) ((after_ava (P text) p s more f spelled sep).0 (ap names (sym text_is) ∙ e))))

  by_ava : (q : Result Ava NameFaultKind) → ava_of (P text) ≡ q → Walk text f
  by_ava (Ok p) said = by_rest p (B text) refl said
  by_ava (Err g) said =
      let got : first_ava text ≡ Err g = ap (λ (r : Result Ava NameFaultKind). r >>= before (B text)) said in
      here text f (fails_ava text f (got ∙ ap failed (failed_is g f (sym (first_fails text g got) ∙ e))))

walk : (n : ℕ) (f : NameFaultKind) → Walks n f
walk zero f = λ text lt e. absurd (none text lt)
  where
    none : (text : List ℕ) → length text < 0 → ⊥
    none text lt = omega (arith, lt)
walk (suc n) f = λ text lt e. by_ava n f (walk n f) text lt e (ava_of (P text)) refl

pub fault_stands : (text : List ℕ) (f : NameFaultKind) → name_of text ≡ Err f → IsNameFault text f
unfolding name_of
fault_stands text f e = elim (chosen (list_all is_space text) (Ok []) (names text) (Err f) e) [
  | inl y ↦ absurd (no_fault f [] y.1)
  | inr n ↦ (let w = walk (suc (length text)) f text (omega arith) n.1 in record {
    avas = w.avas;
    front = w.front;
    rest = w.rest;
    text_is = w.text_is;
    front_is = w.front_is;
    rest_is = w.rest_is;
    some = n.0;
  })
]

pub one_fault : (text : List ℕ) (f g : NameFaultKind) → IsNameFault text f → IsNameFault text g → f ≡ g
one_fault text f g h k = failed_is f g (sym (fault_met text f h) ∙ fault_met text g k)

pub why : (text : List ℕ) (r : Result Name NameFault) → Gives (λ n. n) r (name_of text) → IfErr r (IsWhy text)
why text (Ok n) h = tt
why text (Err errors.OutOfMemory) h = tt
why text (Err (errors.Fault f)) h = fault_stands text f h

-- Attributes that are lent, one by one.
use Rattle.std.proofs.Common.{◌≡◌, ℕ, ◌+◌, ◌<◌, ◌≤◌, Bool, true, false, cond, List, [], ◌∷◌, ◌++◌, map, length, drop, get_or, refl, sym, ap, ◌∙◌, append_assoc, arith}
use Rattle.std.specs.Prelude.{nat_eq, ◌||◌, Result, Ok, Err, OnOk}
use Rattle.std.specs.List.{list_any}
use Rattle.std.proofs.lemmas.Cmp.{nat_eq_equiv}
use Rattle.std.proofs.lemmas.Bool.{or_parts}
use Rattle.std.proofs.lemmas.List.{append-nil, drop-map, drop_more, drop_all, length-map}
use Rattle.values.specs.declared.types.AttributeType.{AttributeType}
use Rattle.entries.specs.Entries.{Attribute, Attributes}
use Rattle.differences.specs.declared.attributes.UserAttribute.{UserAttribute}
use Rattle.differences.specs.EntryChanges.{Block, blocks_at, blocks_between, deleting, adding}
use Rattle.differences.specs.inner.LentAttributes.{lent, all_lent, goes_on, first_blocks}

pub lent_more : (attrs : List UserAttribute) (i : ℕ) (a : UserAttribute) → i < length attrs → a ≡ get_or attrs i a → drop i (all_lent attrs) ≡ lent a ∷ drop (i + 1) (all_lent attrs)
lent_more attrs i a lt is =
    drop-map lent i attrs
    ∙ ap all_lent (drop_more attrs i a lt)
    ∙ ap (λ (x : UserAttribute). lent x ∷ all_lent (drop (i + 1) attrs)) (sym is)
    ∙ ap (λ (xs : Attributes). lent a ∷ xs) (sym (drop-map lent (i + 1) attrs))

pub lent_none : (attrs : List UserAttribute) (i : ℕ) → length attrs ≤ i → drop i (all_lent attrs) ≡ []
lent_none attrs i le = drop_all i (all_lent attrs) (omega (arith, le, length-map attrs lent))

-- ---- a type among them

module _ (t : ℕ) (attrs : List UserAttribute) (i : ℕ) (a : UserAttribute) (lt : i < length attrs) (is : a ≡ get_or attrs i a) where
  pub any_is : (b : Bool) → nat_eq a.t.now t ≡ b → list_any (λ (x : Attribute). nat_eq t x.0) (drop i (all_lent attrs)) ≡ b || list_any (λ (x : Attribute). nat_eq t x.0) (drop (i + 1) (all_lent attrs))
  any_is b same = ap (list_any (λ (x : Attribute). nat_eq t x.0)) (lent_more attrs i a lt is) ∙ ap (λ c. c || list_any (λ (x : Attribute). nat_eq t x.0) (drop (i + 1) (all_lent attrs))) (nat_eq_equiv.symm t a.t.now ∙ same)

-- ---- the blocks

-- what was put behind others, of what is to come there
pub put_more : {X : Type 0} (out longer xs more rest total : List X) → longer ≡ out ++ xs → rest ≡ xs ++ more → out ++ rest ≡ total → longer ++ more ≡ total
put_more {X} out longer xs more rest total is parts so_far = ap (λ (bs : List X). bs ++ more) is ∙ append_assoc out xs more ∙ ap (λ (bs : List X). out ++ bs) (sym parts) ∙ so_far

pub one_more : (f : Attribute → Block) (attrs : List UserAttribute) (i : ℕ) (a : UserAttribute) (out longer total : List Block) → i < length attrs → a ≡ get_or attrs i a → longer ≡ out ++ f (lent a) ∷ []
    → out ++ map f (drop i (all_lent attrs)) ≡ total → longer ++ map f (drop (i + 1) (all_lent attrs)) ≡ total
one_more f attrs i a out longer total lt is put so_far =
    put_more out longer (f (lent a) ∷ []) (map f (drop (i + 1) (all_lent attrs))) (map f (drop i (all_lent attrs))) total put
    (ap (λ (xs : Attributes). map f xs) (lent_more attrs i a lt is)) so_far

pub none_more : (f : Attribute → Block) (attrs : List UserAttribute) (i : ℕ) (out total : List Block) → length attrs ≤ i → out ++ map f (drop i (all_lent attrs)) ≡ total → out ≡ total
none_more f attrs i out total le so_far = sym (append-nil out) ∙ ap (λ (xs : Attributes). out ++ map f xs) (sym (lent_none attrs i le)) ∙ so_far

module _ (types : List AttributeType) where
  -- ---- the walk

  stops : (before after : Attributes) → goes_on before after ≡ false → blocks_between types before after ≡ map deleting before ++ map adding after
  unfolding blocks_between
  stops [] after h = refl
  stops (a ∷ more) [] h = sym (append-nil (map deleting (a ∷ more)))
  stops (a ∷ more) (b ∷ bs) h =
      let k = or_parts (nat_eq b.0 a.0) (list_any (λ x. nat_eq b.0 x.0) more) h in
      ap (λ c. cond c (blocks_at types a.0 a.1 b.1 ++ blocks_between types more bs) (cond (list_any (λ x. nat_eq b.0 x.0) more) (deleting a ∷ blocks_between types more (b ∷ bs)) (map deleting (a ∷ more) ++ map adding (b ∷ bs)))) (nat_eq_equiv.symm a.0 b.0 ∙ k.0)
      ∙ ap (λ c. cond c (deleting a ∷ blocks_between types more (b ∷ bs)) (map deleting (a ∷ more) ++ map adding (b ∷ bs))) k.1

  steps : (a : Attribute) (more : Attributes) (b : Attribute) (bs : Attributes) → goes_on (a ∷ more) (b ∷ bs) ≡ true
      → blocks_between types (a ∷ more) (b ∷ bs) ≡ first_blocks types a b ++ blocks_between types more (cond (nat_eq a.0 b.0) bs (b ∷ bs))
  unfolding blocks_between
  steps a more b bs h = by (nat_eq a.0 b.0) refl (list_any (λ x. nat_eq b.0 x.0) more) refl
    where
      by : (c : Bool) → nat_eq a.0 b.0 ≡ c → (d : Bool) → list_any (λ x. nat_eq b.0 x.0) more ≡ d
          → cond c (blocks_at types a.0 a.1 b.1 ++ blocks_between types more bs) (cond d (deleting a ∷ blocks_between types more (b ∷ bs)) (map deleting (a ∷ more) ++ map adding (b ∷ bs)))
          ≡ cond c (blocks_at types a.0 a.1 b.1) (deleting a ∷ []) ++ blocks_between types more (cond c bs (b ∷ bs))
      by true e d f = refl
      by false e true f = refl
      by false e false f = absurd (let k = sym h ∙ ap (λ c. c || list_any (λ x. nat_eq b.0 x.0) more) (nat_eq_equiv.symm b.0 a.0 ∙ e) ∙ f in cc)

  next_of : (after : List UserAttribute) (j : ℕ) (b : UserAttribute) (c : Bool) (n : ℕ) → drop j (all_lent after) ≡ lent b ∷ drop (j + 1) (all_lent after) → n ≡ cond c 1 0 → cond c (drop (j + 1) (all_lent after)) (lent b ∷ drop (j + 1) (all_lent after)) ≡ drop (j + n) (all_lent after)
  next_of after j b true n more is = ap (λ k. drop (j + k) (all_lent after)) (sym is)
  next_of after j b false n more is = sym more ∙ (let e : j ≡ j + n = omega (arith, is) in ap (λ k. drop k (all_lent after)) e)

  module _ (before after : List UserAttribute) (i j : ℕ) (out total : List Block) (so_far : out ++ blocks_between types (drop i (all_lent before)) (drop j (all_lent after)) ≡ total) where
    pub steps_on : (a b : UserAttribute) (n : ℕ) (longer : List Block) → i < length before → a ≡ get_or before i a → j < length after → b ≡ get_or after j b → true ≡ goes_on (drop i (all_lent before)) (drop j (all_lent after))
        → n ≡ cond (nat_eq a.t.now b.t.now) 1 0 → longer ≡ out ++ first_blocks types (lent a) (lent b)
        → longer ++ blocks_between types (drop (i + 1) (all_lent before)) (drop (j + n) (all_lent after)) ≡ total
    steps_on a b n longer lt is lt' is' goes count put =
        let first = lent_more before i a lt is in
        let second = lent_more after j b lt' is' in
        let left : Attributes = drop (i + 1) (all_lent before) in
        let right : Attributes = drop (j + 1) (all_lent after) in
        let both : goes_on (lent a ∷ left) (lent b ∷ right) ≡ true = (λ k. goes_on (sym first k) (sym second k)) ∙ sym goes in
        let whole : blocks_between types (drop i (all_lent before)) (drop j (all_lent after)) ≡ first_blocks types (lent a) (lent b) ++ blocks_between types left (drop (j + n) (all_lent after)) =
        (λ k. blocks_between types (first k) (second k)) ∙ steps (lent a) left (lent b) right both
        ∙ ap (λ (xs : Attributes). first_blocks types (lent a) (lent b) ++ blocks_between types left xs) (next_of after j b (nat_eq a.t.now b.t.now) n second count) in
        put_more out longer (first_blocks types (lent a) (lent b)) (blocks_between types left (drop (j + n) (all_lent after))) (blocks_between types (drop i (all_lent before)) (drop j (all_lent after))) total put whole so_far

    pub stops_here : (mid last : List Block) → false ≡ goes_on (drop i (all_lent before)) (drop j (all_lent after)) → mid ≡ out ++ map deleting (drop i (all_lent before))
        → last ≡ mid ++ map adding (drop j (all_lent after)) → last ≡ total
    stops_here mid last goes put more =
        more
        ∙ put_more out mid (map deleting (drop i (all_lent before))) (map adding (drop j (all_lent after))) (blocks_between types (drop i (all_lent before)) (drop j (all_lent after))) total put
        (stops (drop i (all_lent before)) (drop j (all_lent after)) (sym goes)) so_far

    pub ends : (last : List Block) → length before ≤ i → last ≡ out ++ map adding (drop j (all_lent after)) → last ≡ total
    unfolding blocks_between
    ends last le put = put ∙ ap (λ (xs : Attributes). out ++ blocks_between types xs (drop j (all_lent after))) (sym (lent_none before i le)) ∙ so_far

pub on_ok : {A E : Type 0} (r : Result A E) (P Q : Type 0) → (P → Q) → OnOk r P → OnOk r Q
on_ok (Ok x) P Q f h = f h
on_ok (Err e) P Q f h = tt

pub one_at_most : (j len n : ℕ) (c : Bool) → j < len → n ≡ cond c 1 0 → j + n ≤ len
one_at_most j len n true lt is = omega (arith, lt, is)
one_at_most j len n false lt is = omega (arith, lt, is)

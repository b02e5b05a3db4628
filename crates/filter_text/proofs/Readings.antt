-- No text has two readings.
use Rattle.std.proofs.Common.{◌≡◌, ℕ, ◌==◌, List, [], ◌∷◌, ◌++◌, refl, sym, ap, subst, ◌∙◌, append_assoc, false, inl, inr}
use Rattle.std.proofs.lemmas.List.{append-nil}
use Rattle.filter_text.specs.declared.items.Item.{Item}
use Rattle.filter_text.specs.Items.{IsItem}
use Rattle.base.specs.Ends.{is_space}
use Rattle.filter_text.specs.Runs.{Run, Stops, Closed, is_plain, is_item_first}
use Rattle.filter_text.specs.Spells.{FilterContent, FilterContents, All_of, Any_of, Not_of, Leaf, No_more, And_then, IsFilterComp, IsFilterList, IsFilter, IsSpacedList, FilterText}
use Rattle.filter_text.proofs.Runs.{head_eq, tail_eq, same_span, closed_space, closed_plain, both_ways}
use Rattle.filter_text.proofs.ItemTexts.{item_plain, item_first, one_item}
use Rattle.filter_text.proofs.Texts.{comp_and, comp_or, comp_not, comp_item, comp_first, list_stops, list_goes_on, differs, spells_stops, Not_first}

-- what is equal behind spaces that stop
pub spaces_off : (s t x y : List ℕ) → Run is_space s → Run is_space t → Stops is_space x → Stops is_space y → s ++ x ≡ t ++ y → x ≡ y
spaces_off s t x y r q u v e = (same_span is_space s t x y r q u v e).1

item_not_first : (byte : ℕ) (s : Item) (a x : List ℕ) → is_item_first byte ≡ false → IsItem s a → Not_first byte (a ++ x)
item_not_first byte s a x other h =
    let first = item_first s a h in
    subst (λ (xs : List ℕ). Not_first byte (xs ++ x)) (sym first.2) (differs byte first.0 other first.3)

list_cut : (fs gs : FilterContents) (s t x y : List ℕ) → (h : IsSpacedList fs s) → (k : IsSpacedList gs t) → Closed x → Closed y → s ++ x ≡ t ++ y → h.1 ++ x ≡ k.1 ++ y
list_cut fs gs s t x y h k cx cy e =
    spaces_off h.0 k.0 (h.1 ++ x) (k.1 ++ y) h.3 k.3 (list_stops fs h.1 x h.4 cx) (list_stops gs k.1 y k.4 cy)
    (sym (ap (λ xs. xs ++ x) h.2 ∙ append_assoc h.0 h.1 x) ∙ e ∙ ap (λ xs. xs ++ y) k.2 ∙ append_assoc k.0 k.1 y)

unwrap : (i j a b x y : List ℕ) → a ≡ 40 ∷ (i ++ 41 ∷ []) → b ≡ 40 ∷ (j ++ 41 ∷ []) → a ++ x ≡ b ++ y → i ++ (41 ∷ x) ≡ j ++ (41 ∷ y)
unwrap i j a b x y ea eb e = sym (append_assoc i (41 ∷ []) x) ∙ tail_eq (sym (ap (λ xs. xs ++ x) ea) ∙ e ∙ ap (λ xs. xs ++ y) eb) ∙ append_assoc j (41 ∷ []) y

none_is_none : {f : FilterContent} {fs : FilterContents} → No_more ≡ And_then f fs → ⊥
none_is_none e = cc

mutual
  pub one_comp : (f g : FilterContent) (a b x y : List ℕ) → IsFilterComp f a → IsFilterComp g b → Closed x → Closed y → a ++ x ≡ b ++ y → (f ≡ g) × (x ≡ y)
  one_comp (All_of fs) g a b x y h k cx cy e =
      let p = comp_and g b y (h.0 ++ x) k (sym (ap (λ xs. xs ++ x) h.1) ∙ e) in
      let l = one_list fs p.0 h.2.1 p.3.1 x y h.2.4 p.3.4 cx cy (list_cut fs p.0 h.0 p.1 x y h.2 p.3 cx cy p.4) in
      (ap All_of l.0 ∙ sym p.2, l.1)
  one_comp (Any_of fs) g a b x y h k cx cy e =
      let p = comp_or g b y (h.0 ++ x) k (sym (ap (λ xs. xs ++ x) h.1) ∙ e) in
      let l = one_list fs p.0 h.2.1 p.3.1 x y h.2.4 p.3.4 cx cy (list_cut fs p.0 h.0 p.1 x y h.2 p.3 cx cy p.4) in
      (ap Any_of l.0 ∙ sym p.2, l.1)
  one_comp (Not_of f) g a b x y h k cx cy e =
      let p = comp_not g b y ((h.0 ++ (h.1 ++ h.2)) ++ x) k (sym (ap (λ xs. xs ++ x) h.3) ∙ e) in
      let q = spaces_off h.0 p.1 (h.1 ++ (h.2 ++ x)) (p.2 ++ (p.3 ++ y)) h.4 p.5 (spells_stops f h.1 (h.2 ++ x) h.5) (spells_stops p.0 p.2 (p.3 ++ y) p.6)
      (sym (append_assoc h.0 (h.1 ++ h.2) x ∙ ap (λ xs. h.0 ++ xs) (append_assoc h.1 h.2 x)) ∙ p.8) in
      let r = one_comp f p.0 h.5.0 p.6.0 (41 ∷ (h.2 ++ x)) (41 ∷ (p.3 ++ y)) h.5.2 p.6.2 refl refl (unwrap h.5.0 p.6.0 h.1 p.2 (h.2 ++ x) (p.3 ++ y) h.5.1 p.6.1 q) in
      (ap Not_of r.0 ∙ sym p.4, spaces_off h.2 p.3 x y h.6 p.7 (closed_space x cx) (closed_space y cy) (tail_eq r.1))
  one_comp (Leaf s) g a b x y h k cx cy e =
      let p = comp_item g (a ++ x) b y (item_not_first 38 s a x refl h) (item_not_first 124 s a x refl h) (item_not_first 33 s a x refl h) k e in
      let both = same_span is_plain a b x y (item_plain s a h) (item_plain p.0 b p.2) (closed_plain x cx) (closed_plain y cy) e in
      (ap Leaf (one_item s p.0 a h (subst (λ (xs : List ℕ). IsItem p.0 xs) (sym both.0) p.2)) ∙ sym p.1, both.1)

  pub one_list : (fs gs : FilterContents) (s t x y : List ℕ) → IsFilterList fs s → IsFilterList gs t → Closed x → Closed y → s ++ x ≡ t ++ y → (fs ≡ gs) × (x ≡ y)
  one_list No_more No_more s t x y h k cx cy e = (refl, sym (ap (λ xs. xs ++ x) h) ∙ e ∙ ap (λ xs. xs ++ y) k)
  one_list No_more (And_then g gs) s t x y h k cx cy e =
      absurd (none_is_none (list_goes_on No_more (t ++ y) (((k.3.0 ++ 41 ∷ []) ++ k.1) ++ y) s x h cx (ap (λ xs. xs ++ y) (k.2 ∙ ap (λ xs. xs ++ k.1) k.3.1)) (sym e)).4)
  one_list (And_then f fs) No_more s t x y h k cx cy e =
      absurd (none_is_none (list_goes_on No_more (s ++ x) (((h.3.0 ++ 41 ∷ []) ++ h.1) ++ x) t y k cy (ap (λ xs. xs ++ x) (h.2 ∙ ap (λ xs. xs ++ h.1) h.3.1)) e).4)
  one_list (And_then f fs) (And_then g gs) s t x y h k cx cy e =
      let r = one_comp f g h.3.0 k.3.0 (41 ∷ (h.1 ++ x)) (41 ∷ (k.1 ++ y)) h.3.2 k.3.2 refl refl
      (unwrap h.3.0 k.3.0 h.0 k.0 (h.1 ++ x) (k.1 ++ y) h.3.1 k.3.1
      (sym (ap (λ xs. xs ++ x) h.2 ∙ append_assoc h.0 h.1 x) ∙ e ∙ ap (λ xs. xs ++ y) k.2 ∙ append_assoc k.0 k.1 y)) in
      let l = one_list fs gs h.4.1 k.4.1 x y h.4.4 k.4.4 cx cy (list_cut fs gs h.1 k.1 x y h.4 k.4 cx cy (tail_eq r.1)) in
      (ap (λ z. And_then z fs) r.0 ∙ ap (And_then g) l.0, l.1)

pub comp_stops : (f : FilterContent) (a : List ℕ) → IsFilterComp f a → Stops is_space a
comp_stops f a h = let first = comp_first f a h in subst (Stops is_space) (sym first.2) first.3

-- a text in parentheses is none without
pub wrapped_is_not : (f g : FilterContent) (s a z t b : List ℕ) → Run is_space s → IsFilter f a → Run is_space t → IsFilterComp g b → s ++ (a ++ z) ≡ t ++ b → ⊥
wrapped_is_not f g s a z t b r h q k e =
    let same = spaces_off s t (a ++ z) b r q (spells_stops f a z h) (comp_stops g b k) e in
    let first = comp_first g b k in
    both_ways refl (subst (λ (n : ℕ). (n == 40) ≡ false) (head_eq (sym first.2 ∙ sym same ∙ ap (λ xs. xs ++ z) h.1)) first.4)

pub one_text : (f g : FilterContent) (text : List ℕ) → FilterText f text → FilterText g text → f ≡ g
one_text f g text (inl h) (inl k) =
    let q = spaces_off h.0 k.0 (h.1 ++ h.2) (k.1 ++ k.2) h.4 k.4 (spells_stops f h.1 h.2 h.5) (spells_stops g k.1 k.2 k.5) (sym h.3 ∙ k.3) in
    (one_comp f g h.5.0 k.5.0 (41 ∷ h.2) (41 ∷ k.2) h.5.2 k.5.2 refl refl (unwrap h.5.0 k.5.0 h.1 k.1 h.2 k.2 h.5.1 k.5.1 q)).0
one_text f g text (inl h) (inr k) = absurd (wrapped_is_not f g h.0 h.1 h.2 k.0 k.1 h.4 h.5 k.3 k.4 (sym h.3 ∙ k.2))
one_text f g text (inr h) (inl k) = absurd (wrapped_is_not g f k.0 k.1 k.2 h.0 h.1 k.4 k.5 h.3 h.4 (sym k.3 ∙ h.2))
one_text f g text (inr h) (inr k) =
    let q = spaces_off h.0 k.0 h.1 k.1 h.3 k.3 (comp_stops f h.1 h.4) (comp_stops g k.1 k.4) (sym h.2 ∙ k.2) in
    (one_comp f g h.1 k.1 [] [] h.4 k.4 tt tt (append-nil h.1 ∙ q ∙ sym (append-nil k.1))).0

-- A search among keys in order.
use Rattle.std.proofs.Common.{◌≡◌, ◌≢◌, ℕ, zero, suc, ◌<◌, ◌≤◌, Bool, true, false, cond, List, [], ◌∷◌, length, get_or, Option, Some, None, unwrap_or, inl, inr, refl, sym, ap, ◌∙◌, arith}
use Rattle.std.proofs.lemmas.Bool.{cases_lt, false_from_ne_true}
use Rattle.std.proofs.lemmas.Cmp.{nat_list_cmp_total}
use Rattle.std.proofs.lemmas.Map.Keys.{Less-from_sorted}
use Rattle.std.proofs.lemmas.Map.Text.{is_eq-slice_cmp}
use Rattle.std.proofs.lemmas.Slice.Eq.{bytes_eq-Decides}
use Rattle.std.specs.declared.cmp.Ordering.{Ordering}
use Rattle.std.specs.declared.cmp.Ordering.TheVariants.{Less, Equal, Greater}
use Rattle.std.specs.Cmp.{tied_itself}
use Rattle.std.specs.Cmp.Lexicographic.{slice_cmp}
use Rattle.std.specs.FinSet as set
use Rattle.std.specs.List.Sorted.{IsStrictlySortedBy, IsNonDecreasingBy}
use Rattle.std.specs.Map.{keys_of, lookup}
use Rattle.std.specs.Ordering.{nat_cmp, is_eq, ordering_reverse, ordering_index}
use Rattle.std.specs.Str.{bytes_eq}
use Rattle.index_text.specs.KeySets.{Row, members_at}
use Rattle.stored_index.specs.inner.Sorted.{AreFull}

abbrev key_cmp : List ℕ → List ℕ → Ordering
key_cmp = slice_cmp nat_cmp

abbrev pub AreInOrder : List Row → Type 0
AreInOrder rows = IsStrictlySortedBy (slice_cmp nat_cmp) (keys_of rows)

abbrev pub key_at : List Row → ℕ → Row → List ℕ
key_at rows k d = (get_or rows k d).0

keys_at : (rows : List Row) (k : ℕ) (d : Row) → get_or (keys_of rows) k d.0 ≡ key_at rows k d
keys_at [] k d = refl
keys_at (row ∷ rows) zero d = refl
keys_at (row ∷ rows) (suc k) d = keys_at rows k d

length_keys : (rows : List Row) → length (keys_of rows) ≡ length rows
length_keys [] = refl
length_keys (row ∷ rows) = ap suc (length_keys rows)

module _ (rows : List Row) (d : Row) (order : AreInOrder rows) where
  in_order : (i j : ℕ) → i < j → j < length rows → key_cmp (key_at rows i d) (key_at rows j d) ≡ Less
  in_order i j lt within =
      (λ t. key_cmp (sym (keys_at rows i d) t) (sym (keys_at rows j d) t))
      ∙ Less-from_sorted key_cmp (keys_of rows) i j d.0 order lt (omega (arith, length_keys rows))

  module _ (key : List ℕ) where
    -- what stands before a lesser key is less
    pub less_before : (k m : ℕ) → k ≤ m → m < length rows → key_cmp (key_at rows m d) key ≡ Less → key_cmp (key_at rows k d) key ≡ Less
    less_before k m le within less =
        elim (cases_lt k m) [
          | inl below ↦ nat_list_cmp_total.trans (key_at rows k d) (key_at rows m d) key (in_order k m below within) less
          | inr top ↦
              let e : k ≡ m = omega arith in
              ap (λ (n : ℕ). key_cmp (key_at rows n d) key) e ∙ less
        ]

    turned : (x y : List ℕ) (o : Ordering) → key_cmp x y ≡ o → key_cmp y x ≡ ordering_reverse o
    turned x y o e = nat_list_cmp_total.antisymm y x ∙ ap ordering_reverse e

    -- what stands behind a greater key is greater
    pub greater_behind : (k m : ℕ) → m ≤ k → k < length rows → key_cmp (key_at rows m d) key ≡ Greater → key_cmp (key_at rows k d) key ≡ Greater
    greater_behind k m le within greater =
        elim (cases_lt m k) [
          | inl below ↦
              turned key (key_at rows k d) Less (nat_list_cmp_total.trans key (key_at rows m d) (key_at rows k d) (turned (key_at rows m d) key Greater greater) (in_order m k below within))
          | inr top ↦
              let e : k ≡ m = omega arith in
              ap (λ (n : ℕ). key_cmp (key_at rows n d) key) e ∙ greater
        ]

pub same_from_tie : (x y : List ℕ) → key_cmp x y ≡ Equal → x ≡ y
same_from_tie x y e = (bytes_eq-Decides x y).0 (sym (is_eq-slice_cmp x y) ∙ ap is_eq e)

itself : (x : List ℕ) → bytes_eq x x ≡ true
itself x = sym (is_eq-slice_cmp x x) ∙ ap is_eq (tied_itself nat_list_cmp_total x)

not_found : (rows : List Row) (d : Row) (key : List ℕ) → ((k : ℕ) → k < length rows → key_cmp (key_at rows k d) key ≡ Equal → ⊥) → lookup (bytes_eq key) rows ≡ None
not_found [] d key none = refl
not_found (row ∷ rows) d key none =
    let here : bytes_eq key row.0 ≡ false = false_from_ne_true (bytes_eq key row.0) (λ e. none 0 (omega arith) (ap (λ (k : List ℕ). key_cmp k key) (sym ((bytes_eq-Decides key row.0).0 e)) ∙ tied_itself nat_list_cmp_total key)) in
    ap (λ (b : Bool). cond b (Some row.1) (lookup (bytes_eq key) rows)) here
    ∙ not_found rows d key (λ k lt. none (suc k) (omega arith))

abbrev members_of : Option (set.FinSet nat_cmp) → set.FinSet nat_cmp
members_of o = unwrap_or o set.empty

pub no_members : (rows : List Row) (d : Row) (key : List ℕ) → ((k : ℕ) → k < length rows → key_cmp (key_at rows k d) key ≡ Equal → ⊥) → members_at rows key ≡ set.empty
no_members rows d key none = ap members_of (not_found rows d key none)

-- the ranks of a key
pub full_at : (rows : List Row) (d : Row) (m : ℕ) → AreFull rows → m < length rows → (get_or rows m d).1 ≢ set.empty
full_at [] d m full lt = absurd (omega arith)
full_at (row ∷ rows) d zero full lt = full.0
full_at (row ∷ rows) d (suc m) full lt = full_at rows d m full.1 (omega arith)

tail_order : (row : Row) (rows : List Row) → AreInOrder (row ∷ rows) → AreInOrder rows
unfolding IsStrictlySortedBy
tail_order row rows order = order.1

found_at : (rows : List Row) (d : Row) (key : List ℕ) (m : ℕ) → AreInOrder rows → m < length rows → key_at rows m d ≡ key → lookup (bytes_eq key) rows ≡ Some (get_or rows m d).1
found_at [] d key m order lt e = absurd (omega arith)
found_at (row ∷ rows) d key zero order lt e = ap (λ (b : Bool). cond b (Some row.1) (lookup (bytes_eq key) rows)) (ap (bytes_eq key) e ∙ itself key)
found_at (row ∷ rows) d key (suc m) order lt e =
    let less : key_cmp row.0 key ≡ Less = ap (key_cmp row.0) (sym e) ∙ in_order (row ∷ rows) d order 0 (suc m) (omega arith) lt in
    let other : bytes_eq key row.0 ≡ false = false_from_ne_true (bytes_eq key row.0) (λ t.
    let tie : Less ≡ Equal = sym less ∙ ap (λ (k : List ℕ). key_cmp k key) (sym ((bytes_eq-Decides key row.0).0 t)) ∙ tied_itself nat_list_cmp_total key in
    absurd cc) in
    ap (λ (b : Bool). cond b (Some row.1) (lookup (bytes_eq key) rows)) other
    ∙ found_at rows d key m (tail_order row rows order) (omega arith) e

pub the_members : (rows : List Row) (d : Row) (key : List ℕ) (m : ℕ) → AreInOrder rows → m < length rows → key_cmp (key_at rows m d) key ≡ Equal → (get_or rows m d).1 ≡ members_at rows key
the_members rows d key m order lt tie = sym (ap members_of (found_at rows d key m order lt (same_from_tie (key_at rows m d) key tie)))

-- how keys compare with the wanted one rises with their places
pub rises : (rows : List Row) (order : AreInOrder rows) (key : List ℕ) → IsNonDecreasingBy (λ (row : Row). ordering_index (key_cmp row.0 key)) rows
rises rows order key i j d le lt = by (key_cmp (key_at rows i d) key) (key_cmp (key_at rows j d) key) (less_before rows d order key i j le lt) (greater_behind rows d order key j i le lt)
  where
    by : (x y : Ordering) → (y ≡ Less → x ≡ Less) → (x ≡ Greater → y ≡ Greater) → ordering_index x ≤ ordering_index y
    by Less y less greater = omega arith
    by Equal Less less greater = absurd (let bad = less refl in cc)
    by Equal Equal less greater = omega arith
    by Equal Greater less greater = omega arith
    by Greater y less greater = let e = greater refl in rw e (omega arith)

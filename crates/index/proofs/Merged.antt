-- Rows of two kinds of keys, merged by their bytes.
use Rattle.std.proofs.Common.{◌≡◌, ◌≢◌, ℕ, Bool, true, false, cond, not, List, [], ◌∷◌, Option, Some, None, refl, sym, ap, ◌∙◌}
use Rattle.std.specs.Prelude.{unwrap_or}
use Rattle.std.specs.Borrow.{Bor}
use Rattle.std.specs.declared.cmp.Ordering.{Ordering}
use Rattle.std.specs.declared.cmp.Ordering.TheVariants.{Less, Equal, Greater}
use Rattle.std.specs.Ordering.{nat_cmp, is_lt, is_eq, ordering_reverse}
use Rattle.std.specs.Cmp.Lexicographic.{slice_cmp, nat_list_cmp_total, nat_list_eq_equiv}
use Rattle.std.specs.List.{AllByRecursion}
use Rattle.std.specs.List.Sorted.{IsStrictlySortedBy}
use Rattle.std.specs.Map.{keys_of}
use Rattle.std.specs.Map.Iter.{TakesFirst}
use Rattle.std.specs.Str.{bytes_eq}
use Rattle.std.specs.FinSet as set
use Rattle.std.proofs.lemmas.Map.Text.{is_eq-slice_cmp}
use Rattle.dense_sets.specs.declared.key_set.KeySet.{KeySet}
use Rattle.index_text.specs.KeySets.{Members, SetsByKey, Row, members_in, members_at}
use Rattle.index.specs.KeySets.{AreRowsOf}
use Rattle.index.specs.inner.JoinedSets.{joined, AreApart}
use Rattle.index.specs.inner.MergedRows.{is_before, put_among, merged, row_lent, ahead}
use Rattle.index.proofs.Keyed.{at}
use Rattle.index.proofs.Joined.{members_joined, differ}

-- what was taken, and what is left
pub taken : (rows : List Row) (r : Option (Bor (List ℕ) × Bor KeySet)) (left : List Row) → TakesFirst row_lent rows r left → rows ≡ ahead r left
taken rows None left h = h.0
taken rows (Some e) left h = h

-- ---- rows in order

abbrev pub key_cmp : List ℕ → List ℕ → Ordering
key_cmp = slice_cmp nat_cmp

abbrev pub AllBehind : List ℕ → List Row → Type 0
AllBehind k rows = AllByRecursion (λ row. key_cmp k row.0 ≡ Less) rows

abbrev pub Rises : List Row → Type 0
Rises [] = Unit {0}
Rises (row ∷ rows) = AllBehind row.0 rows × Rises rows

pub from_keys : (rows : List Row) → IsStrictlySortedBy key_cmp (keys_of rows) → Rises rows
unfolding IsStrictlySortedBy
from_keys [] h = tt
from_keys (row ∷ rows) h = (behind rows h.0, from_keys rows h.1)
  where
    behind : (rows : List Row) → AllByRecursion (λ k. key_cmp row.0 k ≡ Less) (keys_of rows) → AllBehind row.0 rows
    behind [] h = tt
    behind (r ∷ rs) h = (h.0, behind rs h.1)

pub to_keys : (rows : List Row) → Rises rows → IsStrictlySortedBy key_cmp (keys_of rows)
unfolding IsStrictlySortedBy
to_keys [] h = tt
to_keys (row ∷ rows) h = (behind rows h.0, to_keys rows h.1)
  where
    behind : (rows : List Row) → AllBehind row.0 rows → AllByRecursion (λ k. key_cmp row.0 k ≡ Less) (keys_of rows)
    behind [] h = tt
    behind (r ∷ rs) h = (h.0, behind rs h.1)

all_later : (a b : List ℕ) (rows : List Row) → key_cmp a b ≡ Less → AllBehind b rows → AllBehind a rows
all_later a b [] less h = tt
all_later a b (row ∷ rows) less h = (nat_list_cmp_total.trans a b row.0 less h.0, all_later a b rows less h.1)

module _ (test : List ℕ → Bool) where
  -- ---- merged rows

  abbrev AreFirst : List Row → Type 0
  AreFirst rows = AllByRecursion (λ row. test row.0 ≡ true) rows

  abbrev AreOthers : List Row → Type 0
  AreOthers rows = AllByRecursion (λ row. test row.0 ≡ false) rows

  all_put : (P : Row → Type 0) (w : Row) (merge : List Row → List Row) → P w → ((os : List Row) → AllByRecursion P os → AllByRecursion P (merge os)) → (os : List Row) → AllByRecursion P os → AllByRecursion P (put_among w merge os)
  all_put P w merge first rest [] h = (first, rest [] tt)
  all_put P w merge first rest (o ∷ os) h = by (is_before w o) (all_put P w merge first rest os h.1)
    where
      by : (b : Bool) → AllByRecursion P (put_among w merge os) → AllByRecursion P (cond b (w ∷ merge (o ∷ os)) (o ∷ put_among w merge os))
      by true later = (first, rest (o ∷ os) h)
      by false later = (h.0, later)

  all_merged : (P : Row → Type 0) (ws os : List Row) → AllByRecursion P ws → AllByRecursion P os → AllByRecursion P (merged ws os)
  all_merged P [] os hw ho = ho
  all_merged P (w ∷ ws) os hw ho = all_put P w (merged ws) hw.0 (λ zs. all_merged P ws zs hw.1) os ho

  -- where one of two keys passes and the other doesn't, one is below the other
  below : (a b : List ℕ) → test a ≡ true → test b ≡ false → (r : Ordering) → key_cmp a b ≡ r → is_lt r ≡ false → key_cmp b a ≡ Less
  below a b pass other Less is late = let bad : true ≡ false = late in cc
  below a b pass other Equal is late = let bad : true ≡ false = ap is_eq (sym is) ∙ is_eq-slice_cmp a b ∙ differ test a b true pass other in cc
  below a b pass other Greater is late = nat_list_cmp_total.antisymm b a ∙ ap ordering_reverse is

  rises_put : (w : Row) (ws os : List Row) → test w.0 ≡ true → AreOthers os → AllBehind w.0 ws → Rises os → ((zs : List Row) → AreOthers zs → Rises zs → Rises (merged ws zs)) → Rises (merged (w ∷ ws) os)
  rises_put w ws [] pass others behind rises rest = (all_merged (λ row. key_cmp w.0 row.0 ≡ Less) ws [] behind tt, rest [] tt tt)
  rises_put w ws (o ∷ os) pass others behind rises rest = by (key_cmp w.0 o.0) refl (rises_put w ws os pass others.1 behind rises.1 rest)
    where
      late : key_cmp o.0 w.0 ≡ Less → AllBehind o.0 (merged (w ∷ ws) os)
      late less = all_merged (λ row. key_cmp o.0 row.0 ≡ Less) (w ∷ ws) os (less, all_later o.0 w.0 ws less behind) rises.0

      by : (r : Ordering) → key_cmp w.0 o.0 ≡ r → Rises (merged (w ∷ ws) os) → Rises (cond (is_lt r) (w ∷ merged ws (o ∷ os)) (o ∷ merged (w ∷ ws) os))
      by Less is later = (all_merged (λ row. key_cmp w.0 row.0 ≡ Less) ws (o ∷ os) behind (is, all_later w.0 o.0 os is rises.0), rest (o ∷ os) others rises)
      by Equal is later = (late (below w.0 o.0 pass others.0 Equal is refl), later)
      by Greater is later = (late (below w.0 o.0 pass others.0 Greater is refl), later)

  rises_merged : (ws os : List Row) → AreFirst ws → AreOthers os → Rises ws → Rises os → Rises (merged ws os)
  rises_merged [] os passing others rw ro = ro
  rises_merged (w ∷ ws) os passing others rw ro = rises_put w ws os passing.0 others rw.0 ro (λ zs kind rz. rises_merged ws zs passing.1 kind rw.1 rz)

  -- ---- what is found among merged rows

  skipped : (q : List ℕ) (row : Row) (o : Option Members) → bytes_eq q row.0 ≡ false → cond (bytes_eq q row.0) (Some row.1) o ≡ o
  skipped q row o is = ap (λ b. cond b (Some row.1) o) is

  at_put : (q : List ℕ) (w : Row) (ws os : List Row) → test w.0 ≡ true → AreOthers os → (b : Bool) → test q ≡ b → ((zs : List Row) → AreOthers zs → at (merged ws zs) q ≡ cond b (at ws q) (at zs q)) → at (merged (w ∷ ws) os) q ≡ cond b (at (w ∷ ws) q) (at os q)
  at_put q w ws [] pass others b kind rest = ap (cond (bytes_eq q w.0) (Some w.1)) (rest [] tt) ∙ by b kind
    where
      by : (b : Bool) → test q ≡ b → cond (bytes_eq q w.0) (Some w.1) (cond b (at ws q) None) ≡ cond b (at (w ∷ ws) q) None
      by true kind = refl
      by false kind = skipped q w None (differ test q w.0 false kind pass)
  at_put q w ws (o ∷ os) pass others b kind rest = by (is_before w o) (at_put q w ws os pass others.1 b kind rest)
    where
      first : (b : Bool) → test q ≡ b → cond (bytes_eq q w.0) (Some w.1) (cond b (at ws q) (at (o ∷ os) q)) ≡ cond b (at (w ∷ ws) q) (at (o ∷ os) q)
      first true kind = refl
      first false kind = skipped q w (at (o ∷ os) q) (differ test q w.0 false kind pass)

      second : (b : Bool) → test q ≡ b → cond (bytes_eq q o.0) (Some o.1) (cond b (at (w ∷ ws) q) (at os q)) ≡ cond b (at (w ∷ ws) q) (at (o ∷ os) q)
      second true kind = skipped q o (at (w ∷ ws) q) (differ test q o.0 true kind others.0)
      second false kind = refl

      by : (before : Bool) → at (merged (w ∷ ws) os) q ≡ cond b (at (w ∷ ws) q) (at os q) → at (cond before (w ∷ merged ws (o ∷ os)) (o ∷ merged (w ∷ ws) os)) q ≡ cond b (at (w ∷ ws) q) (at (o ∷ os) q)
      by true later = ap (cond (bytes_eq q w.0) (Some w.1)) (rest (o ∷ os) others) ∙ first b kind
      by false later = ap (cond (bytes_eq q o.0) (Some o.1)) later ∙ second b kind

  none_other : (q : List ℕ) (os : List Row) → test q ≡ true → AreOthers os → at os q ≡ None
  none_other q [] pass others = refl
  none_other q (o ∷ os) pass others = skipped q o (at os q) (differ test q o.0 true pass others.0) ∙ none_other q os pass others.1

  at_merged : (q : List ℕ) (ws os : List Row) → AreFirst ws → AreOthers os → (b : Bool) → test q ≡ b → at (merged ws os) q ≡ cond b (at ws q) (at os q)
  at_merged q [] os passing others true kind = none_other q os kind others
  at_merged q [] os passing others false kind = refl
  at_merged q (w ∷ ws) os passing others b kind = at_put q w ws os passing.0 others b kind (λ zs kinds. at_merged q ws zs passing.1 kinds b kind)

  -- ---- rows of the two kinds

  -- each row is what is found under its key
  pub found_each : (rows : List Row) → Rises rows → AllByRecursion (λ row. at rows row.0 ≡ Some row.1) rows
  found_each [] h = tt
  found_each (row ∷ rows) h = (ap (λ b. cond b (Some row.1) (at rows row.0)) (nat_list_eq_equiv.refl row.0), later rows h.0 (found_each rows h.1))
    where
      not_first : (k : List ℕ) → key_cmp row.0 k ≡ Less → bytes_eq k row.0 ≡ false
      not_first k less = nat_list_eq_equiv.symm k row.0 ∙ sym (is_eq-slice_cmp row.0 k) ∙ ap is_eq less

      later : (rs : List Row) → AllBehind row.0 rs → AllByRecursion (λ r. at rows r.0 ≡ Some r.1) rs → AllByRecursion (λ r. at (row ∷ rows) r.0 ≡ Some r.1) rs
      later [] behind found = tt
      later (r ∷ rs) behind found = (skipped r.0 row (at rows r.0) (not_first r.0 behind.0) ∙ found.0, later rs behind.1 found.1)

  -- rows whose keys are all of one kind, since the members of any other key are none
  kinds : (kind : Bool) (sets : SetsByKey) (all rows : List Row) → ((key : List ℕ) → members_at all key ≡ members_in sets key) → ((key : List ℕ) → test key ≡ not kind → members_in sets key ≡ set.empty)
      → AllByRecursion (λ row. row.1 ≢ set.empty) rows → AllByRecursion (λ row. at all row.0 ≡ Some row.1) rows → AllByRecursion (λ row. test row.0 ≡ kind) rows
  kinds kind sets all [] exact alone full found = tt
  kinds kind sets all (row ∷ rows) exact alone full found = (by kind (test row.0) refl never, kinds kind sets all rows exact alone full.1 found.1)
    where
      never : test row.0 ≡ not kind → ⊥
      never other = full.0 (sym (ap (λ o. unwrap_or o set.empty) found.0) ∙ exact row.0 ∙ alone row.0 other)

      by : (k b : Bool) → test row.0 ≡ b → (test row.0 ≡ not k → ⊥) → test row.0 ≡ k
      by true true is bad = is
      by true false is bad = absurd (bad is)
      by false true is bad = absurd (bad is)
      by false false is bad = is

  pub rows_joined : (first others s : SetsByKey) (ws os : List Row) → joined test first others ≡ s → AreApart test first others → AreRowsOf first ws → AreRowsOf others os → AreRowsOf s (merged ws os)
  rows_joined first others s ws os is apart rw ro = record {
    rise = to_keys (merged ws os) (rises_merged ws os passing other (from_keys ws rw.rise) (from_keys os ro.rise));
    full = all_merged (λ row. row.1 ≢ set.empty) ws os rw.full ro.full;
    exact = λ key.
        ap (λ o. unwrap_or o set.empty) (at_merged key ws os passing other (test key) refl)
        ∙ by (test key) key
        ∙ (λ i. cond (test key) (rw.exact key i) (ro.exact key i))
        ∙ sym (members_joined test first others key)
        ∙ ap (λ (m : SetsByKey). members_in m key) is;
  }
    where
      passing : AreFirst ws
      passing = kinds true first ws ws rw.exact apart.first_alone rw.full (found_each ws (from_keys ws rw.rise))

      other : AreOthers os
      other = kinds false others os os ro.exact apart.others_alone ro.full (found_each os (from_keys os ro.rise))

      by : (b : Bool) (key : List ℕ) → unwrap_or (cond b (at ws key) (at os key)) set.empty ≡ cond b (members_at ws key) (members_at os key)
      by true key = refl
      by false key = refl

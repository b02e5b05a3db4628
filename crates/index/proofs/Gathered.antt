-- Buckets of keys as one map.
use Rattle.std.proofs.Common.{◌≡◌, ◌≢◌, ℕ, zero, suc, ◌+◌, ◌-◌, ◌<◌, ◌≤◌, get_or, set as put, length, nat_lt, Bool, true, false, cond, ◌&&◌, T, List, [], ◌∷◌, ◌++◌, Result, Ok, Err, Option, Some, None, refl, sym, ap, subst, ◌∙◌, arith, ⊎_elim}
use Rattle.std.specs.Prelude.{unwrap_or, MatchOption, min}
use Rattle.std.specs.Borrow.{Bor}
use Rattle.std.specs.declared.cmp.Ordering.{Ordering}
use Rattle.std.specs.declared.cmp.Ordering.TheVariants.{Less, Equal, Greater}
use Rattle.std.specs.Ordering.{nat_cmp, is_lt, ordering_then}
use Rattle.std.specs.Cmp.{nat_cmp_is, ranked}
use Rattle.std.specs.Cmp.Lexicographic.{slice_cmp, nat_list_cmp_total}
use Rattle.std.specs.List.{AllByRecursion}
use Rattle.std.specs.List.Sorted.{IsStrictlySortedBy}
use Rattle.std.specs.Map.{keys_of}
use Rattle.std.specs.Str.{bytes_eq}
use Rattle.std.specs.FinMap as finite
use Rattle.std.specs.FinMap.Entries.{is_sorted, below_all, same_entries}
use Rattle.std.specs.FinSet as set
use Rattle.std.proofs.lemmas.Bool.{cases_eq, ltb-false}
use Rattle.std.proofs.lemmas.Bool.Decides.{nat_tests}
use Rattle.std.proofs.lemmas.List.{get_or-set_same, get_or-set_other, get_or_past, get_or_default}
use Rattle.std.proofs.lemmas.Result.{on_ok_weaker, on_err_weaker}
use Rattle.dense_sets.specs.declared.key_set.KeySet.{KeySet}
use Rattle.index_text.specs.KeySets.{Members, SetsByKey, Row, members_in}
use Rattle.index.specs.KeySets.{AreRowsOf, Puts, Takes}
use Rattle.index.specs.inner.Buckets.{side, bucket_of, IsFull, IsBucket, AreBuckets, members_within, all_rows, gathered}
use Rattle.index_text.proofs.SlotKeyOrder.{same_bytes}
use Rattle.index.proofs.Keyed.{at, find_is, none_in, remove_none}
use Rattle.index.proofs.Joined.{either, at-append, at_entries, shown}
use Rattle.index.proofs.Merged.{key_cmp, AllBehind, Rises, found_each, from_keys, to_keys}

-- ---- one bucket after the other

abbrev IsFrom : ℕ → List SetsByKey → Type 0
IsFrom first bs = (i place : ℕ) → place ≡ first + i → IsBucket place (get_or bs i finite.empty)

from_none : (bs : List SetsByKey) → AreBuckets bs → IsFrom 0 bs
from_none bs are i place e = subst (λ n. IsBucket place (get_or bs n finite.empty)) (same e) (are.each place)
  where
    same : place ≡ 0 + i → place ≡ i
    same e = omega (arith, e)

behind : (first : ℕ) (b : SetsByKey) (bs : List SetsByKey) → IsFrom first (b ∷ bs) → IsFrom (suc first) bs
behind first b bs all i place e = all (suc i) place (omega (arith, e))

head : (first : ℕ) (b : SetsByKey) (bs : List SetsByKey) → IsFrom first (b ∷ bs) → IsBucket first b
head first b bs all = all 0 first (omega arith)

-- a key of another bucket isn't there
not_there : (place : ℕ) (b : SetsByKey) (q : List ℕ) → IsBucket place b → bucket_of q ≢ place → finite.get b q ≡ None
not_there place b q is other = by (finite.get b q) refl (is.own q other)
  where
    by : (o : Option Members) → finite.get b q ≡ o → unwrap_or (finite.get b q) set.empty ≡ set.empty → finite.get b q ≡ None
    by None e none = e
    by (Some w) e none = absurd (is.full.full q (e ∙ ap (λ (x : Members). Some x) (sym (ap (λ o. unwrap_or o set.empty) e) ∙ none)))

none_behind : (first : ℕ) (bs : List SetsByKey) (q : List ℕ) → IsFrom first bs → bucket_of q < first → at (all_rows bs) q ≡ None
none_behind first [] q all less = refl
none_behind first (b ∷ bs) q all less =
    at-append (finite.entries b) (all_rows bs) q
    ∙ (λ i. either (here i) (none_behind (suc first) bs q (behind first b bs all) (omega (arith, less)) i))
  where
    here : at (finite.entries b) q ≡ None
    here = at_entries b q ∙ not_there first b q (head first b bs all) (λ e. omega (arith, less, e))

either_none : (o : Option Members) → either o None ≡ o
either_none None = refl
either_none (Some s) = refl

at_all : (first : ℕ) (bs : List SetsByKey) (q : List ℕ) (j : ℕ) → IsFrom first bs → bucket_of q ≡ first + j → at (all_rows bs) q ≡ finite.get (get_or bs j finite.empty) q
at_all first [] q j all e = sym (finite.get-empty (slice_cmp nat_cmp) q)
at_all first (b ∷ bs) q zero all e =
    at-append (finite.entries b) (all_rows bs) q
    ∙ (λ i. either (at_entries b q i) (none_behind (suc first) bs q (behind first b bs all) (omega (arith, e)) i))
    ∙ either_none (finite.get b q)
at_all first (b ∷ bs) q (suc j) all e =
    at-append (finite.entries b) (all_rows bs) q
    ∙ ap (λ o. either o (at (all_rows bs) q)) (at_entries b q ∙ not_there first b q (head first b bs all) (λ same. omega (arith, e, same)))
    ∙ at_all (suc first) bs q j (behind first b bs all) (omega (arith, e))

-- the members of a key are those in its bucket
pub gathered_is : (bs : List SetsByKey) (s : SetsByKey) → gathered bs ≡ s → AreBuckets bs → (q : List ℕ) → members_in s q ≡ members_within bs q
gathered_is bs s is are q =
    ap (λ (m : SetsByKey). members_in m q) (sym is)
    ∙ ap (λ o. unwrap_or o set.empty) (finite.get-from_entries nat_list_cmp_total (all_rows bs) q ∙ find_is (all_rows bs) q ∙ at_all 0 bs q (bucket_of q) (from_none bs are) (omega arith))

-- ---- one bucket changes

differ : (key q : List ℕ) → bucket_of q ≢ bucket_of key → bytes_eq key q ≡ false
differ key q other = by (bytes_eq key q) refl
  where
    by : (b : Bool) → bytes_eq key q ≡ b → b ≡ false
    by false e = refl
    by true e = absurd (other (sym (ap bucket_of (same_bytes key q e))))

module _ (bs cs : List SetsByKey) (key : List ℕ) (b : SetsByKey) (here : get_or cs (bucket_of key) finite.empty ≡ b) (others : (i : ℕ) → i ≢ bucket_of key → get_or cs i finite.empty ≡ get_or bs i finite.empty) where
  abbrev old : List ℕ → Members
  old = members_in (get_or bs (bucket_of key) finite.empty)

  changes : (f : Members → Members) → ((q : List ℕ) → members_in b q ≡ cond (bytes_eq key q) (f (old q)) (old q)) → (q : List ℕ) → members_within cs q ≡ cond (bytes_eq key q) (f (members_within bs q)) (members_within bs q)
  changes f step q = ⊎_elim
      (λ e. ap (λ i. members_in (get_or cs i finite.empty) q) e ∙ ap (λ (s : SetsByKey). members_in s q) here ∙ step q
      ∙ ap (λ i. cond (bytes_eq key q) (f (members_in (get_or bs i finite.empty) q)) (members_in (get_or bs i finite.empty) q)) (sym e))
      (λ n. ap (λ (s : SetsByKey). members_in s q) (others (bucket_of q) n) ∙ sym (ap (λ x. cond x (f (members_within bs q)) (members_within bs q)) (differ key q n)))
      (cases_eq (bucket_of q) (bucket_of key))

  stays : ((q : List ℕ) → members_in b q ≡ old q) → (q : List ℕ) → members_within cs q ≡ members_within bs q
  stays same q = ⊎_elim
      (λ e. ap (λ i. members_in (get_or cs i finite.empty) q) e ∙ ap (λ (s : SetsByKey). members_in s q) here ∙ same q ∙ ap (λ i. members_in (get_or bs i finite.empty) q) (sym e))
      (λ n. ap (λ (s : SetsByKey). members_in s q) (others (bucket_of q) n))
      (cases_eq (bucket_of q) (bucket_of key))

  own : AreBuckets bs → IsFull b → ((q : List ℕ) → bytes_eq key q ≡ false → members_in b q ≡ old q) → AreBuckets cs
  own are full same = record { each = λ place. ⊎_elim (λ e. subst (λ i. IsBucket i (get_or cs i finite.empty)) (sym e) (subst (IsBucket (bucket_of key)) (sym here) changed)) (λ n. subst (IsBucket place) (sym (others place n)) (are.each place)) (cases_eq place (bucket_of key)) }
    where
      changed : IsBucket (bucket_of key) b
      changed = record { full = full; own = λ q other. same q (differ key q other) ∙ (are.each (bucket_of key)).own q other }

  pub put_within : {E : Type 0} (number : ℕ) (r : Result Bool E) → AreBuckets bs → IsFull b → Puts key number old (members_in b) r → AreBuckets cs × Puts key number (members_within bs) (members_within cs) r
  put_within number r are full h = (
    own are full (elsewhere r h),
    record {
      is_new = h.is_new;
      came = on_ok_weaker r (λ step. changes (λ s. set.insert s number) step) h.came;
      stayed = on_err_weaker r (λ same. stays same) h.stayed;
    },
  )
    where
      elsewhere : {E : Type 0} (r : Result Bool E) → Puts key number old (members_in b) r → (q : List ℕ) → bytes_eq key q ≡ false → members_in b q ≡ old q
      elsewhere (Ok x) h q other = h.came q ∙ ap (λ x. cond x (set.insert (old q) number) (old q)) other
      elsewhere (Err x) h q other = h.stayed q

  pub take_within : (number : ℕ) (was : Bool) → AreBuckets bs → IsFull b → Takes key number old (members_in b) was → AreBuckets cs × Takes key number (members_within bs) (members_within cs) was
  take_within number was are full h = (
    own are full (λ q other. h.went q ∙ ap (λ x. cond x (set.remove (old q) number) (old q)) other),
    record { was = h.was; went = changes (λ s. set.remove s number) h.went },
  )

-- the bucket at the place of a key is another one now
module _ (bs grown : List SetsByKey) (key : List ℕ) (number place : ℕ) {text : List ℕ} (was b : SetsByKey) (are : AreBuckets bs) (same : (i : ℕ) → get_or grown i finite.empty ≡ get_or bs i finite.empty)
    (at_place : place ≡ bucket_of text) (is : text ≡ key) (less : place < length grown) (stood : was ≡ get_or grown place was) (full : IsFull b) where
  place_is : place ≡ bucket_of key
  place_is = at_place ∙ ap bucket_of is

  was_is : was ≡ get_or bs (bucket_of key) finite.empty
  was_is = stood ∙ get_or_default grown place was finite.empty less ∙ same place ∙ ap (λ i. get_or bs i finite.empty) place_is

  new_here : get_or (put grown place b) (bucket_of key) finite.empty ≡ b
  new_here = ap (λ i. get_or (put grown place b) i finite.empty) (sym place_is) ∙ get_or-set_same grown place b finite.empty less

  other_there : (i : ℕ) → i ≢ bucket_of key → get_or (put grown place b) i finite.empty ≡ get_or bs i finite.empty
  other_there i n = get_or-set_other grown place i b finite.empty (λ e. n (e ∙ place_is)) ∙ same i

  pub put_at : {E : Type 0} (r : Result Bool E) → Puts key number (members_in was) (members_in b) r → AreBuckets (put grown place b) × Puts key number (members_within bs) (members_within (put grown place b)) r
  put_at r h = put_within bs (put grown place b) key b new_here other_there number r are full (subst (λ (s : SetsByKey). Puts key number (members_in s) (members_in b) r) was_is h)

  pub take_at : (taken : Bool) → Takes key number (members_in was) (members_in b) taken → AreBuckets (put grown place b) × Takes key number (members_within bs) (members_within (put grown place b)) taken
  take_at taken h = take_within bs (put grown place b) key b new_here other_there number taken are full (subst (λ (s : SetsByKey). Takes key number (members_in s) (members_in b) taken) was_is h)

-- what a bucket shows of a key is what all show
pub got_within : (bs : List SetsByKey) (s : SetsByKey) (key : List ℕ) (place : ℕ) {text : List ℕ} (b : SetsByKey) (r : Option (Bor KeySet)) → gathered bs ≡ s → AreBuckets bs → place ≡ bucket_of text → text ≡ key → place < length bs → b ≡ get_or bs place b
    → MatchOption r (members_in b key ≡ set.empty) (λ x. x.now.members ≡ members_in b key) → MatchOption r (members_in s key ≡ set.empty) (λ x. x.now.members ≡ members_in s key)
got_within bs s key place b r is are at_place same less stood = shown r (
    ap (λ (m : SetsByKey). members_in m key) (stood ∙ get_or_default bs place b finite.empty less ∙ ap (λ i. get_or bs i finite.empty) (at_place ∙ ap bucket_of same))
    ∙ sym (gathered_is bs s is are key))

members_past : (bs : List SetsByKey) (key : List ℕ) → length bs ≤ bucket_of key → members_within bs key ≡ set.empty
members_past bs key end = ap (λ (s : SetsByKey). members_in s key) (get_or_past bs (bucket_of key) finite.empty end) ∙ none_in key

-- no bucket is there for the key
pub take_past : (bs : List SetsByKey) (key : List ℕ) (number place : ℕ) {text : List ℕ} → place ≡ bucket_of text → text ≡ key → length bs ≤ place → Takes key number (members_within bs) (members_within bs) false
take_past bs key number place at_place is end = record {
  was = sym (ap (λ (s : Members). set.contains s number) none ∙ set.contains-empty nat_cmp number);
  went = λ q. by q (bytes_eq key q) refl;
}
  where
    none : members_within bs key ≡ set.empty
    none = members_past bs key (subst (λ n. length bs ≤ n) (at_place ∙ ap bucket_of is) end)

    by : (q : List ℕ) (b : Bool) → bytes_eq key q ≡ b → members_within bs q ≡ cond b (set.remove (members_within bs q) number) (members_within bs q)
    by q true e = let gone : members_within bs q ≡ set.empty = ap (members_within bs) (sym (same_bytes key q e)) ∙ none in gone ∙ remove_none number ∙ ap (λ (s : Members). set.remove s number) (sym gone)
    by q false e = refl

pub got_past : (bs : List SetsByKey) (s : SetsByKey) (key : List ℕ) (place : ℕ) {text : List ℕ} → gathered bs ≡ s → AreBuckets bs → place ≡ bucket_of text → text ≡ key → length bs ≤ place → members_in s key ≡ set.empty
got_past bs s key place is are at_place same end = gathered_is bs s is are key ∙ members_past bs key (subst (λ n. length bs ≤ n) (at_place ∙ ap bucket_of same) end)

-- ---- every bucket in turn loses a number

module _ (first bs : List SetsByKey) (number i : ℕ) (b : SetsByKey) (are : AreBuckets bs) (less : i < length bs) (full : IsFull b)
    (lost : (key : List ℕ) → members_in b key ≡ set.remove (members_in (get_or bs i finite.empty) key) number) where
  pub lost_buckets : AreBuckets (put bs i b)
  lost_buckets = record {
    each = λ place. ⊎_elim
        (λ e. subst (λ n. IsBucket n (get_or (put bs i b) n finite.empty)) (sym e) (subst (IsBucket i) (sym (get_or-set_same bs i b finite.empty less)) this))
        (λ n. subst (IsBucket place) (sym (get_or-set_other bs i place b finite.empty n)) (are.each place))
        (cases_eq place i);
  }
    where
      this : IsBucket i b
      this = record { full = full; own = λ key other. lost key ∙ ap (λ (s : Members). set.remove s number) ((are.each i).own key other) ∙ sym (remove_none number) }

  not_yet : nat_lt i i ≡ false
  not_yet = grind (arith, nat_tests)

  now : nat_lt i (i + 1) ≡ true
  now = grind (arith, nat_tests)

  elsewhere : (place : ℕ) → place ≢ i → nat_lt place (i + 1) ≡ nat_lt place i
  elsewhere place n = grind (arith, nat_tests)

  pub lost_members : ((place : ℕ) (key : List ℕ) → members_in (get_or bs place finite.empty) key ≡ cond (nat_lt place i) (set.remove (members_in (get_or first place finite.empty) key) number) (members_in (get_or first place finite.empty) key))
      → (place : ℕ) (key : List ℕ) → members_in (get_or (put bs i b) place finite.empty) key ≡ cond (nat_lt place (i + 1)) (set.remove (members_in (get_or first place finite.empty) key) number) (members_in (get_or first place finite.empty) key)
  lost_members so_far place key = ⊎_elim
      (λ e. subst (λ n. members_in (get_or (put bs i b) n finite.empty) key ≡ cond (nat_lt n (i + 1)) (set.remove (members_in (get_or first n finite.empty) key) number) (members_in (get_or first n finite.empty) key)) (sym e) this)
      (λ n. ap (λ (s : SetsByKey). members_in s key) (get_or-set_other bs i place b finite.empty n) ∙ so_far place key
      ∙ ap (λ x. cond x (set.remove (members_in (get_or first place finite.empty) key) number) (members_in (get_or first place finite.empty) key)) (sym (elsewhere place n)))
      (cases_eq place i)
    where
      this : members_in (get_or (put bs i b) i finite.empty) key ≡ cond (nat_lt i (i + 1)) (set.remove (members_in (get_or first i finite.empty) key) number) (members_in (get_or first i finite.empty) key)
      this = ap (λ (s : SetsByKey). members_in s key) (get_or-set_same bs i b finite.empty less) ∙ lost key
          ∙ ap (λ (s : Members). set.remove s number) (so_far i key ∙ ap (λ x. cond x (set.remove (members_in (get_or first i finite.empty) key) number) (members_in (get_or first i finite.empty) key)) not_yet)
          ∙ ap (λ x. cond x (set.remove (members_in (get_or first i finite.empty) key) number) (members_in (get_or first i finite.empty) key)) (sym now)

-- all of them have
pub lost_within : (first bs : List SetsByKey) (number n : ℕ) → length first ≤ n
    → ((place : ℕ) (key : List ℕ) → members_in (get_or bs place finite.empty) key ≡ cond (nat_lt place n) (set.remove (members_in (get_or first place finite.empty) key) number) (members_in (get_or first place finite.empty) key))
    → (key : List ℕ) → members_within bs key ≡ set.remove (members_within first key) number
lost_within first bs number n end h key = h (bucket_of key) key ∙ by (nat_lt (bucket_of key) n) refl
  where
    past_end : nat_lt (bucket_of key) n ≡ false → members_within first key ≡ set.empty
    past_end late = members_past first key (let le = ltb-false (bucket_of key) n late in omega (arith, le, end))

    by : (b : Bool) → nat_lt (bucket_of key) n ≡ b → cond b (set.remove (members_within first key) number) (members_within first key) ≡ set.remove (members_within first key) number
    by true early = refl
    by false late = past_end late ∙ remove_none number ∙ ap (λ (s : Members). set.remove s number) (sym (past_end late))

-- ---- buckets rise as their keys do

min_below : (b : ℕ) → min (b - 47) 11 + min (b - 96) 27 ≤ 38
min_below b = omega arith

side_low : (rest : List ℕ) → side rest ≤ 38
side_low [] = omega arith
side_low (b ∷ rest) = min_below b

first_apart : (x y : ℕ) → min (x - 47) 11 + min (x - 96) 27 < min (y - 47) 11 + min (y - 96) 27 → x < y
first_apart x y less = omega (arith, less)

sides_in_order : (ps qs : List ℕ) → side ps < side qs → slice_cmp nat_cmp ps qs ≡ Less
sides_in_order [] [] less = absurd (omega (arith, less))
sides_in_order [] (y ∷ ys) less = refl
sides_in_order (x ∷ xs) [] less = absurd (omega (arith, less))
sides_in_order (x ∷ xs) (y ∷ ys) less = ap (λ o. ordering_then o (slice_cmp nat_cmp xs ys)) (sym (nat_cmp_is x y Less (first_apart x y less)))

pub in_order : (p q : List ℕ) → bucket_of p < bucket_of q → slice_cmp nat_cmp p q ≡ Less
in_order [] [] less = absurd (omega (arith, less))
in_order [] (b ∷ qs) less = refl
in_order (a ∷ ps) [] less = absurd (omega (arith, less))
in_order (a ∷ ps) (b ∷ qs) less = by (nat_cmp a b) refl
  where
    by : (o : Ordering) → nat_cmp a b ≡ o → ordering_then o (slice_cmp nat_cmp ps qs) ≡ Less
    by Less e = refl
    by Equal e = sides_in_order ps qs (let same = ranked a b Equal (sym e) in omega (arith, less, same, side_low ps))
    by Greater e = absurd (let above = ranked a b Greater (sym e) in omega (arith, less, above, side_low ps, side_low qs))

-- ---- all rows

all_append : (P : Row → Type 0) (xs ys : List Row) → AllByRecursion P xs → AllByRecursion P ys → AllByRecursion P (xs ++ ys)
all_append P [] ys hx hy = hy
all_append P (x ∷ xs) ys hx hy = (hx.0, all_append P xs ys hx.1 hy)

all_map : (P Q : Row → Type 0) → ((row : Row) → P row → Q row) → (rows : List Row) → AllByRecursion P rows → AllByRecursion Q rows
all_map P Q f [] h = tt
all_map P Q f (row ∷ rows) h = (f row h.0, all_map P Q f rows h.1)

rises_append : (xs ys : List Row) → Rises xs → Rises ys → AllByRecursion (λ x. AllBehind x.0 ys) xs → Rises (xs ++ ys)
rises_append [] ys rx ry h = ry
rises_append (x ∷ xs) ys rx ry h = (all_append (λ row. key_cmp x.0 row.0 ≡ Less) xs ys rx.0 h.0, rises_append xs ys rx.1 ry h.1)

left_is : (a b : Bool) → T (a && b) → T a
left_is true b h = tt
left_is false b h = h

right_is : (a b : Bool) → T (a && b) → T b
right_is true b h = h
right_is false b h = absurd h

is_less : (o : Ordering) → T (is_lt o) → o ≡ Less
is_less Less h = refl
is_less Equal h = absurd h
is_less Greater h = absurd h

rises_sorted : (rows : List Row) → T (is_sorted key_cmp rows) → Rises rows
rises_sorted [] h = tt
rises_sorted (row ∷ rows) h = (all row.0 rows (left_is (below_all key_cmp row.0 rows) _ h), rises_sorted rows (right_is (below_all key_cmp row.0 rows) _ h))
  where
    all : (k : List ℕ) (rows : List Row) → T (below_all key_cmp k rows) → AllBehind k rows
    all k [] h = tt
    all k (r ∷ rs) h = (is_less _ (left_is (is_lt (key_cmp k r.0)) _ h), all k rs (right_is (is_lt (key_cmp k r.0)) _ h))

both_are : (a b : Bool) → T a → T b → T (a && b)
both_are true b p q = q
both_are false b p q = p

sorted_rises : (rows : List Row) → Rises rows → T (is_sorted key_cmp rows)
sorted_rises [] h = tt
sorted_rises (row ∷ rows) h = both_are (below_all key_cmp row.0 rows) _ (all row.0 rows h.0) (sorted_rises rows h.1)
  where
    all : (k : List ℕ) (rows : List Row) → AllBehind k rows → T (below_all key_cmp k rows)
    all k [] h = tt
    all k (r ∷ rs) h = both_are (is_lt (key_cmp k r.0)) _ (subst (λ o. T (is_lt o)) (sym h.0) tt) (all k rs h.1)

-- rows that rise are the entries of the map that they show
pub entries_are : (rows : List Row) (s : SetsByKey) → IsStrictlySortedBy key_cmp (keys_of rows) → ((q : List ℕ) → finite.get s q ≡ at rows q) → rows ≡ finite.entries s
entries_are rows s rise shows = same_entries key_cmp nat_list_cmp_total (finite.slice_cmp-IsAntisymmetric finite.nat_cmp-IsAntisymmetric) rows (finite.entries s) (sorted_rises rows (from_keys rows rise)) (finite.entries_sorted s)
    (λ q. find_is rows q ∙ sym (shows q) ∙ finite.get-entries s q)

rises_entries : (b : SetsByKey) → Rises (finite.entries b)
rises_entries b = rises_sorted (finite.entries b) (finite.entries_sorted b)

-- each row of a bucket
found : (b : SetsByKey) → AllByRecursion (λ row. finite.get b row.0 ≡ Some row.1) (finite.entries b)
found b = all_map (λ row. at (finite.entries b) row.0 ≡ Some row.1) (λ row. finite.get b row.0 ≡ Some row.1) (λ row e. sym (at_entries b row.0) ∙ e) (finite.entries b) (found_each (λ _. true) (finite.entries b) (rises_entries b))

none_some : (o : Option Members) (s : Members) → o ≡ None → o ≡ Some s → ⊥
none_some o s a b = let bad : None ≡ Some s = sym a ∙ b in cc

in_bucket : (place : ℕ) (b : SetsByKey) → IsBucket place b → AllByRecursion (λ row. bucket_of row.0 ≡ place) (finite.entries b)
in_bucket place b is = all_map (λ row. finite.get b row.0 ≡ Some row.1) (λ row. bucket_of row.0 ≡ place)
    (λ row e. ⊎_elim (λ same. same) (λ other. absurd (none_some _ _ (not_there place b row.0 is other) e)) (cases_eq (bucket_of row.0) place))
    (finite.entries b) (found b)

past : (first : ℕ) (bs : List SetsByKey) → IsFrom first bs → AllByRecursion (λ row. first ≤ bucket_of row.0) (all_rows bs)
past first [] all = tt
past first (b ∷ bs) all = all_append (λ row. first ≤ bucket_of row.0) (finite.entries b) (all_rows bs)
    (all_map (λ row. bucket_of row.0 ≡ first) (λ row. first ≤ bucket_of row.0) (λ row e. omega (arith, e)) (finite.entries b) (in_bucket first b (head first b bs all)))
    (all_map (λ row. suc first ≤ bucket_of row.0) (λ row. first ≤ bucket_of row.0) (λ row le. omega (arith, le)) (all_rows bs) (past (suc first) bs (behind first b bs all)))

rises_all : (first : ℕ) (bs : List SetsByKey) → IsFrom first bs → Rises (all_rows bs)
rises_all first [] all = tt
rises_all first (b ∷ bs) all = rises_append (finite.entries b) (all_rows bs) (rises_entries b) (rises_all (suc first) bs (behind first b bs all))
    (all_map (λ row. bucket_of row.0 ≡ first) (λ row. AllBehind row.0 (all_rows bs))
    (λ row e. all_map (λ other. suc first ≤ bucket_of other.0) (λ other. key_cmp row.0 other.0 ≡ Less) (λ other le. in_order row.0 other.0 (omega (arith, e, le))) (all_rows bs) (past (suc first) bs (behind first b bs all)))
    (finite.entries b) (in_bucket first b (head first b bs all)))

full_all : (first : ℕ) (bs : List SetsByKey) → IsFrom first bs → AllByRecursion (λ row. row.1 ≢ set.empty) (all_rows bs)
full_all first [] all = tt
full_all first (b ∷ bs) all = all_append (λ row. row.1 ≢ set.empty) (finite.entries b) (all_rows bs)
    (all_map (λ row. finite.get b row.0 ≡ Some row.1) (λ row. row.1 ≢ set.empty) (λ row e none. (head first b bs all).full.full row.0 (e ∙ ap (λ (x : Members). Some x) none)) (finite.entries b) (found b))
    (full_all (suc first) bs (behind first b bs all))

pub rows_gathered : (bs : List SetsByKey) (s : SetsByKey) → gathered bs ≡ s → AreBuckets bs → AreRowsOf s (all_rows bs)
rows_gathered bs s is are = record {
  rise = to_keys (all_rows bs) (rises_all 0 bs (from_none bs are));
  full = full_all 0 bs (from_none bs are);
  exact = λ key. ap (λ o. unwrap_or o set.empty) (sym (find_is (all_rows bs) key) ∙ sym (finite.get-from_entries nat_list_cmp_total (all_rows bs) key)) ∙ ap (λ (m : SetsByKey). members_in m key) is;
}

-- ---- no buckets

pub none_full : IsFull finite.empty
none_full = record { full = λ key is. none_some _ _ (finite.get-empty (slice_cmp nat_cmp) key) is }

pub no_buckets : AreBuckets []
no_buckets = record { each = λ place. record { full = none_full; own = λ key other. ap (λ o. unwrap_or o set.empty) (finite.get-empty (slice_cmp nat_cmp) key) } }

pub same_buckets : (bs cs : List SetsByKey) → ((i : ℕ) → get_or cs i finite.empty ≡ get_or bs i finite.empty) → AreBuckets bs → AreBuckets cs
same_buckets bs cs same are = record { each = λ place. subst (IsBucket place) (sym (same place)) (are.each place) }

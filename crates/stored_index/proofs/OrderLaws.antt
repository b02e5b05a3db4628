-- Ranks and keys in their order.
use Rattle.std.proofs.Common.{◌≡◌, ℕ, ◌+◌, ◌<◌, ◌≤◌, ◌==◌, ◌&&◌, Bool, true, false, cond, nat_lt, nat_le, List, [], ◌∷◌, Option, Some, None, refl, ap, ◌∙◌, arith}
use Rattle.std.proofs.lemmas.Bool.{and_parts}
use Rattle.std.proofs.lemmas.Bool.Decides.{nat_tests}
use Rattle.std.proofs.lemmas.Cmp.{nat_list_cmp_total}
use Rattle.std.specs.declared.cmp.Ordering.{Ordering}
use Rattle.std.specs.declared.cmp.Ordering.TheVariants.{Less, Equal, Greater}
use Rattle.std.specs.Ordering.{nat_cmp, is_lt}
use Rattle.std.specs.Cmp.Lexicographic.{slice_cmp}
use Rattle.std.specs.List.{AllByRecursion}
use Rattle.std.specs.List.Sorted.{IsStrictlySortedBy}
use Rattle.stored_index.specs.KeyLines.{are_rising, are_within, is_above}

-- ---- tests

pub less_from_lt : (x y : ℕ) → x < y → nat_cmp x y ≡ Less
less_from_lt x y lt =
    let t : nat_lt x y ≡ true = grind (arith, nat_tests) in
    ap (λ (b : Bool). cond b Less (cond (x == y) Equal Greater)) t

less_by : (t u : Bool) → cond t Less (cond u Equal Greater) ≡ Less → t ≡ true
less_by true u e = refl
less_by false true e = absurd cc
less_by false false e = absurd cc

pub lt_from_less : (x y : ℕ) → nat_cmp x y ≡ Less → x < y
lt_from_less x y e =
    let t : nat_lt x y ≡ true = less_by (nat_lt x y) (x == y) e in
    grind (arith, nat_tests)

is_less : (o : Ordering) → is_lt o ≡ true → o ≡ Less
is_less Less e = refl
is_less Equal e = absurd cc
is_less Greater e = absurd cc

pub both_true : (a b : Bool) → cond a b false ≡ true → (a ≡ true) × (b ≡ true)
both_true true b e = (refl, e)
both_true false b e = absurd cc

pub all_weaker : {X : Type 0} (P Q : X → Type 0) → ((x : X) → P x → Q x) → (xs : List X) → AllByRecursion P xs → AllByRecursion Q xs
all_weaker P Q f [] all = tt
all_weaker P Q f (x ∷ xs) all = (f x all.0, all_weaker P Q f xs all.1)

-- ---- ranks

rising_above : (least : ℕ) (ns : List ℕ) → are_rising least ns ≡ true → AllByRecursion (λ n. least ≤ n) ns
unfolding are_rising
rising_above least [] e = tt
rising_above least (n ∷ ns) e =
    let parts = both_true (nat_le least n) (are_rising (n + 1) ns) e in
    let here : least ≤ n = grind (arith, nat_tests, parts.0) in
    (here, all_weaker (λ m. n + 1 ≤ m) (λ m. least ≤ m) (λ m le. omega arith) ns (rising_above (n + 1) ns parts.1))

pub rising_sorted : (least : ℕ) (ns : List ℕ) → are_rising least ns ≡ true → IsStrictlySortedBy nat_cmp ns
unfolding are_rising IsStrictlySortedBy
rising_sorted least [] e = tt
rising_sorted least (n ∷ ns) e =
    let parts = both_true (nat_le least n) (are_rising (n + 1) ns) e in
    (all_weaker (λ m. n + 1 ≤ m) (λ m. nat_cmp n m ≡ Less) (λ m le. less_from_lt n m (omega arith)) ns (rising_above (n + 1) ns parts.1), rising_sorted (n + 1) ns parts.1)

pub sorted_rising : (least : ℕ) (ns : List ℕ) → AllByRecursion (λ n. least ≤ n) ns → IsStrictlySortedBy nat_cmp ns → are_rising least ns ≡ true
unfolding are_rising IsStrictlySortedBy
sorted_rising least [] low s = refl
sorted_rising least (n ∷ ns) low s =
    let first : least ≤ n = low.0 in
    let here : nat_le least n ≡ true = grind (arith, nat_tests) in
    ap (λ (t : Bool). cond t (are_rising (n + 1) ns) false) here
    ∙ sorted_rising (n + 1) ns (all_weaker (λ m. nat_cmp n m ≡ Less) (λ m. n + 1 ≤ m) (λ m e. let lt = lt_from_less n m e in omega arith) ns s.0) s.1

pub all_from_zero : (ns : List ℕ) → AllByRecursion (λ n. 0 ≤ n) ns
all_from_zero [] = tt
all_from_zero (n ∷ ns) = (omega arith, all_from_zero ns)

pub within_all : (entries : ℕ) (ns : List ℕ) → are_within entries ns ≡ true → AllByRecursion (λ n. n < entries) ns
within_all entries [] e = tt
within_all entries (n ∷ ns) e =
    let parts = and_parts (nat_lt n entries) (are_within entries ns) e in
    let here : n < entries = grind (arith, nat_tests, parts.0) in
    (here, within_all entries ns parts.1)

pub all_within : (entries : ℕ) (ns : List ℕ) → AllByRecursion (λ n. n < entries) ns → are_within entries ns ≡ true
all_within entries [] all = refl
all_within entries (n ∷ ns) all =
    let lt : n < entries = all.0 in
    let here : nat_lt n entries ≡ true = grind (arith, nat_tests) in
    ap (λ (t : Bool). t && are_within entries ns) here ∙ all_within entries ns all.1

-- ---- keys

abbrev key_cmp : List ℕ → List ℕ → Ordering
key_cmp = slice_cmp nat_cmp

abbrev pub AreAbove : Option (List ℕ) → List (List ℕ) → Type 0
AreAbove before keys = AllByRecursion (λ k. is_above before k ≡ true) keys

pub less_from_above : (before key : List ℕ) → is_above (Some before) key ≡ true → key_cmp before key ≡ Less
less_from_above before key e = is_less (key_cmp before key) e

pub above_from_less : (before key : List ℕ) → key_cmp before key ≡ Less → is_above (Some before) key ≡ true
above_from_less before key e = ap is_lt e

-- what is above a key is above what that key is above
above_trans : (before : Option (List ℕ)) (key k : List ℕ) → is_above before key ≡ true → is_above (Some key) k ≡ true → is_above before k ≡ true
above_trans None key k one two = refl
above_trans (Some b) key k one two = above_from_less b k (nat_list_cmp_total.trans b key k (less_from_above b key one) (less_from_above key k two))

pub above_more : (before : Option (List ℕ)) (key : List ℕ) (keys : List (List ℕ)) → is_above before key ≡ true → AreAbove (Some key) keys → AreAbove before (key ∷ keys)
above_more before key keys here all = (here, all_weaker (λ k. is_above (Some key) k ≡ true) (λ k. is_above before k ≡ true) (λ k. above_trans before key k here) keys all)

pub sorted_more : (key : List ℕ) (keys : List (List ℕ)) → AreAbove (Some key) keys → IsStrictlySortedBy key_cmp keys → IsStrictlySortedBy key_cmp (key ∷ keys)
unfolding IsStrictlySortedBy
sorted_more key keys all s = (all_weaker (λ k. is_above (Some key) k ≡ true) (λ k. key_cmp key k ≡ Less) (λ k. less_from_above key k) keys all, s)

pub sorted_parts : (key : List ℕ) (keys : List (List ℕ)) → IsStrictlySortedBy key_cmp (key ∷ keys) → AreAbove (Some key) keys × IsStrictlySortedBy key_cmp keys
unfolding IsStrictlySortedBy
sorted_parts key keys s = (all_weaker (λ k. key_cmp key k ≡ Less) (λ k. is_above (Some key) k ≡ true) (λ k. above_from_less key k) keys s.0, s.1)

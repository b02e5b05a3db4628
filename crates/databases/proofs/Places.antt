-- Ranks rise by one from entry to entry, in the whole dump and from a base on.
use Rattle.std.proofs.Common.{◌≡◌, ◌⊎◌, inl, inr, ℕ, zero, suc, ◌+◌, ◌≤◌, Bool, true, false, cond, List, [], ◌∷◌, map, length, Some, refl, sym, ap, subst, ◌∙◌, arith}
use Rattle.std.specs.Prelude.{T, filter, ◌&&◌, take_while}
use Rattle.std.specs.declared.cmp.Ordering.{Ordering}
use Rattle.std.specs.declared.cmp.Ordering.TheVariants.{Less, Equal, Greater}
use Rattle.std.specs.Ordering.{is_eq, is_lt, is_le, ordering_then, ordering_reverse}
use Rattle.std.specs.List.{AllByRecursion, slice_get}
use Rattle.std.specs.FinMap as finite
use Rattle.std.specs.FinMap.Entries.{is_sorted, below_all}
use Rattle.std.proofs.lemmas.Cmp.{tied_itself}
use Rattle.std.proofs.lemmas.List.Sums.{take_while-cons}
use Rattle.paths.specs.Paths.{Path, rdn_key_cmp, path_cmp, begins}
use Rattle.entries.specs.Entries.{EntryContent}
use Rattle.tree.specs.Directories.{Entries}
use Rattle.entries.specs.StoredEntries.{content_of}
use Rattle.tree.specs.Trees.{Placed, unnumbered, seen_entries}
use Rattle.tree.proofs.Order.{rdn_key_total, path_total}
use Rattle.tree.proofs.Stretch.{stretch}
use Rattle.databases.specs.Ranks.{rank_in}

-- ---- the order of paths

pub split_and : (a b : Bool) → T (a && b) → T a × T b
split_and true b h = (tt, h)
split_and false b h = absurd h

pub less : (o : Ordering) → T (is_lt o) → o ≡ Less
less Less h = refl
less Equal h = absurd h
less Greater h = absurd h

-- what comes before a path isn't begun by it
pub apart : (p q : Path) → is_lt (path_cmp q p) ≡ true → begins p q ≡ false
apart [] [] h = cc
apart [] (y ∷ q) h = cc
apart (x ∷ p) [] h = refl
apart (x ∷ p) (y ∷ q) h =
    ap (λ o. is_eq o && begins p q) (rdn_key_total.antisymm x y)
    ∙ elim (rdn_key_cmp y x) as (λ o. is_lt (ordering_then o (path_cmp q p)) ≡ true → is_eq (ordering_reverse o) && begins p q ≡ false) [
      | Less ↦ λ h. refl
      | Equal ↦ λ h. apart p q h
      | Greater ↦ λ h. cc
    ] h

-- what comes after a path that doesn't come before another one doesn't either
pub not_before : (p q r : Path) → T (is_lt (path_cmp p q)) → is_lt (path_cmp p r) ≡ false → is_lt (path_cmp q r) ≡ false
not_before p q r after not = by (is_lt (path_cmp q r)) refl
  where
    by : (b : Bool) → is_lt (path_cmp q r) ≡ b → b ≡ false
    by true is = let bad : true ≡ false = sym (ap is_lt (path_total.trans p q r (less (path_cmp p q) after) (less (path_cmp q r) (subst T (sym is) tt)))) ∙ not in cc
    by false is = refl

-- ---- how many come before

-- how many of these entries come before a path
abbrev pub before : Path → List (Path × EntryContent) → ℕ
before p es = length (filter (λ e. is_lt (path_cmp e.0 p)) es)

-- each of these has this rank, and then the next one
abbrev pub AreRanked : (Path → ℕ) → ℕ → List (Path × EntryContent) → Type 0
AreRanked rank n [] = Unit {0}
AreRanked rank n (e ∷ es) = (rank e.0 ≡ n) × AreRanked rank (n + 1) es

one_before : (p : Path) (e : Path × EntryContent) (es : List (Path × EntryContent)) → is_lt (path_cmp e.0 p) ≡ true → before p (e ∷ es) ≡ before p es + 1
one_before p e es is = ap (λ b. length (cond b (e ∷ filter (λ e. is_lt (path_cmp e.0 p)) es) (filter (λ e. is_lt (path_cmp e.0 p)) es))) is ∙ omega arith

not_one : (p : Path) (e : Path × EntryContent) (es : List (Path × EntryContent)) → is_lt (path_cmp e.0 p) ≡ false → before p (e ∷ es) ≡ before p es
not_one p e es is = ap (λ b. length (cond b (e ∷ filter (λ e. is_lt (path_cmp e.0 p)) es) (filter (λ e. is_lt (path_cmp e.0 p)) es))) is

none_before : (p q : Path) (es : List (Path × EntryContent)) → is_lt (path_cmp q p) ≡ false → T (below_all path_cmp q es) → before p es ≡ 0
none_before p q [] not below = refl
none_before p q (e ∷ es) not below =
    let both = split_and (is_lt (path_cmp q e.0)) (below_all path_cmp q es) below in
    not_one p e es (not_before q e.0 p both.0 not) ∙ none_before p q es not both.1

-- where entries rise, none comes before the first
pub none_before_first : (p : Path) (e : Path × EntryContent) (es : List (Path × EntryContent)) → T (is_sorted path_cmp (e ∷ es)) → is_lt (path_cmp e.0 p) ≡ false → before p (e ∷ es) ≡ 0
none_before_first p e es sorted not = not_one p e es not ∙ none_before p e.0 es not (split_and (below_all path_cmp e.0 es) (is_sorted path_cmp es) sorted).0

pub one_more_before : (p : Path) (e : Path × EntryContent) (es : List (Path × EntryContent)) → T (is_sorted path_cmp (e ∷ es)) → is_lt (path_cmp e.0 p) ≡ true → (before p (e ∷ es) ≡ before p es + 1) × T (is_sorted path_cmp es)
one_more_before p e es sorted is = (one_before p e es is, (split_and (below_all path_cmp e.0 es) (is_sorted path_cmp es) sorted).1)

-- ---- ranks in the whole dump

module _ (rank : Path → ℕ) where
  one_further : (n : ℕ) (e : Path × EntryContent) (es xs : List (Path × EntryContent)) → T (below_all path_cmp e.0 xs)
      → AllByRecursion (λ (x : Path × EntryContent). rank x.0 ≡ n + before x.0 (e ∷ es)) xs → AllByRecursion (λ (x : Path × EntryContent). rank x.0 ≡ (n + 1) + before x.0 es) xs
  one_further n e es [] below all = tt
  one_further n e es (x ∷ xs) below all =
      let both = split_and (is_lt (path_cmp e.0 x.0)) (below_all path_cmp e.0 xs) below in
      let count = one_before x.0 e es (ap is_lt (less (path_cmp e.0 x.0) both.0)) in
      let is = all.0 in
      (omega (arith, count, is), one_further n e es xs both.1 all.1)

  counted_on : (n : ℕ) (es : List (Path × EntryContent)) → T (is_sorted path_cmp es) → AllByRecursion (λ (x : Path × EntryContent). rank x.0 ≡ n + before x.0 es) es → AreRanked rank n es
  counted_on n [] sorted all = tt
  counted_on n (e ∷ es) sorted all =
      let none = none_before_first e.0 e es sorted (ap is_lt (tied_itself path_total e.0)) in
      let is = all.0 in
      let both = split_and (below_all path_cmp e.0 es) (is_sorted path_cmp es) sorted in
      (omega (arith, none, is), counted_on (n + 1) es both.1 (one_further n e es es both.0 all.1))

  -- from a base on
  pub ranked_below : (base : Path) (n : ℕ) (es : List (Path × EntryContent)) → T (is_sorted path_cmp es) → AreRanked rank n es → AreRanked rank (n + before base es) (filter (λ e. begins base e.0) es)
  ranked_below base n [] sorted ranked = tt
  ranked_below base n (e ∷ es) sorted ranked =
      by (is_lt (path_cmp e.0 base)) (begins base e.0) refl refl
      (ranked_below base (n + 1) es (split_and (below_all path_cmp e.0 es) (is_sorted path_cmp es) sorted).1 ranked.1)
    where
      none_behind : is_lt (path_cmp e.0 base) ≡ false → begins base e.0 ≡ false → filter (λ x. begins base x.0) es ≡ []
      none_behind not away =
          let from : is_le (path_cmp base e.0) ≡ true =
          ap is_le (path_total.antisymm base e.0) ∙ elim (path_cmp e.0 base) as (λ o. is_lt o ≡ false → is_le (ordering_reverse o) ≡ true) [ Less ↦ λ h. cc | Equal ↦ λ h. refl | Greater ↦ λ h. refl ] not in
          let later = filter (λ x. is_le (path_cmp base x.0)) es in
          sym (ap (λ b. cond b (e ∷ filter (λ x. begins base x.0) es) (filter (λ x. begins base x.0) es)) away)
          ∙ sym (stretch rdn_key_total base (e ∷ es) sorted)
          ∙ ap (λ b. take_while (λ x. begins base x.0) (cond b (e ∷ later) later)) from
          ∙ take_while-cons (λ (x : Path × EntryContent). begins base x.0) e later
          ∙ ap (λ b. cond b (e ∷ take_while (λ x. begins base x.0) later) []) away

      by : (a b : Bool) → is_lt (path_cmp e.0 base) ≡ a → begins base e.0 ≡ b → AreRanked rank (n + 1 + before base es) (filter (λ x. begins base x.0) es)
          → AreRanked rank (n + before base (e ∷ es)) (cond b (e ∷ filter (λ x. begins base x.0) es) (filter (λ x. begins base x.0) es))
      by true true is here rest = let bad : true ≡ false = sym here ∙ apart base e.0 is in cc
      by true false is away rest =
          let count = one_before base e es is in
          subst (λ k. AreRanked rank k (filter (λ x. begins base x.0) es)) (omega (arith, count)) rest
      by false true is here rest =
          let none = none_before_first base e es sorted is in
          let none_left = sym (not_one base e es is) ∙ none in
          let first = ranked.0 in
          (omega (arith, first, none), subst (λ k. AreRanked rank k (filter (λ x. begins base x.0) es)) (omega (arith, none, none_left)) rest)
      by false false is away rest = subst (AreRanked rank (n + before base (e ∷ es))) (sym (none_behind is away)) tt

  rank_at_place : (m n : ℕ) (es : List (Path × EntryContent)) (e : Path × EntryContent) → AreRanked rank m es → slice_get es n ≡ Some e → rank e.0 ≡ m + n
  rank_at_place m n [] e ranked is = cc
  rank_at_place m zero (x ∷ es) e ranked is =
      let same : x ≡ e = let k : Some x ≡ Some e = is in cc in
      let first = sym (ap (λ (y : Path × EntryContent). rank y.0) same) ∙ ranked.0 in
      omega (arith, first)
  rank_at_place m (suc n) (x ∷ es) e ranked is = let k = rank_at_place (m + 1) n es e ranked.1 is in omega (arith, k)

pub all_ranked : (d : Entries) → AreRanked (rank_in d) 0 (finite.entries d)
all_ranked d = counted_on (rank_in d) 0 (finite.entries d) (finite.entries_sorted d) (each (finite.entries d))
  where
    each : (xs : List (Path × EntryContent)) → AllByRecursion (λ (x : Path × EntryContent). rank_in d x.0 ≡ 0 + before x.0 (finite.entries d)) xs
    each [] = tt
    each (x ∷ xs) = (omega arith, each xs)

pub rank_is_place : (d : Entries) (n : ℕ) (p : Path) (e : EntryContent) → slice_get (finite.entries d) n ≡ Some (p, e) → rank_in d p ≡ n
rank_is_place d n p e is = let k = rank_at_place (rank_in d) 0 n (finite.entries d) (p, e) (all_ranked d) is in omega (arith, k)

-- the entries that a base begins, from its rank on
pub base_ranked : (d : Entries) (base : Path) → AreRanked (rank_in d) (rank_in d base) (filter (λ e. begins base e.0) (finite.entries d))
base_ranked d base =
    subst (λ n. AreRanked (rank_in d) n (filter (λ e. begins base e.0) (finite.entries d))) (let same : 0 + before base (finite.entries d) ≡ rank_in d base = omega arith in same)
    (ranked_below (rank_in d) base 0 (finite.entries d) (finite.entries_sorted d) (all_ranked d))

-- ---- how many there are

pub before_and_below : (base : Path) (es : List (Path × EntryContent)) → before base es + length (filter (λ e. begins base e.0) es) ≤ length es
before_and_below base [] = omega arith
before_and_below base (e ∷ es) = by (is_lt (path_cmp e.0 base)) (begins base e.0) refl refl (before_and_below base es)
  where
    by : (a b : Bool) → is_lt (path_cmp e.0 base) ≡ a → begins base e.0 ≡ b → before base es + length (filter (λ e. begins base e.0) es) ≤ length es
        → length (cond a (e ∷ filter (λ e. is_lt (path_cmp e.0 base)) es) (filter (λ e. is_lt (path_cmp e.0 base)) es)) + length (cond b (e ∷ filter (λ e. begins base e.0) es) (filter (λ e. begins base e.0) es)) ≤ length (e ∷ es)
    by true true is here rest = let bad : true ≡ false = sym here ∙ apart base e.0 is in cc
    by true false is away rest = omega (arith, rest)
    by false true is here rest = omega (arith, rest)
    by false false is away rest = omega (arith, rest)

-- ---- counting

abbrev contents_of : List Placed → List (Path × EntryContent)
contents_of es = seen_entries (map unnumbered es)

contents_length : (es : List Placed) → length (contents_of es) ≡ length es
contents_length [] = refl
contents_length (e ∷ es) = let k = contents_length es in omega (arith, k)

every_below : (es : List (Path × EntryContent)) → filter (λ e. begins [] e.0) es ≡ es
every_below [] = refl
every_below (e ∷ es) = ap (λ xs. e ∷ xs) (every_below es)

-- so many were counted, and these are left
pub record CountsOn (d : Entries) (p : Path) (rank : ℕ) (left : List Placed) : Type 0 where
  pub sum : rank + before p (contents_of left) ≡ rank_in d p
  pub sorted : T (is_sorted path_cmp (contents_of left))
  pub all : rank + length left ≡ finite.len d

pub none_counted : (d : Entries) (p root : Path) (left : List Placed) → root ≡ [] → seen_entries (map unnumbered left) ≡ filter (λ e. begins root e.0) (finite.entries d) → CountsOn d p 0 left
none_counted d p root left top seen =
    let whole : contents_of left ≡ finite.entries d = seen ∙ ap (λ (r : Path). filter (λ e. begins r e.0) (finite.entries d)) top ∙ every_below (finite.entries d) in
    let long = ap length whole in
    record {
      sum = let same = ap (before p) whole in omega (arith, same);
      sorted = subst (λ es. T (is_sorted path_cmp es)) (sym whole) (finite.entries_sorted d);
      all = omega (arith, contents_length left, long, finite.len-entries d);
    }

pub one_counted : (d : Entries) (p : Path) (rank : ℕ) (left rest : List Placed) (e : Placed) → left ≡ e ∷ rest → path_cmp e.path p ≡ Less → CountsOn d p rank left → CountsOn d p (rank + 1) rest
one_counted d p rank left rest e cut is h =
    let here = subst (CountsOn d p rank) cut h in
    let one = one_more_before p (e.path, content_of e.entry) (contents_of rest) here.sorted (ap is_lt is) in
    let sum = here.sum in
    let all = here.all in
    record { sum = let count = one.0 in omega (arith, count, sum); sorted = one.1; all = omega (arith, all) }

pub room_for_one : (d : Entries) (p : Path) (rank : ℕ) (left rest : List Placed) (e : Placed) → left ≡ e ∷ rest → finite.len d ≤ 4294967295 → CountsOn d p rank left → rank + 1 ≤ 4294967295
room_for_one d p rank left rest e cut few h = let long = ap length cut in let all = h.all in omega (arith, long, all, few)

pub all_counted : (d : Entries) (p : Path) (rank : ℕ) (left : List Placed) → left ≡ [] → CountsOn d p rank left → rank ≡ rank_in d p
all_counted d p rank left none h = let sum = (subst (CountsOn d p rank) none h).sum in omega (arith, sum)

not_less : (o : Ordering) → (o ≡ Equal) ⊎ (o ≡ Greater) → is_lt o ≡ false
not_less o (inl is) = ap is_lt is
not_less o (inr is) = ap is_lt is

pub counted_up_to : (d : Entries) (p : Path) (rank : ℕ) (left rest : List Placed) (e : Placed) (o : Ordering) → left ≡ e ∷ rest → o ≡ path_cmp e.path p → (o ≡ Equal) ⊎ (o ≡ Greater) → CountsOn d p rank left → rank ≡ rank_in d p
counted_up_to d p rank left rest e o cut is not h =
    let here = subst (CountsOn d p rank) cut h in
    let none = none_before_first p (e.path, content_of e.entry) (contents_of rest) here.sorted (ap is_lt (sym is) ∙ not_less o not) in
    let sum = here.sum in
    omega (arith, none, sum)

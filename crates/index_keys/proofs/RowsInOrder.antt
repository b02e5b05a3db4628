-- The rows that keys with ranks come to, where they are in order.
use Rattle.std.proofs.Common.{◌≡◌, ℕ, ◌<◌, Bool, true, false, cond, ◌&&◌, ◌||◌, nat_eq, List, [], ◌∷◌, ◌++◌, Option, Some, None, bytes_eq, flat_map, map, refl, sym, ap, subst, ◌∙◌}
use Rattle.std.specs.List.{AllByRecursion}
use Rattle.std.specs.List.Sorted.{IsStrictlySortedBy}
use Rattle.std.specs.declared.cmp.Ordering.{Ordering}
use Rattle.std.specs.declared.cmp.Ordering.TheVariants.{Less, Equal, Greater}
use Rattle.std.specs.Ordering.{nat_cmp, is_eq, is_lt, ordering_then}
use Rattle.std.specs.Cmp.{nat_eq_equiv}
use Rattle.std.specs.Cmp.Lexicographic.{slice_cmp, nat_list_cmp_total, nat_list_eq_equiv, bytes_decides}
use Rattle.std.specs.FinMap.Entries.{find, is_sorted, below_all}
use Rattle.std.proofs.lemmas.Cmp.{ranked, tied_itself}
use Rattle.std.proofs.lemmas.Map.Text.{is_eq-slice_cmp}
use Rattle.id_sets.specs.Ascending.{AllAbove, IsAscending}
use Rattle.id_sets.specs.Lists.{holds}
use Rattle.index_text.specs.IndexTexts.{Row, ended, key_line}
use Rattle.index_keys.specs.RankedKeys.{Ranked, ranked_cmp, is_among, put_front, rows_of, rows_text, line_of_first, first_row_text}
use Rattle.index_keys.specs.inner.Fronts.{under, BeginsOtherwise}

same_bytes : (a b : List ℕ) → bytes_eq a b ≡ true → a ≡ b
same_bytes a b e = (bytes_decides a b).0 e

-- ---- the ranks of a key

abbrev pub ranks_at : List ℕ → List Ranked → List ℕ
ranks_at key [] = []
ranks_at key (p ∷ ps) = cond (bytes_eq p.0 key) (p.1 ∷ ranks_at key ps) (ranks_at key ps)

-- they are there, where there is one
abbrev pub some_of : List ℕ → Option (List ℕ)
some_of [] = None
some_of (r ∷ rs) = Some (r ∷ rs)

pub and_true : (b : Bool) → b ≡ (b && true)
and_true true = refl
and_true false = refl

pub and_false : (b c : Bool) → c ≡ ((b && false) || c)
and_false true c = refl
and_false false c = refl

pub among_is : (key : List ℕ) (n : ℕ) (ps : List Ranked) → holds (ranks_at key ps) n ≡ is_among ps key n
among_is key n [] = refl
among_is key n (p ∷ ps) = by (bytes_eq p.0 key) (among_is key n ps)
  where
    by : (b : Bool) → holds (ranks_at key ps) n ≡ is_among ps key n → holds (cond b (p.1 ∷ ranks_at key ps) (ranks_at key ps)) n ≡ ((nat_eq n p.1 && b) || is_among ps key n)
    by true rest = ap (λ b. b || holds (ranks_at key ps) n) (nat_eq_equiv.symm p.1 n ∙ and_true (nat_eq n p.1)) ∙ ap (λ b. (nat_eq n p.1 && true) || b) rest
    by false rest = rest ∙ and_false (nat_eq n p.1) (is_among ps key n)

-- ---- what the order of two says

rank_less : (p q : Ranked) → ranked_cmp p q ≡ Less → p.0 ≡ q.0 → p.1 < q.1
rank_less p q less same =
    let tie : slice_cmp nat_cmp p.0 q.0 ≡ Equal = ap (slice_cmp nat_cmp p.0) (sym same) ∙ tied_itself nat_list_cmp_total p.0 in
    ranked p.1 q.1 Less (sym (sym (ap (λ o. ordering_then o (nat_cmp p.1 q.1)) tie) ∙ less))

first_less : (p q : Ranked) → ranked_cmp p q ≡ Less → bytes_eq p.0 q.0 ≡ false → slice_cmp nat_cmp p.0 q.0 ≡ Less
first_less p q less apart = by (slice_cmp nat_cmp p.0 q.0) refl less
  where
    by : (o : Ordering) → slice_cmp nat_cmp p.0 q.0 ≡ o → ordering_then o (nat_cmp p.1 q.1) ≡ Less → o ≡ Less
    by Less e h = refl
    by Equal e h = let bad : true ≡ false = sym (ap is_eq e) ∙ is_eq-slice_cmp p.0 q.0 ∙ apart in cc
    by Greater e h = cc

later_less : (key : List ℕ) (q r : Ranked) → slice_cmp nat_cmp key q.0 ≡ Less → ranked_cmp q r ≡ Less → slice_cmp nat_cmp key r.0 ≡ Less
later_less key q r less h = by (slice_cmp nat_cmp q.0 r.0) refl h
  where
    by : (o : Ordering) → slice_cmp nat_cmp q.0 r.0 ≡ o → ordering_then o (nat_cmp q.1 r.1) ≡ Less → slice_cmp nat_cmp key r.0 ≡ Less
    by Less e h = nat_list_cmp_total.trans key q.0 r.0 less e
    by Equal e h = ap (slice_cmp nat_cmp key) (sym (same_bytes q.0 r.0 (sym (is_eq-slice_cmp q.0 r.0) ∙ ap is_eq e))) ∙ less
    by Greater e h = cc

-- ---- the ranks of a key rise

ranks_above : (p : Ranked) (key : List ℕ) → p.0 ≡ key → (ps : List Ranked) → AllByRecursion (λ q. ranked_cmp p q ≡ Less) ps → AllAbove p.1 (ranks_at key ps)
ranks_above p key is [] h = tt
ranks_above p key is (q ∷ qs) h = by (bytes_eq q.0 key) refl (ranks_above p key is qs h.1)
  where
    by : (b : Bool) → bytes_eq q.0 key ≡ b → AllAbove p.1 (ranks_at key qs) → AllAbove p.1 (cond b (q.1 ∷ ranks_at key qs) (ranks_at key qs))
    by true same rest = (rank_less p q h.0 (is ∙ sym (same_bytes q.0 key same)), rest)
    by false apart rest = rest

pub ranks_rise : (key : List ℕ) (ps : List Ranked) → IsStrictlySortedBy ranked_cmp ps → IsAscending (ranks_at key ps)
unfolding IsStrictlySortedBy
ranks_rise key [] h = tt
ranks_rise key (p ∷ ps) h = by (bytes_eq p.0 key) refl (ranks_rise key ps h.1)
  where
    by : (b : Bool) → bytes_eq p.0 key ≡ b → IsAscending (ranks_at key ps) → IsAscending (cond b (p.1 ∷ ranks_at key ps) (ranks_at key ps))
    by true same rest = (ranks_above p key (same_bytes p.0 key same) ps h.0, rest)
    by false apart rest = rest

-- ---- the row in front

abbrev HeadIs : List ℕ → List Row → Type 0
HeadIs key [] = ⊥
HeadIs key (row ∷ rows) = row.0 ≡ key

head_is : (p : Ranked) (rows : List Row) → HeadIs p.0 (put_front p rows)
head_is p [] = refl
head_is p (row ∷ rows) = by (bytes_eq p.0 row.0) refl
  where
    by : (b : Bool) → bytes_eq p.0 row.0 ≡ b → HeadIs p.0 (cond b ((row.0, p.1 ∷ row.1) ∷ rows) ((p.0, p.1 ∷ []) ∷ row ∷ rows))
    by true same = sym (same_bytes p.0 row.0 same)
    by false apart = refl

-- all ranks of a key, where those behind them are of another
pub front_is : (key : List ℕ) (r : ℕ) (rs : List ℕ) (ps : List Ranked) → BeginsOtherwise key ps → rows_of (under key (r ∷ rs) ++ ps) ≡ (key, r ∷ rs) ∷ rows_of ps
front_is key r [] [] other = refl
front_is key r [] (p ∷ ps) other = apart (rows_of (p ∷ ps)) (head_is p (rows_of ps))
  where
    apart : (rows : List Row) → HeadIs p.0 rows → put_front (key, r) rows ≡ (key, r ∷ []) ∷ rows
    apart [] head = absurd head
    apart (row ∷ rows) head = ap (λ b. cond b ((row.0, r ∷ row.1) ∷ rows) ((key, r ∷ []) ∷ row ∷ rows)) (ap (bytes_eq key) head ∙ other)
front_is key r (s ∷ rs) ps other =
    ap (put_front (key, r)) (front_is key s rs ps other)
    ∙ ap (λ b. cond b ((key, r ∷ s ∷ rs) ∷ rows_of ps) ((key, r ∷ []) ∷ (key, s ∷ rs) ∷ rows_of ps)) (nat_list_eq_equiv.refl key)

under_more : (key : List ℕ) (ranks : List ℕ) (rank : ℕ) (ps : List Ranked) → under key (ranks ++ rank ∷ []) ++ ps ≡ under key ranks ++ (key, rank) ∷ ps
under_more key [] rank ps = refl
under_more key (r ∷ rs) rank ps = ap (λ qs. (key, r) ∷ qs) (under_more key rs rank ps)

-- one rank more is taken from those in front
pub one_taken : {A : Type 0} (pair : A → Ranked) (first next : A) (left rest : List A) (old new : List ℕ) (rank : ℕ) → left ≡ next ∷ rest → bytes_eq (pair first).0 (pair next).0 ≡ true → rank ≡ (pair next).1 → new ≡ old ++ rank ∷ []
    → under (pair first).0 new ++ map pair rest ≡ under (pair first).0 old ++ map pair left
one_taken pair first next left rest old new rank cut same rank_is pushed =
    ap (λ (rs : List ℕ). under (pair first).0 rs ++ map pair rest) pushed
    ∙ under_more (pair first).0 old rank (map pair rest)
    ∙ (λ i. under (pair first).0 old ++ (same_bytes (pair first).0 (pair next).0 same i, rank_is i) ∷ map pair rest)
    ∙ ap (λ xs. under (pair first).0 old ++ map pair xs) (sym cut)

-- the line of a key with all its ranks, and the rows behind it
pub row_is : (first : Ranked) (ps rest : List Ranked) (ranks : List ℕ) → under first.0 ranks ++ rest ≡ first ∷ ps → BeginsOtherwise first.0 rest → rows_text (first ∷ ps) ≡ ended (key_line (first.0, ranks)) ++ rows_text rest
row_is first ps rest [] parts other = absurd (let bad : true ≡ false = sym (nat_list_eq_equiv.refl first.0) ∙ subst (BeginsOtherwise first.0) parts other in cc)
row_is first ps rest (r ∷ rs) parts other = ap rows_text (sym parts) ∙ ap (flat_map (λ row. ended (key_line row))) (front_is first.0 r rs rest other)

pub first_row_is : (first : Ranked) (ps rest : List Ranked) (ranks : List ℕ) → under first.0 ranks ++ rest ≡ first ∷ ps → BeginsOtherwise first.0 rest → ended (key_line (first.0, ranks)) ≡ first_row_text (first ∷ ps)
first_row_is first ps rest [] parts other = absurd (let bad : true ≡ false = sym (nat_list_eq_equiv.refl first.0) ∙ subst (BeginsOtherwise first.0) parts other in cc)
first_row_is first ps rest (r ∷ rs) parts other = sym (ap line_of_first (front_is first.0 r rs rest other)) ∙ ap first_row_text parts

-- ---- keys that stand behind another

abbrev Above : List ℕ → List Ranked → Type 0
Above key ps = AllByRecursion (λ q. slice_cmp nat_cmp key q.0 ≡ Less) ps

all_above : (key : List ℕ) (q : Ranked) → slice_cmp nat_cmp key q.0 ≡ Less → (ps : List Ranked) → AllByRecursion (λ r. ranked_cmp q r ≡ Less) ps → Above key ps
all_above key q less [] h = tt
all_above key q less (r ∷ rs) h = (later_less key q r less h.0, all_above key q less rs h.1)

differs : (a b : List ℕ) → slice_cmp nat_cmp a b ≡ Less → bytes_eq b a ≡ false
differs a b less = nat_list_eq_equiv.symm b a ∙ sym (is_eq-slice_cmp a b) ∙ ap is_eq less

none_at : (key : List ℕ) (ps : List Ranked) → Above key ps → ranks_at key ps ≡ []
none_at key [] h = refl
none_at key (p ∷ ps) h = ap (λ b. cond b (p.1 ∷ ranks_at key ps) (ranks_at key ps)) (differs key p.0 h.0) ∙ none_at key ps h.1

front_above : (key : List ℕ) (p : Ranked) (rows : List Row) → slice_cmp nat_cmp key p.0 ≡ Less → below_all (slice_cmp nat_cmp) key rows ≡ true → below_all (slice_cmp nat_cmp) key (put_front p rows) ≡ true
front_above key p [] less h = ap (λ o. is_lt o && true) less
front_above key p (row ∷ rows) less h = by (bytes_eq p.0 row.0)
  where
    by : (b : Bool) → below_all (slice_cmp nat_cmp) key (cond b ((row.0, p.1 ∷ row.1) ∷ rows) ((p.0, p.1 ∷ []) ∷ row ∷ rows)) ≡ true
    by true = h
    by false = ap (λ o. is_lt o && below_all (slice_cmp nat_cmp) key (row ∷ rows)) less ∙ h

rows_above : (key : List ℕ) (ps : List Ranked) → Above key ps → below_all (slice_cmp nat_cmp) key (rows_of ps) ≡ true
rows_above key [] h = refl
rows_above key (p ∷ ps) h = front_above key p (rows_of ps) h.0 (rows_above key ps h.1)

-- ---- all rows

-- they are in order, and each key has its ranks
pub record AreFor (ps : List Ranked) (rows : List Row) : Type 0 where
  pub sorted : is_sorted (slice_cmp nat_cmp) rows ≡ true
  pub found : (key : List ℕ) → find (slice_cmp nat_cmp) key rows ≡ some_of (ranks_at key ps)

found_first : (row : Row) (rows : List Row) (key : List ℕ) → find (slice_cmp nat_cmp) key (row ∷ rows) ≡ cond (bytes_eq row.0 key) (Some row.1) (find (slice_cmp nat_cmp) key rows)
found_first row rows key = ap (λ b. cond b (Some row.1) (find (slice_cmp nat_cmp) key rows)) (is_eq-slice_cmp key row.0 ∙ nat_list_eq_equiv.symm key row.0)

only : (b : Bool) (r : ℕ) → cond b (Some (r ∷ [])) None ≡ some_of (cond b (r ∷ []) [])
only true r = refl
only false r = refl

grown : (b : Bool) (r : ℕ) (had xs : List ℕ) (o : Option (List ℕ)) → cond b (Some had) o ≡ some_of xs → cond b (Some (r ∷ had)) o ≡ some_of (cond b (r ∷ xs) xs)
grown true r had [] o h = cc
grown true r had (x ∷ xs) o h = let same : had ≡ x ∷ xs = cc in ap (λ (rs : List ℕ). Some (r ∷ rs)) same
grown false r had xs o h = h

step : (p q : Ranked) (ps : List Ranked) (rows : List Row) → HeadIs q.0 rows → AllByRecursion (λ r. ranked_cmp p r ≡ Less) (q ∷ ps) → AllByRecursion (λ r. ranked_cmp q r ≡ Less) ps
    → ((key : List ℕ) → Above key (q ∷ ps) → below_all (slice_cmp nat_cmp) key rows ≡ true) → AreFor (q ∷ ps) rows → AreFor (p ∷ q ∷ ps) (put_front p rows)
step p q ps [] head less later above f = absurd head
step p q ps (row ∷ rows) head less later above f = record { sorted = sorted_by (bytes_eq p.0 row.0) refl; found = λ key. found_by key (bytes_eq p.0 row.0) refl }
  where
    apart_above : bytes_eq p.0 row.0 ≡ false → Above p.0 (q ∷ ps)
    apart_above apart = let first = first_less p q less.0 (ap (bytes_eq p.0) (sym head) ∙ apart) in (first, all_above p.0 q first ps later)

    sorted_by : (b : Bool) → bytes_eq p.0 row.0 ≡ b → is_sorted (slice_cmp nat_cmp) (cond b ((row.0, p.1 ∷ row.1) ∷ rows) ((p.0, p.1 ∷ []) ∷ row ∷ rows)) ≡ true
    sorted_by true same = f.sorted
    sorted_by false apart = ap (λ b. b && is_sorted (slice_cmp nat_cmp) (row ∷ rows)) (above p.0 (apart_above apart)) ∙ f.sorted

    new : bytes_eq p.0 row.0 ≡ false → (key : List ℕ) (b : Bool) → bytes_eq p.0 key ≡ b → cond b (Some (p.1 ∷ [])) (find (slice_cmp nat_cmp) key (row ∷ rows)) ≡ some_of (cond b (p.1 ∷ ranks_at key (q ∷ ps)) (ranks_at key (q ∷ ps)))
    new apart key true tie = ap (λ (rs : List ℕ). Some (p.1 ∷ rs)) (sym (ap (λ (k : List ℕ). ranks_at k (q ∷ ps)) (sym (same_bytes p.0 key tie)) ∙ none_at p.0 (q ∷ ps) (apart_above apart)))
    new apart key false tie = f.found key

    found_by : (key : List ℕ) (b : Bool) → bytes_eq p.0 row.0 ≡ b → find (slice_cmp nat_cmp) key (cond b ((row.0, p.1 ∷ row.1) ∷ rows) ((p.0, p.1 ∷ []) ∷ row ∷ rows)) ≡ some_of (ranks_at key (p ∷ q ∷ ps))
    found_by key true same =
        found_first (row.0, p.1 ∷ row.1) rows key
        ∙ grown (bytes_eq row.0 key) p.1 row.1 (ranks_at key (q ∷ ps)) (find (slice_cmp nat_cmp) key rows) (sym (found_first row rows key) ∙ f.found key)
        ∙ ap (λ (k : List ℕ). some_of (cond (bytes_eq k key) (p.1 ∷ ranks_at key (q ∷ ps)) (ranks_at key (q ∷ ps)))) (sym (same_bytes p.0 row.0 same))
    found_by key false apart = found_first (p.0, p.1 ∷ []) (row ∷ rows) key ∙ new apart key (bytes_eq p.0 key) refl

pub rows_are : (ps : List Ranked) → IsStrictlySortedBy ranked_cmp ps → AreFor ps (rows_of ps)
unfolding IsStrictlySortedBy
rows_are [] h = record { sorted = refl; found = λ key. refl }
rows_are (p ∷ []) h = record { sorted = refl; found = λ key. found_first (p.0, p.1 ∷ []) [] key ∙ only (bytes_eq p.0 key) p.1 }
rows_are (p ∷ q ∷ ps) h = step p q ps (rows_of (q ∷ ps)) (head_is q (rows_of ps)) h.0 h.1.0 (λ key above. rows_above key (q ∷ ps) above) (rows_are (q ∷ ps) h.1)

-- The ranks of the entries, kept at their numbers one after the other.
use Rattle.std.proofs.Common.{◌≡◌, ℕ, zero, suc, ◌+◌, ◌≤◌, Bool, true, false, cond, ◌||◌, nat_eq, List, [], ◌∷◌, ◌++◌, filter, map, length, Some, refl, sym, ap, subst, ◌∙◌, arith, append_assoc}
use Rattle.std.specs.Prelude.{unwrap_or, is_some}
use Rattle.std.specs.List.{AllByRecursion}
use Rattle.std.specs.Ordering.{is_lt}
use Rattle.std.specs.Cmp.{IsTotalOrder, nat_eq_equiv}
use Rattle.std.specs.FinMap as finite
use Rattle.std.specs.FinMap.Entries.{is_sorted, below_all}
use Rattle.std.proofs.lemmas.Bool.{and_parts, eqb-true, eq-eqb}
use Rattle.std.proofs.lemmas.Cmp.{tied_itself}
use Rattle.std.proofs.lemmas.List.{append-nil, length-map, length-append}
use Rattle.std.proofs.lemmas.List.Folds.{list_any-append}
use Rattle.id_sets.specs.Lists.{holds}
use Rattle.paths.specs.Paths.{Path, path_cmp, begins}
use Rattle.entries.specs.Entries.{EntryContent}
use Rattle.tree.specs.Directories.{IsDirectory}
use Rattle.tree.specs.Trees.{Tree, Placed, unnumbered, seen_entries, number_at, IsNumbered}
use Rattle.tree.proofs.Ancestors.{some_at}
use Rattle.directory.specs.inner.IndexRows.{no_rank, rank_at, AreRanked, numbers_in_order}
use Rattle.directory.specs.inner.Ordered.{IsRankTable}
use Rattle.databases.proofs.DumpText.{all_begin}
use Rattle.databases.proofs.LoadLaw.{all_there}
use Rattle.directory.proofs.RankLists.{is_true}

-- ---- numbers that differ

-- none of these numbers stands twice
abbrev pub AreApart : List ℕ → Type 0
AreApart [] = Unit {0}
AreApart (n ∷ ns) = (holds ns n ≡ false) × AreApart ns

neither : (a b : Bool) → (a || b) ≡ false → (a ≡ false) × (b ≡ false)
neither true b h = cc
neither false b h = (refl, h)

pub new_behind : (done : List ℕ) (n : ℕ) (rest : List ℕ) → AreApart (done ++ n ∷ rest) → holds done n ≡ false
new_behind [] n rest h = refl
new_behind (m ∷ ms) n rest h = by (nat_eq m n) refl (new_behind ms n rest h.1)
  where
    later : (nat_eq n m || holds rest m) ≡ false
    later = (neither (holds ms m) (holds (n ∷ rest) m) (sym (list_any-append (λ y. nat_eq y m) ms (n ∷ rest)) ∙ h.0)).1

    by : (b : Bool) → nat_eq m n ≡ b → holds ms n ≡ false → (b || holds ms n) ≡ false
    by true same others = absurd (let is : nat_eq n m ≡ true = eq-eqb n m (sym (eqb-true m n same)) in let not : nat_eq n m ≡ false = (neither (nat_eq n m) (holds rest m) later).0 in let bad : true ≡ false = sym is ∙ not in cc)
    by false apart others = others

-- ---- the numbers of a tree's entries

pub there_number : (t : Tree) (numbered : IsNumbered t.entries t.numbers) (p : Path) (e : EntryContent) → finite.get t.entries p ≡ Some e → finite.get t.numbers p ≡ Some (number_at t p)
there_number t numbered p e at =
    let o = some_at (finite.get t.numbers p) (numbered.there p ∙ ap is_some at) in
    o.1 ∙ ap (λ x. Some (unwrap_or x t.next_number)) (sym o.1)

module _ (t : Tree) (total : IsTotalOrder path_cmp) (numbered : IsNumbered t.entries t.numbers) where
  differs : (p : Path) (e : EntryContent) → finite.get t.entries p ≡ Some e → (es : List (Path × EntryContent)) → below_all path_cmp p es ≡ true → AllByRecursion (λ f. finite.get t.entries f.0 ≡ Some f.1) es
      → holds (map (λ f. number_at t f.0) es) (number_at t p) ≡ false
  differs p e at [] below all = refl
  differs p e at (f ∷ fs) below all = by (nat_eq (number_at t f.0) (number_at t p)) refl (differs p e at fs (and_parts (is_lt (path_cmp p f.0)) (below_all path_cmp p fs) below).1 all.1)
    where
      parts : (is_lt (path_cmp p f.0) ≡ true) × (below_all path_cmp p fs ≡ true)
      parts = and_parts (is_lt (path_cmp p f.0)) (below_all path_cmp p fs) below

      by : (b : Bool) → nat_eq (number_at t f.0) (number_at t p) ≡ b → holds (map (λ f. number_at t f.0) fs) (number_at t p) ≡ false → (b || holds (map (λ f. number_at t f.0) fs) (number_at t p)) ≡ false
      by true same others =
          let place : p ≡ f.0 = numbered.apart p f.0 (number_at t p) (there_number t numbered p e at) (there_number t numbered f.0 f.1 all.0 ∙ ap (λ (n : ℕ). Some n) (eqb-true (number_at t f.0) (number_at t p) same)) in
          let bad : false ≡ true = ap is_lt (sym (tied_itself total p)) ∙ ap (λ (q : Path). is_lt (path_cmp p q)) place ∙ parts.0 in
          absurd cc
      by false apart others = others

  all_differ : (es : List (Path × EntryContent)) → is_sorted path_cmp es ≡ true → AllByRecursion (λ f. finite.get t.entries f.0 ≡ Some f.1) es → AreApart (map (λ f. number_at t f.0) es)
  all_differ [] sorted all = tt
  all_differ (e ∷ es) sorted all =
      let parts = and_parts (below_all path_cmp e.0 es) (is_sorted path_cmp es) sorted in
      (differs e.0 e.1 all.0 es parts.0 all.1, all_differ es parts.1 all.1)

  pub numbers_differ : IsDirectory t.conf t.entries → AreApart (numbers_in_order t)
  numbers_differ directory = all_differ (finite.entries t.entries) (is_true _ (finite.entries_sorted t.entries)) (all_there total t.conf t.entries directory)

-- ---- one rank after the other

kept_other : (old new : List ℕ) (n r : ℕ) (ns : List ℕ) (at : ℕ) → ((m : ℕ) → rank_at new m ≡ cond (nat_eq m n) r (rank_at old m)) → holds ns n ≡ false → AreRanked old at ns → AreRanked new at ns
kept_other old new n r [] at put apart h = tt
kept_other old new n r (m ∷ ms) at put apart h =
    let parts = neither (nat_eq m n) (holds ms n) apart in
    (put m ∙ ap (λ b. cond b r (rank_at old m)) parts.0 ∙ h.0, kept_other old new n r ms (at + 1) put parts.1 h.1)

ranked_push : (ranks : List ℕ) (n : ℕ) (ns : List ℕ) (at r : ℕ) → AreRanked ranks at ns → rank_at ranks n ≡ r → r ≡ at + length ns → AreRanked ranks at (ns ++ n ∷ [])
ranked_push ranks n [] at r h is count = (is ∙ (let same : r ≡ at = omega (arith, count) in same), tt)
ranked_push ranks n (m ∷ ms) at r h is count = (h.0, ranked_push ranks n ms (at + 1) r h.1 is (omega (arith, count)))

-- the entries up to here have their ranks
pub record RanksSoFar (t : Tree) (ranks : List ℕ) (rank : ℕ) (left : List Placed) : Type 0 where
  pub done : List ℕ
  pub parts : done ++ map (λ e. e.number) left ≡ numbers_in_order t
  pub ranked : AreRanked ranks 0 done
  pub others : (n : ℕ) → holds done n ≡ false → rank_at ranks n ≡ no_rank
  pub count : length done ≡ rank

placed_numbers : (t : Tree) (items : List Placed) → AllByRecursion (λ e. finite.get t.numbers e.path ≡ Some e.number) items → map (λ e. e.number) items ≡ map (λ e. number_at t e.0) (seen_entries (map unnumbered items))
placed_numbers t [] all = refl
placed_numbers t (e ∷ es) all = λ i. ap (λ o. unwrap_or o t.next_number) (sym all.0) i ∷ placed_numbers t es all.1 i

empty_table : (n : ℕ) → rank_at [] n ≡ no_rank
empty_table zero = refl
empty_table (suc n) = refl

pub no_rank_yet : (t : Tree) (ranks : List ℕ) (items : List Placed) (root : Path) → ranks ≡ [] → root ≡ []
    → seen_entries (map unnumbered items) ≡ filter (λ e. begins root e.0) (finite.entries t.entries) → AllByRecursion (λ e. finite.get t.numbers e.path ≡ Some e.number) items
    → RanksSoFar t ranks 0 items
no_rank_yet t ranks items root none top seen numbers = record {
  done = [];
  parts = placed_numbers t items numbers
      ∙ ap (λ (es : List (Path × EntryContent)). map (λ e. number_at t e.0) es) (seen ∙ ap (λ (p : Path). filter (λ e. begins p e.0) (finite.entries t.entries)) top ∙ all_begin (finite.entries t.entries));
  ranked = tt;
  others = λ n _. ap (λ (rs : List ℕ). rank_at rs n) none ∙ empty_table n;
  count = refl;
}

pub one_rank_more : (t : Tree) (old new : List ℕ) (rank : ℕ) (left rest : List Placed) (e : Placed) → AreApart (numbers_in_order t)
    → left ≡ e ∷ rest → ((m : ℕ) → rank_at new m ≡ cond (nat_eq m e.number) rank (rank_at old m)) → RanksSoFar t old rank left → RanksSoFar t new (rank + 1) rest
one_rank_more t old new rank left rest e apart cut put h =
    let whole : h.done ++ e.number ∷ map (λ e. e.number) rest ≡ numbers_in_order t = ap (λ (es : List Placed). h.done ++ map (λ e. e.number) es) (sym cut) ∙ h.parts in
    record {
      done = h.done ++ e.number ∷ [];
      parts = append_assoc h.done (e.number ∷ []) (map (λ e. e.number) rest) ∙ whole;
      ranked = ranked_push new e.number h.done 0 rank
          (kept_other old new e.number rank h.done 0 put (new_behind h.done e.number (map (λ e. e.number) rest) (subst AreApart (sym whole) apart)) h.ranked)
          (put e.number ∙ ap (λ b. cond b rank (rank_at old e.number)) (eq-eqb e.number e.number refl))
          (let count = h.count in omega (arith, count));
      others = λ m away.
          let parts = neither (holds h.done m) (nat_eq e.number m || false) (sym (list_any-append (λ y. nat_eq y m) h.done (e.number ∷ [])) ∙ away) in
          let differs : nat_eq m e.number ≡ false = nat_eq_equiv.symm m e.number ∙ (neither (nat_eq e.number m) false parts.1).0 in
          put m ∙ ap (λ b. cond b rank (rank_at old m)) differs ∙ h.others m parts.0;
      count = length-append h.done (e.number ∷ []) ∙ (let count = h.count in omega (arith, count));
    }

-- there are no more than 4,294,967,295 entries
pub few_ranks : (t : Tree) (ranks : List ℕ) (rank : ℕ) (left rest : List Placed) (e : Placed) → IsDirectory t.conf t.entries → left ≡ e ∷ rest → RanksSoFar t ranks rank left → rank + 1 ≤ 4294967295
few_ranks t ranks rank left rest e directory cut h =
    let whole : h.done ++ e.number ∷ map (λ e. e.number) rest ≡ numbers_in_order t = ap (λ (es : List Placed). h.done ++ map (λ e. e.number) es) (sym cut) ∙ h.parts in
    let length_is : length (h.done ++ e.number ∷ map (λ e. e.number) rest) ≡ finite.len t.entries = ap length whole ∙ length-map (finite.entries t.entries) (λ e. number_at t e.0) ∙ sym (finite.len-entries t.entries) in
    let parts : length (h.done ++ e.number ∷ map (λ e. e.number) rest) ≡ length h.done + length (e.number ∷ map (λ e. e.number) rest) = length-append h.done (e.number ∷ map (λ e. e.number) rest) in
    let few = directory.few in
    let count = h.count in
    omega (arith, length_is, parts, few, count)

pub all_ranked : (t : Tree) (ranks : List ℕ) (rank : ℕ) (left : List Placed) → IsDirectory t.conf t.entries → left ≡ [] → RanksSoFar t ranks rank left → IsRankTable t ranks
all_ranked t ranks rank left directory none h =
    let whole : h.done ≡ numbers_in_order t = sym (append-nil h.done) ∙ ap (λ (es : List Placed). h.done ++ map (λ e. e.number) es) (sym none) ∙ h.parts in
    record {
      ranked = subst (AreRanked ranks 0) whole h.ranked;
      others = λ n away. h.others n (ap (λ (ns : List ℕ). holds ns n) whole ∙ away);
      few = directory.few;
    }

-- Sets that change by each number of a list in turn.
use Rattle.std.proofs.Common.{◌≡◌, ℕ, ◌+◌, ◌<◌, ◌≤◌, Bool, true, false, not, ◌||◌, ◌&&◌, List, [], ◌∷◌, length, get_or, take, refl, sym, ap, ◌∙◌, nat_eq}
use Rattle.std.proofs.lemmas.List.{take_more, take_all}
use Rattle.std.proofs.lemmas.List.Folds.{list_any-append}
use Rattle.std.specs.Ordering.{nat_cmp}
use Rattle.std.specs.Cmp.{nat_cmp_total, unsigned_tied, nat_eq_equiv}
use Rattle.std.specs.FinSet as set
use Rattle.std.specs.FinSet.{from_list, nat_cmp-IsAntisymmetric, same_set, contains-insert, contains-remove, contains-union, contains-difference, contains-intersection, contains-empty}
use Rattle.id_sets.specs.Lists.{holds}
use Rattle.id_sets.proofs.Ascending.{holds_is}
use Rattle.id_sets.proofs.Logic.{and_swap}
use Rattle.dense_sets.proofs.Logic.{or_swap}

or_end : (a b : Bool) → (a || (b || false)) ≡ (b || a)
or_end true true = refl
or_end true false = refl
or_end false true = refl
or_end false false = refl

-- one more of the list that is gone through
pub holds_next : (xs : List ℕ) (i q : ℕ) → i < length xs → holds (take (i + 1) xs) q ≡ (nat_eq q (get_or xs i 0) || holds (take i xs) q)
holds_next xs i q h =
    ap (λ ys. holds ys q) (take_more xs i 0 h)
    ∙ list_any-append (λ y. nat_eq y q) (take i xs) (get_or xs i 0 ∷ [])
    ∙ or_end (holds (take i xs) q) (nat_eq (get_or xs i 0) q)
    ∙ ap (λ b. b || holds (take i xs) q) (nat_eq_equiv.symm (get_or xs i 0) q)

pub inserted : (s : set.FinSet nat_cmp) (x q : ℕ) → set.contains (set.insert s x) q ≡ (nat_eq q x || set.contains s q)
inserted s x q = contains-insert nat_cmp_total s x q ∙ rw (unsigned_tied q x) refl

pub removed : (s : set.FinSet nat_cmp) (x q : ℕ) → set.contains (set.remove s x) q ≡ (not (nat_eq q x) && set.contains s q)
removed s x q = contains-remove nat_cmp_total s x q ∙ rw (unsigned_tied q x) refl

or_in : (a b c : Bool) → (a || (b || c)) ≡ (b || (a || c))
or_in true true c = refl
or_in true false c = refl
or_in false b c = refl

and_in : (a b c : Bool) → (not a && (b && not c)) ≡ (b && not (a || c))
and_in true true c = refl
and_in true false c = refl
and_in false b c = refl

pub insert_step : (s start : set.FinSet nat_cmp) (xs : List ℕ) (i q : ℕ) → i < length xs → set.contains s q ≡ (set.contains start q || holds (take i xs) q) → set.contains (set.insert s (get_or xs i 0)) q ≡ (set.contains start q || holds (take (i + 1) xs) q)
insert_step s start xs i q h e = inserted s (get_or xs i 0) q ∙ rw (e, holds_next xs i q h) (or_in (nat_eq q (get_or xs i 0)) (set.contains start q) (holds (take i xs) q))

pub remove_step : (s start : set.FinSet nat_cmp) (xs : List ℕ) (i q : ℕ) → i < length xs → set.contains s q ≡ (set.contains start q && not (holds (take i xs) q)) → set.contains (set.remove s (get_or xs i 0)) q ≡ (set.contains start q && not (holds (take (i + 1) xs) q))
remove_step s start xs i q h e = removed s (get_or xs i 0) q ∙ rw (e, holds_next xs i q h) (and_in (nat_eq q (get_or xs i 0)) (set.contains start q) (holds (take i xs) q))

-- what is reached at the list's end
module _ (s start list : set.FinSet nat_cmp) (xs : List ℕ) (i : ℕ) (past : length xs ≤ i) (is : from_list {R = nat_cmp} xs ≡ list) where
  pub all_held : (q : ℕ) → holds (take i xs) q ≡ set.contains list q
  all_held q = ap (λ ys. holds ys q) (take_all i xs past) ∙ holds_is xs list is q

  pub insert_all : ((q : ℕ) → set.contains s q ≡ (set.contains start q || holds (take i xs) q)) → s ≡ set.union start list
  insert_all e = same_set nat_cmp_total nat_cmp-IsAntisymmetric _ _ (λ q. e q ∙ ap (λ b. set.contains start q || b) (all_held q) ∙ sym (contains-union nat_cmp_total start list q))

  pub remove_all : ((q : ℕ) → set.contains s q ≡ (set.contains start q && not (holds (take i xs) q))) → s ≡ set.difference start list
  remove_all e = same_set nat_cmp_total nat_cmp-IsAntisymmetric _ _ (λ q. e q ∙ ap (λ b. set.contains start q && not b) (all_held q) ∙ sym (contains-difference nat_cmp_total start list q))

pub intersection_swap : (s t : set.FinSet nat_cmp) → set.intersection s t ≡ set.intersection t s
intersection_swap s t = same_set nat_cmp_total nat_cmp-IsAntisymmetric _ _ (λ q. contains-intersection nat_cmp_total s t q ∙ and_swap (set.contains s q) (set.contains t q) ∙ sym (contains-intersection nat_cmp_total t s q))

pub union_swap : (s t : set.FinSet nat_cmp) → set.union s t ≡ set.union t s
union_swap s t = same_set nat_cmp_total nat_cmp-IsAntisymmetric _ _ (λ q. contains-union nat_cmp_total s t q ∙ or_swap (set.contains s q) (set.contains t q) ∙ sym (contains-union nat_cmp_total t s q))

pub union_empty : (s : set.FinSet nat_cmp) → set.union set.empty s ≡ s
union_empty s = same_set nat_cmp_total nat_cmp-IsAntisymmetric _ _ (λ q. contains-union nat_cmp_total set.empty s q ∙ ap (λ b. b || set.contains s q) (contains-empty nat_cmp q))

-- All stanzas are there in turn, each as often as before.
use Rattle.std.proofs.Common.{◌≡◌, ℕ, ◌+◌, ◌<◌, List, [], ◌∷◌, ◌++◌, map, get_or, refl, sym, ap, subst, ◌∙◌, append_assoc, append-nil, arith}
use Rattle.std.specs.BTreeSet.{insert_key}
use Rattle.std.specs.Cmp.{nat_cmp_is}
use Rattle.std.specs.List.{flat_map, AllByRecursion}
use Rattle.std.specs.List.Sorted.{IsPermutation}
use Rattle.std.specs.Ordering.{nat_cmp, match_ordering, ordering_then}
use Rattle.std.specs.declared.cmp.Ordering.{Ordering}
use Rattle.std.specs.declared.cmp.Ordering.TheVariants.{Less, Equal, Greater}
use Rattle.std.proofs.lemmas.List.Concat.{flat_map_single, flat_map-append}
use Rattle.std.proofs.lemmas.List.Sorted.{IsPermutation-refl, IsPermutation-trans, IsPermutation-append_comm, IsPermutation-append_left, IsPermutation-append_right}
use Rattle.sorting.specs.Turns.{turn_of, turns_from, turn_cmp, with_turns, turns}
use Rattle.sorting.specs.Sorted.{names_of, sorted_stanzas}
use Rattle.sorting.specs.declared.turns.Turn.{Turn}
use Rattle.sorting.proofs.InTurn.{Names}
use Rattle.sorting.proofs.Kept.{each_itself}

higher : (n : ℕ) (ts : List Turn) → AllByRecursion (λ s. s.number < n) ts → AllByRecursion (λ s. s.number < n + 1) ts
higher n [] all = tt
higher n (t ∷ ts) all = let h = all.0 in (omega (arith, h), higher n ts all.1)

inserted : (n : ℕ) (k : Turn) (ks : List Turn) → k.number < n → AllByRecursion (λ s. s.number < n) ks → AllByRecursion (λ s. s.number < n) (insert_key turn_cmp ks k)
inserted n k [] lt all = (lt, tt)
inserted n k (x ∷ xs) lt all = by (turn_cmp k x) (inserted n k xs lt all.1)
  where
    by : (o : Ordering) → AllByRecursion (λ s. s.number < n) (insert_key turn_cmp xs k) → AllByRecursion (λ s. s.number < n) (match_ordering o (k ∷ x ∷ xs) (x ∷ xs) (x ∷ insert_key turn_cmp xs k))
    by Less h = (lt, all)
    by Equal h = all
    by Greater h = (all.0, h)

-- what lists of turns come to, each turn by what it stands for
module _ {X : Type 0} (of_turn : Turn → List X) where
  abbrev SameAll : List Turn → List Turn → Type 0
  SameAll xs ys = IsPermutation (flat_map of_turn xs) (flat_map of_turn ys)

  same_trans : (xs ys zs : List Turn) → SameAll xs ys → SameAll ys zs → SameAll xs zs
  same_trans xs ys zs g h = IsPermutation-trans (flat_map of_turn xs) (flat_map of_turn ys) (flat_map of_turn zs) g h

  same_refl : (xs : List Turn) → SameAll xs xs
  same_refl xs = IsPermutation-refl (flat_map of_turn xs)

  by_parts : (xs us ys vs : List Turn) → IsPermutation (flat_map of_turn xs ++ flat_map of_turn us) (flat_map of_turn ys ++ flat_map of_turn vs) → SameAll (xs ++ us) (ys ++ vs)
  by_parts xs us ys vs h =
      subst (λ (l : List X). IsPermutation l (flat_map of_turn (ys ++ vs))) (sym (flat_map-append of_turn xs us))
      (subst (λ (l : List X). IsPermutation (flat_map of_turn xs ++ flat_map of_turn us) l) (sym (flat_map-append of_turn ys vs)) h)

  same_left : (zs xs ys : List Turn) → SameAll xs ys → SameAll (xs ++ zs) (ys ++ zs)
  same_left zs xs ys h = by_parts xs zs ys zs (IsPermutation-append_left (flat_map of_turn zs) (flat_map of_turn xs) (flat_map of_turn ys) h)

  same_right : (zs xs ys : List Turn) → SameAll xs ys → SameAll (zs ++ xs) (zs ++ ys)
  same_right zs xs ys h = by_parts zs xs zs ys (IsPermutation-append_right (flat_map of_turn zs) (flat_map of_turn xs) (flat_map of_turn ys) h)

  same_comm : (xs ys : List Turn) → SameAll (xs ++ ys) (ys ++ xs)
  same_comm xs ys = by_parts xs ys ys xs (IsPermutation-append_comm (flat_map of_turn xs) (flat_map of_turn ys))

  put_in : (k : Turn) (ks : List Turn) → AllByRecursion (λ s. s.number < k.number) ks → SameAll (k ∷ ks) (insert_key turn_cmp ks k)
  put_in k [] all = same_refl (k ∷ [])
  put_in k (x ∷ xs) all = by (turn_cmp k x) refl (put_in k xs all.1)
    where
      last : (o : Ordering) (r : Ordering) → ordering_then o r ≡ Equal → r ≡ Equal
      last Less r e = cc
      last Equal r e = e
      last Greater r e = cc

      by : (o : Ordering) → turn_cmp k x ≡ o → SameAll (k ∷ xs) (insert_key turn_cmp xs k)
          → SameAll (k ∷ x ∷ xs) (match_ordering o (k ∷ x ∷ xs) (x ∷ xs) (x ∷ insert_key turn_cmp xs k))
      by Less e h = same_refl (k ∷ x ∷ xs)
      by Equal e h =
          let same : nat_cmp k.number x.number ≡ Equal = last (nat_cmp k.depth x.depth) _ (last (nat_cmp k.position x.position) _ e) in
          let no : Greater ≡ Equal = nat_cmp_is k.number x.number Greater all.0 ∙ same in cc
      by Greater e h =
          same_trans (k ∷ x ∷ xs) (x ∷ k ∷ xs) (x ∷ insert_key turn_cmp xs k)
          (same_left xs (k ∷ x ∷ []) (x ∷ k ∷ []) (same_comm (k ∷ []) (x ∷ [])))
          (same_right (x ∷ []) (k ∷ xs) (insert_key turn_cmp xs k) h)

  all_put : (names : Names) (n : ℕ) (more : Names) (so_far : List Turn) → AllByRecursion (λ s. s.number < n) so_far
      → SameAll (so_far ++ turns_from names n more) (with_turns so_far (turns_from names n more))
  unfolding with_turns turns_from
  all_put names n [] so_far low = subst (SameAll (so_far ++ [])) (append-nil so_far) (same_refl (so_far ++ []))
  all_put names n (name ∷ more) so_far low =
      let t = turn_of names n name in
      let rest = turns_from names (n + 1) more in
      same_trans (so_far ++ t ∷ rest) (insert_key turn_cmp so_far t ++ rest) (with_turns (insert_key turn_cmp so_far t) rest)
      (subst (λ (l : List Turn). SameAll l (insert_key turn_cmp so_far t ++ rest)) (append_assoc so_far (t ∷ []) rest)
      (same_left rest (so_far ++ t ∷ []) (insert_key turn_cmp so_far t)
      (same_trans (so_far ++ t ∷ []) (t ∷ so_far) (insert_key turn_cmp so_far t) (same_comm so_far (t ∷ [])) (put_in t so_far low))))
      (all_put names (n + 1) more (insert_key turn_cmp so_far t) (inserted (n + 1) t so_far (omega arith) (higher n so_far low)))

  turns_same : (names : Names) → SameAll (turns_from names 0 names) (turns names)
  unfolding turns
  turns_same names = all_put names 0 names [] tt

pub all_there : (ps : List (List ℕ)) → IsPermutation ps (sorted_stanzas ps)
all_there ps =
    subst (λ (l : List (List ℕ)). IsPermutation l (sorted_stanzas ps)) (each_itself (names_of ps) ps [] ps 0 refl refl)
    (subst (λ (l : List (List ℕ)). IsPermutation (map of_stanza (turns_from (names_of ps) 0 (names_of ps))) l) (flat_map_single of_stanza (turns (names_of ps)))
    (subst (λ (l : List (List ℕ)). IsPermutation l (flat_map (λ t. of_stanza t ∷ []) (turns (names_of ps)))) (flat_map_single of_stanza (turns_from (names_of ps) 0 (names_of ps)))
    (turns_same (λ t. of_stanza t ∷ []) (names_of ps))))
  where
    of_stanza : Turn → List ℕ
    of_stanza t = get_or ps t.number []

-- the same of what stanzas come to
module _ {X : Type 0} (of_stanza : List ℕ → List X) where
  map_parts : (at : Turn → List ℕ) (ts : List Turn) → flat_map (λ t. of_stanza (at t)) ts ≡ flat_map of_stanza (map at ts)
  map_parts at [] = refl
  map_parts at (t ∷ ts) = ap (λ (l : List X). of_stanza (at t) ++ l) (map_parts at ts)

  pub all_parts_there : (ps : List (List ℕ)) → IsPermutation (flat_map of_stanza ps) (flat_map of_stanza (sorted_stanzas ps))
  all_parts_there ps =
      subst (λ (l : List (List ℕ)). IsPermutation (flat_map of_stanza l) (flat_map of_stanza (sorted_stanzas ps))) (each_itself (names_of ps) ps [] ps 0 refl refl)
      (subst (λ (l : List X). IsPermutation (flat_map of_stanza (map (λ (t : Turn). get_or ps t.number []) (turns_from (names_of ps) 0 (names_of ps)))) l) (map_parts (λ t. get_or ps t.number []) (turns (names_of ps)))
      (subst (λ (l : List X). IsPermutation l (flat_map (λ (t : Turn). of_stanza (get_or ps t.number [])) (turns (names_of ps)))) (map_parts (λ t. get_or ps t.number []) (turns_from (names_of ps) 0 (names_of ps)))
      (turns_same (λ t. of_stanza (get_or ps t.number [])) (names_of ps))))

-- What a change of one cell does to the count of the values and to the chain of the free cells.
use Rattle.std.proofs.Common.{◌≡◌, ◌≢◌, ◌⊎◌, ℕ, zero, suc, ◌+◌, ◌-◌, ◌<◌, List, [], ◌∷◌, ◌++◌, map, length, get_or, set, Option, Some, None, is_some, IsSome, count_by, cond, slice_get, refl, sym, ap, subst, ◌∙◌, inl, inr, arith, length-set, true≢false}
use Rattle.std.proofs.lemmas.List.{map-set, map_push, length-map, length_push, get_or-map, get_or-set_same, get_or-set_other, get_or_past}
use Rattle.std.proofs.lemmas.List.Sums.{sum_by-set, sum_by_push}
use Rattle.std.proofs.lemmas.Option.{slice_get_within, slice_get-get_or, slice_get_read, get_or_from_slice_get}
use Rattle.tree.specs.declared.cells.Cell.{Cell}
use Rattle.tree.specs.declared.cells.Cell.TheVariants.{Free, Taken}
use Rattle.tree.specs.Cells.{cell, IsTaken, IsSet}
use Rattle.tree.specs.inner.Chain.{value_of, IsChain, IsSound}

module _ {T : Type 0} where
  -- ---- the values

  -- to set one cell
  pub set_is : (cells : List (Cell T)) (number : ℕ) (s : Cell T) → number < length cells → IsSet (map value_of cells) (map value_of (set cells number s)) number (value_of s)
  set_is cells number s within =
      let inside : number < length (map value_of cells) = omega (arith, length-map cells value_of) in
      rw (map-set value_of cells number s) (record {
        at = get_or-set_same (map value_of cells) number (value_of s) None inside;
        others = λ other apart. get_or-set_other (map value_of cells) number other (value_of s) None apart;
      })

  taken_within : (values : List (Option T)) (number : ℕ) → IsTaken values number → number < length values
  taken_within values number is = grind (arith, get_or_past)

  -- a number that has a value is that of a taken cell
  pub taken_at : (cells : List (Cell T)) (number : ℕ) → IsTaken (map value_of cells) number → (value : T) × (slice_get cells number ≡ Some (Taken value))
  taken_at cells number is =
      let inside = taken_within (map value_of cells) number is in
      let within : number < length cells = omega (arith, length-map cells value_of) in
      by_cell (get_or cells number (Free 0)) (slice_get-get_or cells number (Free 0) within) (subst IsSome (get_or-map value_of cells number (Free 0) None within) is)
    where
      by_cell : (s : Cell T) → slice_get cells number ≡ Some s → IsSome (value_of s) → (value : T) × (slice_get cells number ≡ Some (Taken value))
      by_cell (Free _) found some = absurd (true≢false (sym some))
      by_cell (Taken value) found some = (value, found)

  -- how many values there are after one cell is set
  pub count_set : (cells : List (Cell T)) (number : ℕ) (old new : Cell T) → slice_get cells number ≡ Some old
      → count_by is_some (map value_of (set cells number new)) + cond (is_some (value_of old)) 1 0 ≡ count_by is_some (map value_of cells) + cond (is_some (value_of new)) 1 0
  count_set cells number old new found =
      let within = slice_get_within cells number old found in
      let read : get_or (map value_of cells) number None ≡ value_of old = get_or-map value_of cells number old None within ∙ ap value_of (get_or_from_slice_get cells number old old found) in
      let counted = sum_by-set (λ o. cond (is_some o) 1 0) (map value_of cells) number (value_of new) None (omega (arith, length-map cells value_of)) in
      rw (map-set value_of cells number new, ← read) counted

  -- ---- the chain

  -- from one number on there is one chain at most
  one_chain : (cells : List (Cell T)) (m n number : ℕ) → IsChain cells m number → IsChain cells n number → m ≡ n
  one_chain cells zero zero number p q = refl
  one_chain cells zero (suc n) number p q = absurd (omega (arith, slice_get_within cells number _ q.1))
  one_chain cells (suc m) zero number p q = absurd (omega (arith, slice_get_within cells number _ p.1))
  one_chain cells (suc m) (suc n) number p q =
      let first = p.1 in
      let second = q.1 in
      let same : q.0 ≡ p.0 = cc in
      ap suc (one_chain cells m n p.0 p.2 (subst (IsChain cells n) same q.2))

  -- to set a cell that isn't in the chain
  chain_set : (cells : List (Cell T)) (number : ℕ) (s : Cell T) (n from : ℕ) → ((m : ℕ) → m < n → IsChain cells (suc m) number → ⊥) → IsChain cells n from → IsChain (set cells number s) n from
  chain_set cells number s zero from off p = p ∙ sym (length-set cells number s)
  chain_set cells number s (suc n) from off p =
      let other : from ≢ number = λ same. off n (omega arith) (subst (IsChain cells (suc n)) same p) in
      let within = slice_get_within cells from _ p.1 in
      let kept : slice_get (set cells number s) from ≡ Some (Free p.0) =
      slice_get-get_or (set cells number s) from s (omega (arith, length-set cells number s))
      ∙ ap Some (get_or-set_other cells number from s s other ∙ get_or_from_slice_get cells from _ s p.1) in
      (p.0, kept, chain_set cells number s n p.0 (λ m below. off m (omega arith)) p.2)

  -- a taken cell isn't in it
  off_chain : (cells : List (Cell T)) (number : ℕ) (value : T) → slice_get cells number ≡ Some (Taken value) → (m : ℕ) → IsChain cells (suc m) number → ⊥
  off_chain cells number value found m p = let listed = p.1 in cc

  -- the next number is the one behind all cells, and then all are taken, or that of a free cell
  next_cases : (cells : List (Cell T)) (taken next : ℕ) → IsSound cells taken next → ((next ≡ length cells) × (taken ≡ length cells)) ⊎ ((after : ℕ) × (slice_get cells next ≡ Some (Free after)))
  next_cases cells taken next sound = by_count sound.free sound.total sound.linked
    where
      by_count : (n : ℕ) → taken + n ≡ length cells → IsChain cells n next → ((next ≡ length cells) × (taken ≡ length cells)) ⊎ ((after : ℕ) × (slice_get cells next ≡ Some (Free after)))
      by_count zero total linked = inl (linked, omega arith)
      by_count (suc n) total linked = inr (linked.0, linked.1)

  pub next_is_free : (cells : List (Cell T)) (taken next : ℕ) → IsSound cells taken next → cell (map value_of cells) next ≡ None
  next_is_free cells taken next sound =
      elim (next_cases cells taken next sound) [
        | inl full ↦ get_or_past (map value_of cells) next None (omega (arith, length-map cells value_of))
        | inr found ↦ get_or-map value_of cells next (Free 0) None (slice_get_within cells next _ found.1) ∙ ap value_of (get_or_from_slice_get cells next _ (Free 0) found.1)
      ]

  pub all_taken : (cells : List (Cell T)) (taken next : ℕ) → IsSound cells taken next → next ≡ length cells → taken ≡ length cells
  all_taken cells taken next sound at_end =
      elim (next_cases cells taken next sound) [
        | inl full ↦ full.1
        | inr found ↦ omega (arith, slice_get_within cells next _ found.1)
      ]

  free_before_end : (cells : List (Cell T)) (taken next : ℕ) → IsSound cells taken next → next ≢ length cells → (after : ℕ) × (slice_get cells next ≡ Some (Free after))
  free_before_end cells taken next sound before = elim (next_cases cells taken next sound) [ inl full ↦ absurd (before full.0) | inr found ↦ found ]

  pub next_within : (cells : List (Cell T)) (taken next : ℕ) → IsSound cells taken next → next ≢ length cells → next < length cells
  next_within cells taken next sound before = slice_get_within cells next _ (free_before_end cells taken next sound before).1

  -- what was read in the next cell stands there
  pub read_at_next : (cells : List (Cell T)) (taken next : ℕ) (s : Cell T) → IsSound cells taken next → next ≢ length cells → s ≡ get_or cells next s → slice_get cells next ≡ Some s
  read_at_next cells taken next s sound before read = slice_get_read cells (length cells) next s refl (next_within cells taken next sound before) read

  pub next_is_not_taken : (cells : List (Cell T)) (taken next : ℕ) (value : T) → IsSound cells taken next → slice_get cells next ≡ Some (Taken value) → ⊥
  next_is_not_taken cells taken next value sound found =
      let free = (free_before_end cells taken next sound (λ e. omega (arith, slice_get_within cells next _ found))).1 in
      cc

  -- ---- each change

  pub pushed : (cells : List (Cell T)) (taken next : ℕ) (value : T) → IsSound cells taken next → next ≡ length cells → IsSound (cells ++ Taken value ∷ []) (taken + 1) (next + 1)
  pushed cells taken next value sound at_end =
      let full = all_taken cells taken next sound at_end in
      let longer = length_push cells (Taken value) in
      record {
        counted = rw (map_push value_of cells (Taken value), sum_by_push (λ o. cond (is_some o) 1 0) (map value_of cells) (Some value)) (ap (λ n. n + 1) sound.counted);
        free = 0;
        total = omega arith;
        linked = omega arith;
      }

  -- the rest of the chain is shorter, and so doesn't come back to its first cell
  pub filled : (cells : List (Cell T)) (taken next after : ℕ) (value : T) → IsSound cells taken next → slice_get cells next ≡ Some (Free after) → IsSound (set cells next (Taken value)) (taken + 1) after
  filled cells taken next after value sound found = by_count sound.free sound.total sound.linked
    where
      by_count : (n : ℕ) → taken + n ≡ length cells → IsChain cells n next → IsSound (set cells next (Taken value)) (taken + 1) after
      by_count zero total linked = absurd (omega (arith, slice_get_within cells next _ found))
      by_count (suc n) total linked =
          let listed = linked.1 in
          let same : linked.0 ≡ after = cc in
          let off : (m : ℕ) → m < n → IsChain cells (suc m) next → ⊥ = λ m below p. omega (arith, one_chain cells (suc m) (suc n) next p linked) in
          record {
            counted = omega (arith, sound.counted, count_set cells next (Free after) (Taken value) found);
            free = n;
            total = omega (arith, length-set cells next (Taken value));
            linked = chain_set cells next (Taken value) n after off (subst (IsChain cells n) same linked.2);
          }

  pub freed : (cells : List (Cell T)) (taken next number : ℕ) (value : T) → IsSound cells taken next → slice_get cells number ≡ Some (Taken value) → IsSound (set cells number (Free next)) (taken - 1) number
  freed cells taken next number value sound found =
      let within = slice_get_within cells number _ found in
      let count = count_set cells number (Taken value) (Free next) found in
      let written : slice_get (set cells number (Free next)) number ≡ Some (Free next) =
      slice_get-get_or _ number (Free next) (omega (arith, length-set cells number (Free next)))
      ∙ ap Some (get_or-set_same cells number (Free next) (Free next) within) in
      record {
        counted = omega (arith, sound.counted, count);
        free = suc sound.free;
        total = omega (arith, sound.counted, count, sound.total, length-set cells number (Free next));
        linked = (next, written, chain_set cells number (Free next) sound.free next (λ m _. off_chain cells number value found m) sound.linked);
      }

  pub replaced : (cells : List (Cell T)) (taken next number : ℕ) (old new : T) → IsSound cells taken next → slice_get cells number ≡ Some (Taken old) → IsSound (set cells number (Taken new)) taken next
  replaced cells taken next number old new sound found =
      record {
        counted = omega (arith, sound.counted, count_set cells number (Taken old) (Taken new) found);
        free = sound.free;
        total = omega (arith, sound.total, length-set cells number (Taken new));
        linked = chain_set cells number (Taken new) sound.free next (λ m _. off_chain cells number old found m) sound.linked;
      }

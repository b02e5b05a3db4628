-- The numbers of paths, and the entries that they stand for.
use Rattle.std.proofs.Common.{◌≡◌, ◌≢◌, ℕ, Bool, true, false, cond, not, List, [], refl, sym, ◌∙◌, ap, subst, Option, Some, None, ◌⊎◌, inl, inr}
use Rattle.std.specs.Prelude.{T, length, unwrap_or, IsSomeAnd}
use Rattle.std.specs.Option.{option_map}
use Rattle.std.specs.Ordering.{eq_by_cmp, is_eq}
use Rattle.std.specs.Map.{lookup, remove_entry}
use Rattle.std.specs.BTreeMap.{insert_entry, is_at}
use Rattle.std.specs.FinMap as finite
use Rattle.std.specs.FinMap.Entries.{put, find, is_sorted, is_sorted-put, is_sorted-where_key, find-where_key}
use Rattle.std.specs.Cmp.{eq_by_cmp_equiv, alike_right}
use Rattle.std.proofs.lemmas.Cmp.{tied_itself}
use Rattle.paths.specs.Paths.{Path, path_cmp}
use Rattle.schema.specs.Conf.{Conf}
use Rattle.entries.specs.Entries.{EntryContent}
use Rattle.tree.specs.Directories.{Entries}
use Rattle.entries.specs.StoredEntries.{Entry, content_of, IsMade}
use Rattle.tree.specs.Trees.{Numbers, seen_entries}
use Rattle.tree.specs.Cells.{cell, IsSet}
use Rattle.tree.specs.inner.Trees.{Cells, entry_at, joined, numbers_of, entries_in, AreNumbered}
use Rattle.tree.proofs.Kept.{equal}
use Rattle.tree.proofs.Order.{path_total, path_exact}
use Rattle.tree.proofs.Views.{put_is, find_is, remove_is, find_seen, rising_seen, seen_length}

abbrev pub IsRising : List (Path × ℕ) → Type 0
IsRising es = T (is_sorted path_cmp es)

-- ---- the map of the numbers

pub rising_put : (es : List (Path × ℕ)) (k : Path) (n : ℕ) → IsRising es → IsRising (insert_entry path_cmp es k n)
rising_put es k n h = subst (λ xs. T (is_sorted path_cmp xs)) (sym (put_is path_cmp k n es)) (is_sorted-put path_cmp path_total k n es h)

pub rising_remove : (es : List (Path × ℕ)) (k : Path) → IsRising es → IsRising (remove_entry (is_at (path_cmp k)) es)
rising_remove es k h = subst (λ xs. T (is_sorted path_cmp xs)) (sym (remove_is path_cmp path_total k es h)) (is_sorted-where_key path_cmp (λ z. not (eq_by_cmp path_cmp k z)) es h)

pub numbers_put : (es : List (Path × ℕ)) (k : Path) (n : ℕ) → IsRising es → numbers_of (insert_entry path_cmp es k n) ≡ finite.insert (numbers_of es) k n
numbers_put es k n h = finite.same_entries_map _ _ (
    finite.entries-from_sorted path_cmp (insert_entry path_cmp es k n) (rising_put es k n h)
    ∙ put_is path_cmp k n es
    ∙ ap (put path_cmp k n) (sym (finite.entries-from_sorted path_cmp es h))
    ∙ sym (finite.entries-insert path_total (numbers_of es) k n))

turned : {A : Type 0} (b : Bool) (x y : A) → cond (not b) x y ≡ cond b y x
turned true x y = refl
turned false x y = refl

pub numbers_remove : (es : List (Path × ℕ)) (k : Path) → IsRising es → numbers_of (remove_entry (is_at (path_cmp k)) es) ≡ finite.remove (numbers_of es) k
numbers_remove es k h = finite.same_map path_total path_exact _ _ (λ q.
    finite.get-from_sorted path_cmp (remove_entry (is_at (path_cmp k)) es) q (rising_remove es k h)
    ∙ ap (find path_cmp q) (remove_is path_cmp path_total k es h)
    ∙ find-where_key path_cmp (λ x. not (eq_by_cmp path_cmp k x)) q (λ x t. ap (λ r. not (is_eq r)) (sym (alike_right path_total q x k t))) es
    ∙ turned (eq_by_cmp path_cmp k q) _ _
    ∙ ap (λ b. cond b None (find path_cmp q es)) ((eq_by_cmp_equiv path_total).symm k q)
    ∙ ap (cond (eq_by_cmp path_cmp q k) None) (sym (finite.get-from_sorted path_cmp es q h))
    ∙ sym (finite.get-remove path_total (numbers_of es) k q))

pub numbers_get : (es : List (Path × ℕ)) (q : Path) → IsRising es → finite.get (numbers_of es) q ≡ lookup (is_at (path_cmp q)) es
numbers_get es q h = finite.get-from_sorted path_cmp es q h ∙ find_is path_cmp q es

pub numbers_len : (es : List (Path × ℕ)) → IsRising es → finite.len (numbers_of es) ≡ length es
numbers_len es h = finite.len-entries (numbers_of es) ∙ ap length (finite.entries-from_sorted path_cmp es h)

-- ---- the entries in cells

fused : {A B C : Type 0} (f : B → C) (g : A → B) (o : Option A) → option_map f (option_map g o) ≡ option_map (λ a. f (g a)) o
fused f g None = refl
fused f g (Some a) = refl

module _ (cells : Cells) where
  pub joined_rising : (es : List (Path × ℕ)) → IsRising es → T (is_sorted path_cmp (seen_entries (joined cells es)))
  joined_rising es h = subst T (sym (rising_seen content_of path_cmp (joined cells es) ∙ rising_seen (entry_at cells) path_cmp es)) h

  pub entries_list : (m : Numbers) → finite.entries (entries_in cells m) ≡ seen_entries (joined cells (finite.entries m))
  entries_list m = finite.entries-from_sorted path_cmp (seen_entries (joined cells (finite.entries m))) (joined_rising (finite.entries m) (finite.entries_sorted m))

  pub entries_len : (m : Numbers) → finite.len (entries_in cells m) ≡ finite.len m
  entries_len m =
      finite.len-entries (entries_in cells m) ∙ ap length (entries_list m) ∙ seen_length content_of path_cmp (joined cells (finite.entries m))
      ∙ seen_length (entry_at cells) path_cmp (finite.entries m) ∙ sym (finite.len-entries m)

  abbrev pub content_at : ℕ → EntryContent
  content_at n = content_of (entry_at cells n)

  pub entries_get : (m : Numbers) (q : Path) → finite.get (entries_in cells m) q ≡ option_map content_at (finite.get m q)
  entries_get m q =
      finite.get-from_sorted path_cmp (seen_entries (joined cells (finite.entries m))) q (joined_rising (finite.entries m) (finite.entries_sorted m))
      ∙ find_seen content_of path_cmp q (joined cells (finite.entries m))
      ∙ ap (option_map content_of) (find_seen (entry_at cells) path_cmp q (finite.entries m))
      ∙ fused content_of (entry_at cells) (find path_cmp q (finite.entries m))
      ∙ ap (option_map content_at) (sym (finite.get-entries m q))

-- ---- a change of one cell

pub same_key : (p q : Path) (b : Bool) → eq_by_cmp path_cmp q p ≡ b → (b ≡ false) → q ≢ p
same_key p q b is not_tied same = let k : true ≡ false = sym (ap is_eq (tied_itself path_total p)) ∙ ap (λ x. eq_by_cmp path_cmp x p) (sym same) ∙ is ∙ not_tied in cc

pub inserted : {X : Type 0} (d : finite.FinMap path_cmp X) (p : Path) (e : X) (q : Path) (x : X) → finite.get (finite.insert d p e) q ≡ Some x → ((q ≡ p) × (e ≡ x)) ⊎ ((q ≢ p) × (finite.get d q ≡ Some x))
inserted {X} d p e q x is = by (eq_by_cmp path_cmp q p) refl (sym (finite.get-insert path_total d p e q) ∙ is)
  where
    by : (b : Bool) → eq_by_cmp path_cmp q p ≡ b → cond b (Some e) (finite.get d q) ≡ Some x → ((q ≡ p) × (e ≡ x)) ⊎ ((q ≢ p) × (finite.get d q ≡ Some x))
    by true tie said = inl (path_exact q p (equal (path_cmp q p) tie), cc)
    by false tie said = inr (same_key p q false tie refl, said)

pub removed : {X : Type 0} (d : finite.FinMap path_cmp X) (p q : Path) (x : X) → finite.get (finite.remove d p) q ≡ Some x → (q ≢ p) × (finite.get d q ≡ Some x)
removed {X} d p q x is = by (eq_by_cmp path_cmp q p) refl (sym (finite.get-remove path_total d p q) ∙ is)
  where
    by : (b : Bool) → eq_by_cmp path_cmp q p ≡ b → cond b None (finite.get d q) ≡ Some x → (q ≢ p) × (finite.get d q ≡ Some x)
    by true tie said = absurd (let k : None ≡ Some x = said in cc)
    by false tie said = (same_key p q false tie refl, said)

-- no other path has this number
abbrev pub IsFree : Numbers → Path → ℕ → Type 0
IsFree m p n = (q : Path) (k : ℕ) → q ≢ p → finite.get m q ≡ Some k → k ≢ n

module _ (old new : Cells) (m : Numbers) (p : Path) (n : ℕ) (o : Option Entry) (sets : IsSet old new n o) (free : IsFree m p n) where
  others_same : (q : Path) → q ≢ p → option_map (content_at new) (finite.get m q) ≡ option_map (content_at old) (finite.get m q)
  others_same q apart = elim (finite.get m q) as (λ x. finite.get m q ≡ x → option_map (content_at new) x ≡ option_map (content_at old) x) [
    | None ↦ λ _. refl
    | Some k ↦ λ is. ap (λ s. Some (content_of (unwrap_or s (record { rdn = []; attrs = [] })))) (sets.others k (free q k apart is))
  ] refl

  -- the entries, where the numbers change at one path alone
  stepped : (m' : Numbers) (d' : Entries) (w : Option ℕ) (x : Option EntryContent)
      → ((q : Path) → finite.get m' q ≡ cond (eq_by_cmp path_cmp q p) w (finite.get m q))
      → ((q : Path) → finite.get d' q ≡ cond (eq_by_cmp path_cmp q p) x (finite.get (entries_in old m) q))
      → option_map (content_at new) w ≡ x
      → entries_in new m' ≡ d'
  stepped m' d' w x ms ds is = finite.same_map path_total path_exact _ _ (λ q. entries_get new m' q ∙ ap (option_map (content_at new)) (ms q) ∙ by q (eq_by_cmp path_cmp q p) refl ∙ sym (ds q))
    where
      by : (q : Path) (b : Bool) → eq_by_cmp path_cmp q p ≡ b → option_map (content_at new) (cond b w (finite.get m q)) ≡ cond b x (finite.get (entries_in old m) q)
      by q true tie = is
      by q false tie = others_same q (same_key p q false tie refl) ∙ sym (entries_get old m q)

module _ (old new : Cells) (m : Numbers) (p : Path) (n : ℕ) (free : IsFree m p n) where
  pub entries_put : (e : Entry) → IsSet old new n (Some e) → entries_in new (finite.insert m p n) ≡ finite.insert (entries_in old m) p (content_of e)
  entries_put e sets = stepped old new m p n (Some e) sets free _ _ (Some n) (Some (content_of e)) (finite.get-insert path_total m p n) (finite.get-insert path_total (entries_in old m) p (content_of e)) (ap (λ s. Some (content_of (unwrap_or s (record { rdn = []; attrs = [] })))) sets.at)

  pub entries_remove : (o : Option Entry) → IsSet old new n o → entries_in new (finite.remove m p) ≡ finite.remove (entries_in old m) p
  entries_remove o sets = stepped old new m p n o sets free _ _ None None (finite.get-remove path_total m p) (finite.get-remove path_total (entries_in old m) p) refl

  -- what is kept of the numbers
  module _ (conf : Conf) (h : AreNumbered conf old m) where
    abbrev IsGoodCell : Option Entry → Type 0
    IsGoodCell o = IsSomeAnd o (λ e. IsMade conf.types e.attrs)

    pub numbered_put : (e : Entry) → IsSet old new n (Some e) → IsMade conf.types e.attrs → AreNumbered conf new (finite.insert m p n)
    numbered_put e sets made = record {
      filled = λ q k is. elim (inserted m p n q k is) [
        | inl a ↦ subst (λ j. IsGoodCell (cell new j)) a.1 (subst IsGoodCell (sym sets.at) made)
        | inr a ↦ subst IsGoodCell (sym (sets.others k (free q k a.0 a.1))) (h.filled q k a.1)
      ];
      apart = λ q r k is js. elim (inserted m p n q k is) [
        | inl a ↦ elim (inserted m p n r k js) [
          | inl b ↦ a.0 ∙ sym b.0
          | inr b ↦ absurd (free r k b.0 b.1 (sym a.1))
        ]
        | inr a ↦ elim (inserted m p n r k js) [
          | inl b ↦ absurd (free q k a.0 a.1 (sym b.1))
          | inr b ↦ h.apart q r k a.1 b.1
        ]
      ];
    }

    pub numbered_remove : (o : Option Entry) → IsSet old new n o → AreNumbered conf new (finite.remove m p)
    numbered_remove o sets = record {
      filled = λ q k is. let a = removed m p q k is in subst IsGoodCell (sym (sets.others k (free q k a.0 a.1))) (h.filled q k a.1);
      apart = λ q r k is js. h.apart q r k (removed m p q k is).1 (removed m p r k js).1;
    }

-- ---- numbers that are free

module _ (conf : Conf) (cells : Cells) (m : Numbers) (h : AreNumbered conf cells m) where
  -- the number of an empty cell is at no path
  pub free_new : (p : Path) (n : ℕ) → cell cells n ≡ None → IsFree m p n
  free_new p n none q k apart is same = let f = subst (λ o. IsSomeAnd o (λ e. IsMade conf.types e.attrs)) (ap (cell cells) same ∙ none) (h.filled q k is) in f

  -- that of an entry is at its path alone
  pub free_own : (p : Path) (n : ℕ) → finite.get m p ≡ Some n → IsFree m p n
  free_own p n own q k apart is same = apart (h.apart q p n (is ∙ ap (λ (j : ℕ). Some j) same) own)

pub nothing_set : (cells : Cells) (n : ℕ) → IsSet cells cells n (cell cells n)
nothing_set cells n = record { at = refl; others = λ k _. refl }

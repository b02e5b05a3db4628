-- The candidates that an index gives: they are the same by each index of the same entries.
use Rattle.std.proofs.Common.{◌≡◌, ℕ, ◌+◌, Bool, cond, ◌&&◌, List, [], ◌∷◌, filter, length, Some, refl, sym, ap, subst, ◌∙◌}
use Rattle.std.specs.List.{AllByRecursion, list_all, flat_map}
use Rattle.std.specs.FinMap as finite
use Rattle.std.specs.FinSet as set
use Rattle.paths.specs.Paths.{Path, path_cmp}
use Rattle.schema.specs.declared.slots.IndexKind.{IndexKind}
use Rattle.schema.specs.declared.slots.IndexKind.TheVariants as kinds
use Rattle.schema.specs.Conf.{Conf}
use Rattle.entries.specs.Entries.{Attributes, EntryContent}
use Rattle.tree.specs.Directories.{Entries}
use Rattle.tree.specs.Trees.{Tree, HasEntry, IsNumbered, number_at}
use Rattle.tree.proofs.Order.{path_total}
use Rattle.tree.proofs.Views.{all_found}
use Rattle.filter_text.specs.Spells as texts
use Rattle.filter.specs.declared.assertion.Assertion.{Assertion}
use Rattle.filter.specs.declared.assertion.Assertion.TheVariants as assertions
use Rattle.filter.specs.declared.prepared_item.PreparedItem.{PreparedItem}
use Rattle.filter.specs.declared.prepared_item.PreparedItem.TheVariants as items
use Rattle.filter.specs.Truths.{is_true}
use Rattle.filter.specs.Filters.{truth}
use Rattle.filter.specs.Made.{Made}
use Rattle.filter.specs.Prepared as prepared
use Rattle.index_text.specs.declared.slot_key.SlotKey.{SlotKey}
use Rattle.index_keys.specs.EntryKeys.{slot_keys, windows}
use Rattle.index_text.specs.SlotKeys.{slot_key}
use Rattle.index_text.specs.Indexes.{Index, members}
use Rattle.index_text.specs.Postings.{Shown, slot_in, shown_by}
use Rattle.candidates.specs.Brackets.{Reflects}
use Rattle.candidates.specs.Candidates.{prepared_of}
use Rattle.candidates.specs.Sides.{Sides, exactly, at_most, if_indexed, assertion_sides, item_sides, all_sides, any_sides, swapped, sides, sides_each}
use Rattle.paths.specs.declared.scope.Scope.{Scope}
use Rattle.paths.specs.Scopes.{is_in_scope}
use Rattle.databases.specs.Scanned.{is_tested, count_among, counted_by, counted_scan}
use Rattle.directory.specs.Indexes.{IsIndexOf}
use Rattle.directory.specs.Searches.{may_by_number}
use Rattle.directory.proofs.RanksByNumber.{there_number}

-- ---- postings that show the same of a number

module _ (a b : Shown) (n : ℕ) (slots : (t : ℕ) (kind : IndexKind) → a.slot_of t kind ≡ b.slot_of t kind)
    (has : (slot : ℕ) (key : List ℕ) → set.contains (a.members slot key) n ≡ set.contains (b.members slot key) n) where
  same_assertion : (t : ℕ) (x : Assertion) → assertion_sides a n t x ≡ assertion_sides b n t x
  same_assertion t (assertions.Equality value) = λ i. if_indexed (slots t kinds.Equality i) (λ slot. exactly (has slot value i))
  same_assertion t assertions.Present = λ i. if_indexed (slots t kinds.Presence i) (λ slot. exactly (has slot [] i))
  same_assertion t (assertions.GreaterOrEqual family value) = λ i. if_indexed (slots t kinds.Presence i) (λ slot. at_most (has slot [] i))
  same_assertion t (assertions.LessOrEqual family value) = λ i. if_indexed (slots t kinds.Presence i) (λ slot. at_most (has slot [] i))
  same_assertion t (assertions.Substrings pieces) = λ i. if_indexed (slots t kinds.Substrings i) (λ slot. at_most (list_all (λ key. has slot key i) (flat_map windows pieces.pieces)))

  same_item : (x : PreparedItem) → item_sides a n x ≡ item_sides b n x
  same_item items.Undefined = refl
  same_item (items.Asserts t types x) = same_assertion t x

  mutual
    pub same_sides : (f : prepared.PreparedContent) → sides a n f ≡ sides b n f
    same_sides (prepared.All_of operands) = ap all_sides (same_each operands)
    same_sides (prepared.Any_of operands) = ap any_sides (same_each operands)
    same_sides (prepared.Not_of operand) = ap swapped (same_sides operand)
    same_sides (prepared.Leaf item) = same_item item

    same_each : (fs : prepared.PreparedContents) → sides_each a n fs ≡ sides_each b n fs
    same_each prepared.No_more = refl
    same_each (prepared.And_then first rest) = λ i. same_sides first i ∷ same_each rest i

-- ---- tests that agree of the entries that there are

module _ (p q : Path → Bool) (base : Path) (scope : Scope) where
  abbrev Agree : List (Path × EntryContent) → Type 0
  Agree es = AllByRecursion (λ (e : Path × EntryContent). p e.0 ≡ q e.0) es

  same_tested : (es : List (Path × EntryContent)) → Agree es → filter (is_tested p scope base) es ≡ filter (is_tested q scope base) es
  same_tested [] all = refl
  same_tested (e ∷ es) all = λ i. cond (is_in_scope scope base e.0 && all.0 i) (e ∷ same_tested es all.1 i) (same_tested es all.1 i)

  same_counted : (hit : Path × EntryContent → Bool) (n : ℕ) (es : List (Path × EntryContent)) → Agree es → counted_by (is_tested p scope base) hit n es ≡ counted_by (is_tested q scope base) hit n es
  same_counted hit n [] all = refl
  same_counted hit n (e ∷ es) all =
      λ i. cond (is_in_scope scope base e.0 && all.0 i) (cond (hit e) ((n + 1, e) ∷ same_counted hit (n + 1) es all.1 i) (same_counted hit (n + 1) es all.1 i)) (same_counted hit n es all.1 i)

  module _ (d : Entries) (each : (x : Path) (e : EntryContent) → finite.get d x ≡ Some e → p x ≡ q x) where
    agree : Agree (finite.entries d)
    agree = all_found path_cmp path_total (λ x (e : EntryContent). p x ≡ q x) (finite.entries d) (finite.entries_sorted d) (λ x e is. each x e (finite.get-entries d x ∙ is))

    pub same_count : count_among d p base scope ≡ count_among d q base scope
    same_count = ap length (same_tested (finite.entries d) agree)

    pub same_steps : (conf : Conf) (f : texts.FilterContent) → counted_scan conf d p base scope f ≡ counted_scan conf d q base scope f
    same_steps conf f = same_counted (λ e. is_true (truth conf.types e.1.attrs f)) 0 (finite.entries d) agree

-- ---- the index of a tree

module _ (conf : Conf) (t : Tree) (numbered : IsNumbered t.entries t.numbers) (x : Index) (of_x : IsIndexOf conf t.entries t.numbers x) where
  entry_at : (p : Path) (e : EntryContent) → finite.get t.entries p ≡ Some e → HasEntry t.entries t.numbers (number_at t p) e
  entry_at p e at = record { path = p; number = there_number t numbered p e at; entry = at }

  -- any other index of the tree gives the same candidates
  pub same_may : (y : Index) → IsIndexOf conf t.entries t.numbers y → (f : Made) (p : Path) (e : EntryContent) → finite.get t.entries p ≡ Some e → may_by_number (shown_by x) f t p ≡ may_by_number (shown_by y) f t p
  same_may y of_y f p e at =
      ap (λ (s : Sides). s.may) (same_sides (shown_by x) (shown_by y) (number_at t p)
      (λ a kind. ap (λ (c : Conf). slot_in c.slots a kind) (of_x.same_conf ∙ sym of_y.same_conf))
      (λ slot key. of_x.has (number_at t p) e (entry_at p e at) (slot_key slot key) ∙ sym (of_y.has (number_at t p) e (entry_at p e at) (slot_key slot key)))
      (prepared_of f))

  pub reflected : ((x : Index) (n : ℕ) (attrs : Attributes) → ((k : SlotKey) → set.contains (members x k) n ≡ set.contains (slot_keys x.conf attrs) k) → Reflects (shown_by x) x.conf.types n attrs)
      → (p : Path) (e : EntryContent) → finite.get t.entries p ≡ Some e → Reflects (shown_by x) conf.types (number_at t p) e.attrs
  reflected law p e at =
      subst (λ (c : Conf). Reflects (shown_by x) c.types (number_at t p) e.attrs) of_x.same_conf
      (law x (number_at t p) e.attrs (λ k. of_x.has (number_at t p) e (entry_at p e at) k ∙ ap (λ (c : Conf). set.contains (slot_keys c e.attrs) k) (sym of_x.same_conf)))

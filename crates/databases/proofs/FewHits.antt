-- No more is found than is looked at.
use Rattle.std.proofs.Common.{◌≡◌, ℕ, ◌+◌, ◌<◌, ◌≤◌, ◌^◌, Bool, true, false, cond, List, [], ◌∷◌, length, take, Option, Some, None, refl, arith}
use Rattle.std.specs.Prelude.{◌&&◌}
use Rattle.entries.specs.StoredEntries.{attributes_of}
use Rattle.values.specs.declared.types.AttributeType.{AttributeType}
use Rattle.filter_text.specs.Spells.{FilterContent}
use Rattle.filter.specs.Truths.{is_true}
use Rattle.filter.specs.Filters.{truth}
use Rattle.paths.specs.declared.scope.Scope.{Scope}
use Rattle.paths.specs.Scopes.{depth_fits}
use Rattle.databases.specs.Found.{up_to}
use Rattle.databases.specs.Walks.{Lent, lent}
use Rattle.databases.specs.inner.Marks.{MarkedEntry}

abbrev a_hit : ℕ → MarkedEntry → Lent
a_hit n e = record { tested = n; path = e.path; entry = e.entry }

-- one entry more is looked at
one_more : (is_tested is_hit : Bool) (hit : Lent) (hits others : List Lent) (n : ℕ) → length hits ≤ n → length others ≤ n → length (cond is_tested (cond is_hit (hit ∷ hits) hits) others) ≤ n + 1
one_more true true hit hits others n h k = omega (arith, h)
one_more true false hit hits others n h k = omega (arith, h)
one_more false is_hit hit hits others n h k = omega (arith, k)

module _ (types : List AttributeType) (scope : Scope) (base : ℕ) (f : FilterContent) where
  at_most : (n : ℕ) (es : List MarkedEntry) → length (lent types scope base f n es) ≤ length es
  at_most n [] = omega arith
  at_most n (e ∷ es) =
      let more = one_more (e.is_candidate && depth_fits scope base (length e.path)) (is_true (truth types (attributes_of e.entry.attrs) f)) (a_hit (n + 1) e) (lent types scope base f (n + 1) es) (lent types scope base f n es) (length es) (at_most (n + 1) es) (at_most n es) in
      omega (arith, more)

  pub few_lent : (n : ℕ) (es : List MarkedEntry) → n + length es < 2 ^ 64 → length (lent types scope base f n es) < 2 ^ 64
  few_lent n es room = let h = at_most n es in omega (arith, h, room)

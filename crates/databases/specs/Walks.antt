-- A walk over what a search finds.
use Rattle.std.specs.Prelude.{◌≡◌, ℕ, ◌+◌, ◌&&◌, List, [], ◌∷◌, length, if◌then◌else◌, Option, MatchOption, refl}
use Rattle.std.specs.Coded.{Coded, code_by, coded×, coded_ℕ, coded_list}
use Rattle.std.specs.Borrow.{Bor}
use Rattle.std.specs.List.{AllByRecursion}
use Rattle.paths.specs.Paths.{Path}
use Rattle.values.specs.declared.types.AttributeType.{AttributeType}
use Rattle.entries.specs.Entries.{EntryContent}
use Rattle.entries.specs.StoredEntries.{Entry, content_of, attributes_of, entry_code, IsMade}
use Rattle.tree.specs.Trees.{path_code}
use Rattle.filter_text.specs.Spells.{FilterContent, view}
use Rattle.filter.specs.Made.{Made}
use Rattle.filter.specs.Truths.{is_true}
use Rattle.filter.specs.Filters.{truth}
use Rattle.paths.specs.declared.scope.Scope.{Scope}
use Rattle.paths.specs.Scopes.{depth_fits}
use Rattle.databases.specs.inner.Marks.{MarkedEntry}

-- an entry that is lent, and how many were tested by then
pub record Lent : Type 0 where
  pub tested : ℕ
  pub path : Path
  pub entry : Entry

-- the entries that are still lent, in order; how many are tested in the end, and how many were so far
pub record Walk : Type 0 where
  pub to_come : List Lent
  pub in_the_end : ℕ
  pub tested : ℕ

abbrev lent_code : Coded Lent
lent_code = code_by (ℕ × (Path × Entry)) (coded× coded_ℕ (coded× path_code entry_code)) (λ l. (l.tested, (l.path, l.entry))) (λ p. record { tested = p.0; path = p.1.0; entry = p.1.1 }) (λ _. refl)

abbrev pub walk_code : Coded Walk
walk_code = code_by (List Lent × (ℕ × ℕ)) (coded× (coded_list lent_code) (coded× coded_ℕ coded_ℕ)) (λ w. (w.to_come, (w.in_the_end, w.tested))) (λ p. record { to_come = p.0; in_the_end = p.1.0; tested = p.1.1 }) (λ _. refl)

abbrev pub seen : Lent → Path × EntryContent
seen l = (l.path, content_of l.entry)

abbrev pub counted : Lent → ℕ × (Path × EntryContent)
counted l = (l.tested, seen l)

-- each value of these entries is one that is made for its type
abbrev pub AreMade : List AttributeType → List Lent → Type 0
AreMade types ls = AllByRecursion (λ l. IsMade types l.entry.attrs) ls

-- one step: the next entry is lent, with the number of those tested by then; none comes at the end of the walk, and again after it
pub record Steps (old : Walk) (item : Option (Bor Path × Bor Entry)) (new : Walk) : Type 0 where
  pub lends : MatchOption item ((old.to_come ≡ []) × (new.to_come ≡ []) × (new.tested ≡ old.in_the_end))
      (λ x. old.to_come ≡ record { tested = new.tested; path = x.0.now; entry = x.1.now } ∷ new.to_come)
  pub end : new.in_the_end ≡ old.in_the_end

module _ (types : List AttributeType) (scope : Scope) (base : ℕ) (f : FilterContent) where
  -- of entries that the base begins, those that are lent, where so many were tested before
  abbrev pub lent : ℕ → List MarkedEntry → List Lent
  lent n [] = []
  lent n (e ∷ es) =
      if e.is_candidate && depth_fits scope base (length e.path)
      then (if is_true (truth types (attributes_of e.entry.attrs) f) then record { tested = n + 1; path = e.path; entry = e.entry } ∷ lent (n + 1) es else lent (n + 1) es)
      else lent n es

-- how many are tested in the end
abbrev pub tested_in_all : Scope → ℕ → ℕ → List MarkedEntry → ℕ
tested_in_all scope base n [] = n
tested_in_all scope base n (e ∷ es) = if e.is_candidate && depth_fits scope base (length e.path) then tested_in_all scope base (n + 1) es else tested_in_all scope base n es

-- the walk over entries that the base begins, where so many were tested before
abbrev pub walk : List AttributeType → Scope → ℕ → FilterContent → ℕ → List MarkedEntry → Walk
walk types scope base f n es = record { to_come = lent types scope base f n es; in_the_end = tested_in_all scope base n es; tested = n }

-- the same, by a filter that is prepared
abbrev pub walk_by : Made → Scope → ℕ → ℕ → List MarkedEntry → Walk
walk_by filter scope base n es = walk filter.conf.types scope base (view filter.filter) n es

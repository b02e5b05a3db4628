-- Search (RFC 4511, 4.5.1): what a filter finds.
use Rattle.std.specs.Prelude.{◌≡◌, ℕ, ◌+◌, Bool, true, ◌&&◌, Some, List, [], ◌∷◌, length, filter, if◌then◌else◌}
use Rattle.std.specs.FinMap as finite
use Rattle.paths.specs.Paths.{Path}
use Rattle.schema.specs.Conf.{Conf}
use Rattle.entries.specs.Entries.{EntryContent}
use Rattle.tree.specs.Directories.{Entries}
use Rattle.filter_text.specs.Spells.{FilterContent}
use Rattle.filter.specs.Truths.{is_true}
use Rattle.filter.specs.Filters.{truth}
use Rattle.paths.specs.declared.scope.Scope.{Scope}
use Rattle.paths.specs.Scopes.{is_in_scope}

-- the entries in scope of which the filter is True, in dump order
abbrev pub scan : Conf → Entries → Path → Scope → FilterContent → List (Path × EntryContent)
scan conf d base scope f = filter (λ e. is_in_scope scope base e.0 && is_true (truth conf.types e.1.attrs f)) (finite.entries d)

-- how many entries are in scope
abbrev pub count_in_scope : Entries → Path → Scope → ℕ
count_in_scope d base scope = length (filter (λ e. is_in_scope scope base e.0) (finite.entries d))

-- ---- among candidates

-- whether an entry is tested: it is in scope, and a candidate
abbrev pub is_tested : (Path → Bool) → Scope → Path → Path × EntryContent → Bool
is_tested is_candidate scope base e = is_in_scope scope base e.0 && is_candidate e.0

-- the entries that are tested, and of which the filter is True, in dump order
abbrev pub scan_among : Conf → Entries → (Path → Bool) → Path → Scope → FilterContent → List (Path × EntryContent)
scan_among conf d is_candidate base scope f = filter (λ e. is_tested is_candidate scope base e && is_true (truth conf.types e.1.attrs f)) (finite.entries d)

-- each entry of which the filter is True is a candidate
abbrev pub Suffices : Conf → Entries → (Path → Bool) → FilterContent → Type 0
Suffices conf d is_candidate f = (p : Path) (e : EntryContent) → finite.get d p ≡ Some e → is_true (truth conf.types e.attrs f) ≡ true → is_candidate p ≡ true

-- how many entries are tested
abbrev pub count_among : Entries → (Path → Bool) → Path → Scope → ℕ
count_among d is_candidate base scope = length (filter (is_tested is_candidate scope base) (finite.entries d))

-- What passes a second test among what passes a first one, each with how many passed the first up to it, where so many did before.
abbrev pub counted_by : {X : Type 0} → (X → Bool) → (X → Bool) → ℕ → List X → List (ℕ × X)
counted_by first second n [] = []
counted_by first second n (x ∷ xs) =
    if first x then (if second x then (n + 1, x) ∷ counted_by first second (n + 1) xs else counted_by first second (n + 1) xs)
    else counted_by first second n xs

-- the entries of `scan_among`, each with how many are tested up to it
abbrev pub counted_scan : Conf → Entries → (Path → Bool) → Path → Scope → FilterContent → List (ℕ × (Path × EntryContent))
counted_scan conf d is_candidate base scope f = counted_by (is_tested is_candidate scope base) (λ e. is_true (truth conf.types e.1.attrs f)) 0 (finite.entries d)

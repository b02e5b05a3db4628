-- A walk over the entries of a directory, which adds what becomes of each.
use Rattle.std.proofs.Common.{◌≡◌, List, [], ◌∷◌, filter, Option, Some, Result, Ok, refl, sym, ap, ◌∙◌, subst}
use Rattle.std.specs.List.{AllByRecursion}
use Rattle.std.specs.FinMap as finite
use Rattle.base.specs.Answers.{◌>>=◌, through, Fails}
use Rattle.base.proofs.Each.{passed_on}
use Rattle.paths.specs.Paths.{Path, path_cmp, begins}
use Rattle.schema.specs.declared.code.Code.{Code}
use Rattle.entries.specs.Entries.{EntryContent}
use Rattle.entries.specs.StoredEntries.{Entry}
use Rattle.tree.specs.Directories.{Entries}
use Rattle.tree.specs.Trees.{seen_entries}
use Rattle.tree.proofs.Order.{path_total}
use Rattle.tree.proofs.Views.{all_found}
use Rattle.suffixes.specs.MovedDirectories.{Move, add_moved, moved_directory}
use Rattle.suffixes.specs.inner.Walks.{IsThere, seen_entry}

all_begin : (es : List (Path × EntryContent)) → filter (λ e. begins [] e.0) es ≡ es
all_begin [] = refl
all_begin (e ∷ es) = ap (λ xs. e ∷ xs) (all_begin es)

module _ (d : Entries) (items : List (Path × Entry)) (root : Path) (top : root ≡ []) (seen : seen_entries items ≡ filter (λ e. begins root e.0) (finite.entries d)) where
  -- all entries are walked over
  pub walked : seen_entries items ≡ finite.entries d
  walked = seen ∙ ap (λ (p : Path). filter (λ e. begins p e.0) (finite.entries d)) top ∙ all_begin (finite.entries d)

  each_there : (es : List (Path × Entry)) → AllByRecursion (λ e. finite.get d e.0 ≡ Some e.1) (seen_entries es) → AllByRecursion (IsThere d) es
  each_there [] h = tt
  each_there (e ∷ es) h = (h.0, each_there es h.1)

  -- each of them is there
  pub walked_there : AllByRecursion (IsThere d) items
  walked_there =
      each_there items (subst (AllByRecursion (λ e. finite.get d e.0 ≡ Some e.1)) (sym walked)
      (all_found path_cmp path_total (λ q x. finite.get d q ≡ Some x) (finite.entries d) (finite.entries_sorted d) (λ q x is. finite.get-entries d q ∙ is)))

module _ (m : Move) (total : Result Entries Code) where
  pub begins_so : (d : Entries) (es : List (Path × Entry)) → d ≡ finite.empty → seen_entries es ≡ finite.entries m.entries → moved_directory m ≡ total → through (add_moved m) d (seen_entries es) ≡ total
  begins_so d es none are is = (λ i. through (add_moved m) (none i) (are i)) ∙ is

  module _ (d : Entries) (all : List (Path × Entry)) (e : Path × Entry) (es : List (Path × Entry)) (cut : all ≡ e ∷ es) (so_far : through (add_moved m) d (seen_entries all) ≡ total) where
    first : through (add_moved m) d (seen_entries all) ≡ (add_moved m d (seen_entry e) >>= λ next. through (add_moved m) next (seen_entries es))
    unfolding through
    first = ap (λ (xs : List (Path × Entry)). through (add_moved m) d (seen_entries xs)) cut

    pub goes_on : (next : Entries) → add_moved m d (seen_entry e) ≡ Ok next → through (add_moved m) next (seen_entries es) ≡ total
    goes_on next is = sym (first ∙ ap (λ (r : Result Entries Code). r >>= λ next. through (add_moved m) next (seen_entries es)) is) ∙ so_far

    pub stops : (fault : Option Code) → Fails fault (add_moved m d (seen_entry e)) → Fails fault total
    stops fault = passed_on fault (add_moved m d (seen_entry e)) total (λ code is. sym so_far ∙ first ∙ ap (λ (r : Result Entries Code). r >>= λ next. through (add_moved m) next (seen_entries es)) is)

  pub ends : (d : Entries) (all : List (Path × Entry)) → all ≡ [] → through (add_moved m) d (seen_entries all) ≡ total → total ≡ Ok d
  unfolding through
  ends d all none so_far = sym so_far ∙ ap (λ (xs : List (Path × Entry)). through (add_moved m) d (seen_entries xs)) none

-- The text of a dump, entry by entry.
use Rattle.std.proofs.Common.{◌≡◌, ℕ, List, [], ◌∷◌, ◌++◌, filter, None, Some, refl, sym, ◌∙◌, ap, subst}
use Rattle.std.specs.List.{flat_map, AllByRecursion}
use Rattle.std.specs.FinMap as finite
use Rattle.std.specs.Cmp.{IsTotalOrder}
use Rattle.ldif.specs.Contents.{write_content_to}
use Rattle.paths.specs.Paths.{Path, path_cmp, begins}
use Rattle.schema.specs.Conf.{Conf}
use Rattle.entries.specs.Entries.{EntryContent}
use Rattle.tree.specs.Directories.{Entries, IsDirectory, record_at}
use Rattle.entries.specs.StoredEntries.{Entry, content_of}
use Rattle.tree.specs.Trees.{seen_entries}
use Rattle.databases.specs.Runs.{record_of, dump_to}
use Rattle.databases.specs.inner.Dumps.{IsThere, entries_text}
use Rattle.databases.proofs.EntryText.{all_selected}
use Rattle.databases.proofs.LoadLaw.{all_there, flat_map-map}

pub all_begin : (es : List (Path × EntryContent)) → filter (λ e. begins [] e.0) es ≡ es
all_begin [] = refl
all_begin (e ∷ es) = ap (λ xs. e ∷ xs) (all_begin es)

module _ (width : ℕ) (conf : Conf) (d : Entries) (items : List (Path × Entry)) (root : Path) (top : root ≡ []) (seen : seen_entries items ≡ filter (λ e. begins root e.0) (finite.entries d)) where
  are : seen_entries items ≡ finite.entries d
  are = seen ∙ ap (λ (p : Path). filter (λ e. begins p e.0) (finite.entries d)) top ∙ all_begin (finite.entries d)

  all_texts : (es : List (Path × Entry)) → entries_text width conf d None es ≡ flat_map (λ e. write_content_to width (record_of conf d (e.0, content_of e.1))) es
  all_texts [] = refl
  all_texts (e ∷ es) =
      ap (λ (f : EntryContent). write_content_to width (record_at conf d e.0 f) ++ entries_text width conf d None es) (all_selected (content_of e.1))
      ∙ ap (λ (bs : List ℕ). write_content_to width (record_at conf d e.0 (content_of e.1)) ++ bs) (all_texts es)

  pub dump_is : dump_to width conf d ≡ entries_text width conf d None items
  unfolding dump_to
  dump_is = ap (flat_map (λ x. write_content_to width (record_of conf d x))) (sym are) ∙ flat_map-map (λ x. write_content_to width (record_of conf d x)) (λ e. (e.0, content_of e.1)) items ∙ sym (all_texts items)

  each_there : (es : List (Path × Entry)) → AllByRecursion (λ e. finite.get d e.0 ≡ Some e.1) (seen_entries es) → AllByRecursion (IsThere d) es
  each_there [] h = tt
  each_there (e ∷ es) h = (h.0, each_there es h.1)

  pub all_in : IsTotalOrder path_cmp → IsDirectory conf d → AllByRecursion (IsThere d) items
  all_in total h = each_there items (subst (AllByRecursion (λ e. finite.get d e.0 ≡ Some e.1)) (sym are) (all_there total conf d h))

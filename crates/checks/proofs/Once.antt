-- No value of a directory stands twice among all of them.
use Rattle.std.proofs.Common.{◌≡◌, ℕ, Bool, true, false, List, [], ◌∷◌, nat_eq, refl, sym, ap, ◌∙◌}
use Rattle.std.specs.Prelude.{T, ◌&&◌}
use Rattle.std.specs.List.{Contains, flat_map, AllByRecursion, IsDistinct}
use Rattle.std.specs.Map.{keys_of}
use Rattle.std.specs.Str.{bytes_eq}
use Rattle.std.specs.Ordering.{is_eq, eq_by_cmp}
use Rattle.std.specs.Cmp.Lexicographic.{bytes_decides}
use Rattle.std.specs.FinMap as finite
use Rattle.std.specs.FinMap.Entries.{is_sorted, below_all}
use Rattle.std.proofs.lemmas.List.Elements.{All-contains, All-from_recursion}
use Rattle.values.specs.declared.types.AttributeType.{AttributeType}
use Rattle.paths.specs.Paths.{Path, path_cmp}
use Rattle.schema.specs.Values.{norm_at, are_equal}
use Rattle.schema.specs.Conf.{Conf}
use Rattle.entries.specs.Entries.{Attribute, Attributes, EntryContent, IsAttribute, IsGood}
use Rattle.tree.specs.Directories.{Entries, IsDirectory}
use Rattle.tree.proofs.Order.{path_total}
use Rattle.tree.proofs.Views.{all_found, split_and}
use Rattle.checks.specs.declared.entry_value.EntryValue.{EntryValue}
use Rattle.checks.specs.EntryValues.{attribute_values, entry_values, all_values, is_same_value}
use Rattle.checks.specs.References.{is_dangling, dangling}
use Rattle.checks.proofs.Members.{from_map, from_flat_map, in_map}
use Rattle.checks.proofs.Twins.{distinct_append, distinct_filter, distinct_map, distinct_weaker, behind}

and_false : (b : Bool) → (b && false) ≡ false
and_false true = refl
and_false false = refl

-- values of one attribute, of two types, and of two entries
other_value : (v w : EntryValue) → bytes_eq v.value w.value ≡ false → is_same_value v w ≡ false
other_value v w apart =
    ap (λ b. eq_by_cmp path_cmp v.path w.path && (nat_eq v.type_id w.type_id && b)) apart
    ∙ ap (λ b. eq_by_cmp path_cmp v.path w.path && b) (and_false (nat_eq v.type_id w.type_id))
    ∙ and_false (eq_by_cmp path_cmp v.path w.path)

other_type : (v w : EntryValue) → nat_eq v.type_id w.type_id ≡ false → is_same_value v w ≡ false
other_type v w apart = ap (λ b. eq_by_cmp path_cmp v.path w.path && (b && bytes_eq v.value w.value)) apart ∙ and_false (eq_by_cmp path_cmp v.path w.path)

other_entry : (v w : EntryValue) → eq_by_cmp path_cmp v.path w.path ≡ false → is_same_value v w ≡ false
other_entry v w apart = ap (λ b. b && (nat_eq v.type_id w.type_id && bytes_eq v.value w.value)) apart

-- what isn't equal isn't written the same
written_apart : (types : List AttributeType) (t : ℕ) (v w : List ℕ) → are_equal types t v w ≡ false → bytes_eq v w ≡ false
written_apart types t v w apart = by (bytes_eq v w) refl
  where
    by : (b : Bool) → bytes_eq v w ≡ b → bytes_eq v w ≡ false
    by false is = is
    by true is =
        let equal : are_equal types t v w ≡ true = (bytes_decides (norm_at types t v) (norm_at types t w)).1 (ap (norm_at types t) ((bytes_decides v w).0 is)) in
        absurd (let k = sym equal ∙ apart in cc)

type_in : (p : Path) (a : Attribute) (v : EntryValue) → Contains (attribute_values p a) v → v.type_id ≡ a.0
type_in p a v h = let w = from_map (λ (x : List ℕ). record { path = p; type_id = a.0; value = x }) v a.1 h in ap (λ (x : EntryValue). x.type_id) (sym w.2)

path_in : (e : Path × EntryContent) (v : EntryValue) → Contains (entry_values e) v → v.path ≡ e.0
path_in e v h =
    let a = from_flat_map (attribute_values e.0) v e.1.attrs h in
    let w = from_map (λ (x : List ℕ). record { path = e.0; type_id = a.0.0; value = x }) v a.0.1 a.2 in
    ap (λ (x : EntryValue). x.path) (sym w.2)

module _ (types : List AttributeType) (p : Path) where
  attribute_once : (a : Attribute) → IsDistinct (are_equal types a.0) a.1 → IsDistinct is_same_value (attribute_values p a)
  attribute_once a distinct =
      let placed : List ℕ → EntryValue = λ x. record { path = p; type_id = a.0; value = x } in
      distinct_map is_same_value placed a.1
      (distinct_weaker (are_equal types a.0) (λ v w. is_same_value (placed v) (placed w)) (λ v w apart. other_value (placed v) (placed w) (written_apart types a.0 v w apart)) a.1 distinct)

  attributes_once : (attrs : Attributes) → AllByRecursion (IsAttribute types) attrs → IsDistinct nat_eq (keys_of attrs) → IsDistinct is_same_value (flat_map (attribute_values p) attrs)
  unfolding IsDistinct
  attributes_once [] good apart = tt
  attributes_once (a ∷ attrs) good apart =
      distinct_append is_same_value (attribute_values p a) (flat_map (attribute_values p) attrs) (attribute_once a good.0.apart) (attributes_once attrs good.1 apart.1)
      (λ v w at_v at_w.
      let b = from_flat_map (attribute_values p) w attrs at_w in
      other_type v w
      (ap (λ k. nat_eq k w.type_id) (type_in p a v at_v)
      ∙ ap (nat_eq a.0) (type_in p b.0 w b.2)
      ∙ All-contains (λ (k : ℕ). nat_eq a.0 k ≡ false) (keys_of attrs) b.0.0 (All-from_recursion (λ (k : ℕ). nat_eq a.0 k ≡ false) (keys_of attrs) apart.0) (in_map (λ (x : Attribute). x.0) b.0 attrs b.1)))

module _ (conf : Conf) where
  values_once : (es : List (Path × EntryContent)) → T (is_sorted path_cmp es) → AllByRecursion (λ e. IsGood conf e.1) es → IsDistinct is_same_value (flat_map entry_values es)
  unfolding IsDistinct
  values_once [] rising good = tt
  values_once (e ∷ es) rising good =
      let both = split_and (below_all path_cmp e.0 es) (is_sorted path_cmp es) rising in
      distinct_append is_same_value (entry_values e) (flat_map entry_values es) (attributes_once conf.types e.0 e.1.attrs good.0.attrs good.0.types_apart) (values_once es both.1 good.1)
      (λ v w at_v at_w.
      let f = from_flat_map entry_values w es at_w in
      other_entry v w (ap (λ (x : Path). eq_by_cmp path_cmp x w.path) (path_in e v at_v) ∙ ap (eq_by_cmp path_cmp e.0) (path_in f.0 w f.2) ∙ ap is_eq (behind e.0 es f.0 both.0 f.1)))

  pub dangling_once : (d : Entries) → IsDirectory conf d → (named : List ℕ) → IsDistinct is_same_value (dangling conf d named)
  dangling_once d is named =
      distinct_filter is_same_value (is_dangling conf d named) (all_values d)
      (values_once (finite.entries d) (finite.entries_sorted d)
      (all_found path_cmp path_total (λ p e. IsGood conf e) (finite.entries d) (finite.entries_sorted d) (λ p e at. is.good p e (finite.get-entries d p ∙ at))))

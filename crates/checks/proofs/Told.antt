-- The references that are told are those that dangle.
use Rattle.std.proofs.Common.{◌≡◌, ℕ, Bool, true, false, not, ◌⊎◌, inl, inr, List, [], ◌∷◌, Option, Some, None, Result, Ok, Err, nat_eq, refl, sym, ap, subst, ◌∙◌}
use Rattle.std.specs.Prelude.{◌&&◌, is_some}
use Rattle.std.specs.List.{Contains, list_any}
use Rattle.std.specs.FinMap as finite
use Rattle.std.proofs.lemmas.Bool.{or_cases, or_left, or_right, eqb-true, eq-eqb}
use Rattle.paths.specs.Paths.{Path}
use Rattle.schema.specs.declared.code.Code.{Code}
use Rattle.schema.specs.TypeRules.{has_name_syntax}
use Rattle.schema.specs.Conf.{Conf, path_of_text}
use Rattle.tree.specs.Directories.{Entries}
use Rattle.checks.specs.declared.entry_value.EntryValue.{EntryValue}
use Rattle.checks.specs.EntryValues.{attribute_values, entry_values, all_values, IsThere}
use Rattle.checks.specs.References.{is_meant, is_looked_at, is_missing, names_no_entry, is_dangling, dangling, Dangles}
use Rattle.checks.proofs.Members.{here, later, not_in_none, first_or_later, in_filter, from_filter, in_map, from_map, in_flat_map, from_flat_map, is_in, is_there}

both : (a b : Bool) → (a && b) ≡ true → (a ≡ true) × (b ≡ true)
both true b h = (refl, h)
both false b h = absurd cc

-- ---- the values of a directory

pub value_there : (d : Entries) (v : EntryValue) → Contains (all_values d) v → IsThere d v
value_there d v h =
    let e = from_flat_map entry_values v (finite.entries d) h in
    let a = from_flat_map (attribute_values e.0.0) v e.0.1.attrs e.2 in
    let w = from_map (λ (x : List ℕ). record { path = e.0.0; type_id = a.0.0; value = x }) v a.0.1 a.2 in
    subst (IsThere d) w.2 (record { entry = e.0.1; at = is_there d e.0.0 e.0.1 e.1; values = a.0.1; attribute = a.1; value = w.1 })

pub there_is_value : (d : Entries) (v : EntryValue) → IsThere d v → Contains (all_values d) v
there_is_value d v h =
    in_flat_map entry_values (v.path, h.entry) v (finite.entries d) (is_in d v.path h.entry h.at)
    (in_flat_map (attribute_values v.path) (v.type_id, h.values) v h.entry.attrs h.attribute
    (in_map (λ (x : List ℕ). record { path = v.path; type_id = v.type_id; value = x }) v.value h.values h.value))

-- ---- types that are meant

any_in : (t : ℕ) (ns : List ℕ) → Contains ns t → list_any (λ m. nat_eq m t) ns ≡ true
any_in t [] h = absurd (not_in_none t h)
any_in t (n ∷ ns) h = elim (first_or_later n t ns h) [
  | inl is ↦ or_left (nat_eq n t) (list_any (λ m. nat_eq m t) ns) (eq-eqb n t is)
  | inr more ↦ or_right (nat_eq n t) (list_any (λ m. nat_eq m t) ns) (any_in t ns more)
]

in_any : (t : ℕ) (ns : List ℕ) → list_any (λ m. nat_eq m t) ns ≡ true → Contains ns t
in_any t [] h = absurd cc
in_any t (n ∷ ns) h = elim (or_cases (nat_eq n t) (list_any (λ m. nat_eq m t) ns) h) [
  | inl is ↦ subst (λ m. Contains (m ∷ ns) t) (sym (eqb-true n t is)) (here t ns)
  | inr more ↦ later n t ns (in_any t ns more)
]

meant_is : (named : List ℕ) (t : ℕ) → is_meant named t ≡ true → (named ≡ []) ⊎ Contains named t
meant_is [] t h = inl refl
meant_is (n ∷ ns) t h = inr (in_any t (n ∷ ns) h)

is_meant_by : (named : List ℕ) (t : ℕ) → (named ≡ []) ⊎ Contains named t → is_meant named t ≡ true
is_meant_by [] t h = refl
is_meant_by (n ∷ ns) t h = elim h [
  | inl none ↦ absurd cc
  | inr is ↦ any_in t (n ∷ ns) is
]

-- ---- references

missing_is : (d : Entries) (p : Path) → not (finite.contains_key d p) ≡ true → finite.get d p ≡ None
missing_is d p h = by (finite.get d p) refl h
  where
    by : {X : Type 0} (o : Option X) → o ≡ o → not (is_some o) ≡ true → o ≡ None
    by None same h = refl
    by (Some x) same h = absurd cc

module _ (conf : Conf) (d : Entries) (named : List ℕ) (v : EntryValue) where
  pub told_dangles : Contains (dangling conf d named) v → Dangles conf d named v
  told_dangles h =
      let kept = from_filter (is_dangling conf d named) v (all_values d) h in
      let parts = both (is_looked_at conf.types named v.type_id) (names_no_entry conf d v.value) kept.1 in
      let looked = both (has_name_syntax conf.types v.type_id) (is_meant named v.type_id) parts.0 in
      by (path_of_text conf v.value) refl (value_there d v kept.0) looked.0 (meant_is named v.type_id looked.1) parts.1
    where
      by : (r : Result Path Code) → path_of_text conf v.value ≡ r → IsThere d v → has_name_syntax conf.types v.type_id ≡ true → (named ≡ []) ⊎ Contains named v.type_id → is_missing d r ≡ true → Dangles conf d named v
      by (Ok p) is there name meant miss = record { there = there; is_name = name; meant = meant; path = p; names = is; missing = missing_is d p miss }
      by (Err code) is there name meant miss = absurd cc

  pub dangling_is_told : Dangles conf d named v → Contains (dangling conf d named) v
  dangling_is_told h =
      in_filter (is_dangling conf d named) v (all_values d) (there_is_value d v h.there)
      (λ i. (h.is_name i && is_meant_by named v.type_id h.meant i) && names i)
    where
      names : names_no_entry conf d v.value ≡ true
      names = ap (is_missing d) h.names ∙ ap (λ o. not (is_some o)) h.missing

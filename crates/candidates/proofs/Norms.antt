-- An entry as it is stored, and what a prepared item asks of the normal forms of its values.
use Rattle.std.proofs.Common.{◌≡◌, ℕ, Bool, true, false, cond, ◌&&◌, ◌||◌, List, [], ◌∷◌, map, length, refl, sym, ap, ◌∙◌}
use Rattle.std.specs.List.{list_any, AllByRecursion}
use Rattle.std.proofs.lemmas.Bool.{ltb-true}
use Rattle.std.proofs.lemmas.List.Folds.{list_any-append}
use Rattle.values.specs.declared.types.AttributeType.{AttributeType}
use Rattle.values.specs.Values.{Value}
use Rattle.schema.specs.Subtypes.{is_subtype, subtypes}
use Rattle.schema.specs.Values.{norm_at}
use Rattle.entries.specs.Entries.{Attributes, IsAttribute}
use Rattle.entries.specs.StoredEntries.{EntryAttribute, raws, attributes_of, AreNormal, IsMadeAttribute}
use Rattle.filter.specs.Prepared.{is_among}
use Rattle.filter.proofs.SubtypeLists.{among_subtypes}
use Rattle.index_keys.specs.EntryKeys.{norms_under}

module _ (types : List AttributeType) where
  abbrev stored_values : ℕ → List (List ℕ) → List Value
  stored_values t vs = map (λ v. record { raw = v; norm = norm_at types t v }) vs

  abbrev pub stored : Attributes → List EntryAttribute
  stored attrs = map (λ a. (a.0, stored_values a.0 a.1)) attrs

  raws-stored : (t : ℕ) (vs : List (List ℕ)) → raws (stored_values t vs) ≡ vs
  raws-stored t [] = refl
  raws-stored t (v ∷ vs) = ap (λ (ws : List (List ℕ)). v ∷ ws) (raws-stored t vs)

  pub attributes-stored : (attrs : Attributes) → attributes_of (stored attrs) ≡ attrs
  attributes-stored [] = refl
  attributes-stored (a ∷ attrs) = λ i. (a.0, raws-stored a.0 a.1 i) ∷ attributes-stored attrs i

  are_normal : (t : ℕ) (vs : List (List ℕ)) → AreNormal types t (stored_values t vs)
  are_normal t [] = tt
  are_normal t (v ∷ vs) = (refl, are_normal t vs)

  pub are_made : (attrs : Attributes) → AllByRecursion (IsAttribute types) attrs → AllByRecursion (IsMadeAttribute types) (stored attrs)
  are_made [] all = tt
  are_made (a ∷ attrs) all = (record { known = ltb-true a.0 (length types) (all.0).known; normal = are_normal a.0 a.1 }, are_made attrs all.1)

  any_value : (test : List ℕ → Bool) (t : ℕ) (vs : List (List ℕ)) → list_any (λ (v : Value). test v.norm) (stored_values t vs) ≡ list_any test (map (norm_at types t) vs)
  any_value test t [] = refl
  any_value test t (v ∷ vs) = ap (λ b. test (norm_at types t v) || b) (any_value test t vs)

  any_if : (test : List ℕ → Bool) (b : Bool) (norms : List (List ℕ)) → (b && list_any test norms) ≡ list_any test (cond b norms [])
  any_if test true norms = refl
  any_if test false norms = refl

  -- a test of the values that are stored of a type and of its subtypes is one of their normal forms
  pub any_norm : (test : List ℕ → Bool) (t : ℕ) (attrs : Attributes) → AllByRecursion (IsAttribute types) attrs
      → list_any (λ (a : EntryAttribute). is_among (subtypes types t) a.0 && list_any (λ v. test v.norm) a.1) (stored attrs) ≡ list_any test (norms_under types attrs t)
  any_norm test t [] all = refl
  any_norm test t (a ∷ attrs) all =
      let norms = map (norm_at types a.0) a.1 in
      (λ i. (among_subtypes types t a.0 (ltb-true a.0 (length types) (all.0).known) i && any_value test a.0 a.1 i) || any_norm test t attrs all.1 i)
      ∙ ap (λ b. b || list_any test (norms_under types attrs t)) (any_if test (is_subtype types a.0 t) norms)
      ∙ sym (list_any-append test (cond (is_subtype types a.0 t) norms []) (norms_under types attrs t))

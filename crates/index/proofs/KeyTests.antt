-- What the test for a key comes to, for each kind of index: a test of the normal forms of values.
use Rattle.std.proofs.Common.{◌≡◌, ℕ, Bool, true, false, cond, ◌&&◌, ◌||◌, List, [], ◌∷◌, map, refl, ap, ◌∙◌}
use Rattle.std.proofs.lemmas.List.Folds.{list_any-append}
use Rattle.std.specs.List.{list_any, flat_map}
use Rattle.std.specs.Str.{bytes_eq}
use Rattle.values.specs.declared.types.AttributeType.{AttributeType}
use Rattle.schema.specs.declared.slots.IndexKind.TheVariants.{Equality, Presence, Substrings}
use Rattle.schema.specs.Values.{norm_at}
use Rattle.entries.specs.Entries.{Attributes}
use Rattle.schema.specs.Subtypes.{is_subtype}
use Rattle.index_keys.specs.EntryKeys.{norms_under, windows, empty_key, has_key}

-- whether an entry has a value of a type or of a subtype whose normal form passes the test
abbrev pub has_norm_that : List AttributeType → Attributes → ℕ → (List ℕ → Bool) → Bool
has_norm_that types attrs t test = list_any (λ a. is_subtype types a.0 t && list_any (λ v. test (norm_at types a.0 v)) a.1) attrs

any_map : {A B : Type 0} (p : B → Bool) (f : A → B) (xs : List A) → list_any p (map f xs) ≡ list_any (λ x. p (f x)) xs
any_map p f [] = refl
any_map p f (x ∷ xs) = ap (λ b. p (f x) || b) (any_map p f xs)

any_flat : {A B : Type 0} (p : B → Bool) (f : A → List B) (xs : List A) → list_any p (flat_map f xs) ≡ list_any (λ x. list_any p (f x)) xs
any_flat p f [] = refl
any_flat p f (x ∷ xs) = list_any-append p (f x) (flat_map f xs) ∙ ap (λ b. list_any p (f x) || b) (any_flat p f xs)

norms_pass : (types : List AttributeType) (attrs : Attributes) (t : ℕ) (test : List ℕ → Bool) → list_any test (norms_under types attrs t) ≡ has_norm_that types attrs t test
norms_pass types [] t test = refl
norms_pass types (a ∷ attrs) t test =
    list_any-append test (cond (is_subtype types a.0 t) (map (norm_at types a.0) a.1) []) (norms_under types attrs t)
    ∙ (λ i. one (is_subtype types a.0 t) i || norms_pass types attrs t test i)
  where
    one : (b : Bool) → list_any test (cond b (map (norm_at types a.0) a.1) []) ≡ (b && list_any (λ v. test (norm_at types a.0 v)) a.1)
    one true = any_map test (norm_at types a.0) a.1
    one false = refl

pub has_equality_key : (types : List AttributeType) (attrs : Attributes) (t : ℕ) (key : List ℕ) → has_key types attrs t Equality key ≡ has_norm_that types attrs t (λ norm. bytes_eq norm key)
has_equality_key types attrs t key = norms_pass types attrs t (λ norm. bytes_eq norm key)

pub has_presence_key : (types : List AttributeType) (attrs : Attributes) (t : ℕ) (key : List ℕ) → has_key types attrs t Presence key ≡ (bytes_eq [] key && has_norm_that types attrs t (λ norm. true))
has_presence_key types attrs t key = some (norms_under types attrs t) ∙ ap (λ b. bytes_eq [] key && b) (norms_pass types attrs t (λ norm. true))
  where
    some : (norms : List (List ℕ)) → list_any (λ k. bytes_eq k key) (empty_key norms) ≡ (bytes_eq [] key && list_any (λ norm. true) norms)
    some [] = by (bytes_eq [] key)
      where
        by : (b : Bool) → false ≡ (b && false)
        by true = refl
        by false = refl
    some (norm ∷ norms) = by (bytes_eq [] key)
      where
        by : (b : Bool) → (b || false) ≡ (b && true)
        by true = refl
        by false = refl

pub has_substrings_key : (types : List AttributeType) (attrs : Attributes) (t : ℕ) (key : List ℕ) → has_key types attrs t Substrings key ≡ has_norm_that types attrs t (λ norm. list_any (λ w. bytes_eq w key) (windows norm))
has_substrings_key types attrs t key =
    any_flat (λ w. bytes_eq w key) windows (norms_under types attrs t)
    ∙ norms_pass types attrs t (λ norm. list_any (λ w. bytes_eq w key) (windows norm))

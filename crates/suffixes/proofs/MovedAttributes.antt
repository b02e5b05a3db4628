-- What stays of attributes whose values of DN syntax move: types, the number of their values, and the values of other types.
use Rattle.std.proofs.Common.{◌≡◌, ℕ, Bool, true, false, not, ◌&&◌, ◌||◌, cond, List, [], ◌∷◌, map, length, Option, Some, refl, ap, subst, ◌∙◌}
use Rattle.std.specs.Prelude.{nat_eq, nat_lt, nat_le, unwrap_or}
use Rattle.std.specs.List.{list_any, list_all, AllByRecursion}
use Rattle.std.specs.Map.{lookup, keys_of}
use Rattle.std.proofs.lemmas.Bool.{eqb-true}
use Rattle.std.proofs.lemmas.List.{length-map}
use Rattle.values.specs.declared.types.AttributeType.{AttributeType}
use Rattle.values.specs.Types.{type_at}
use Rattle.schema.specs.TypeRules.{has_name_syntax, is_syntax}
use Rattle.values.specs.declared.types.TypeSyntax.TheVariants as type_syntaxes
use Rattle.schema.specs.Rdns.{Ava, TypedRdn}
use Rattle.schema.specs.GoodRdns.{IsAva}
use Rattle.schema.specs.Conf.{Conf, IsConf}
use Rattle.schema.specs.Classes.{class_at}
use Rattle.schema.specs.Superclasses.{with_superclasses}
use Rattle.entries.specs.Entries.{Attribute, Attributes, values_of, has_equal, are_single, has_its_classes}
use Rattle.entries.specs.EntryClasses.{classes_of, are_classes, has_required, are_allowed, is_allowed, fits_classes, defines_classes, named_classes}
use Rattle.suffixes.specs.MovedValues.{moved_value}
use Rattle.suffixes.specs.MovedDirectories.{moved_attribute, moved_attributes}
use Rattle.suffixes.proofs.AddedLines.{HaveValues}

module _ (conf : Conf) (name : List ℕ) where
  abbrev moved : Attributes → Attributes
  moved attrs = moved_attributes conf name attrs

  -- ---- types

  pub keys_stay : (attrs : Attributes) → keys_of (moved attrs) ≡ keys_of attrs
  keys_stay [] = refl
  keys_stay (a ∷ attrs) = ap (λ (ks : List ℕ). a.0 ∷ ks) (keys_stay attrs)

  any_stays : (test : ℕ → Bool) (attrs : Attributes) → list_any (λ a. test a.0) (moved attrs) ≡ list_any (λ a. test a.0) attrs
  any_stays test [] = refl
  any_stays test (a ∷ attrs) = ap (λ b. test a.0 || b) (any_stays test attrs)

  all_stays : (test : ℕ → Bool) (attrs : Attributes) → list_all (λ a. test a.0) (moved attrs) ≡ list_all (λ a. test a.0) attrs
  all_stays test [] = refl
  all_stays test (a ∷ attrs) = ap (λ b. test a.0 && b) (all_stays test attrs)

  pub each_stays : (P : ℕ → Type 0) (attrs : Attributes) → AllByRecursion (λ (a : Attribute). P a.0) attrs → AllByRecursion (λ (a : Attribute). P a.0) (moved attrs)
  each_stays P [] h = tt
  each_stays P (a ∷ attrs) h = (h.0, each_stays P attrs h.1)

  -- ---- how many values

  length_stays : (a : Attribute) → length (moved_attribute conf name a).1 ≡ length a.1
  length_stays a = elim (has_name_syntax conf.types a.0) as (λ b. length (cond b (map (moved_value conf name) a.1) a.1) ≡ length a.1) [ true ↦ length-map a.1 (moved_value conf name) | false ↦ refl ]

  pub values_there : (attrs : Attributes) → HaveValues attrs → HaveValues (moved attrs)
  values_there [] h = tt
  values_there (a ∷ attrs) h = (ap (nat_lt 0) (length_stays a) ∙ h.0, values_there attrs h.1)

  pub single_stays : (attrs : Attributes) → are_single conf.types (moved attrs) ≡ are_single conf.types attrs
  single_stays [] = refl
  single_stays (a ∷ attrs) = (λ i. (not ((type_at conf.types a.0).single_value) || nat_le (length_stays a i) 1) && single_stays attrs i)

  -- ---- values of other types

  one_stays : (a : Attribute) → has_name_syntax conf.types a.0 ≡ false → (moved_attribute conf name a).1 ≡ a.1
  one_stays a other = ap (λ b. cond b (map (moved_value conf name) a.1) a.1) other

  looked_up : (t : ℕ) (attrs : Attributes) → ((u : ℕ) → nat_eq t u ≡ true → has_name_syntax conf.types u ≡ false) → lookup (nat_eq t) (moved attrs) ≡ lookup (nat_eq t) attrs
  looked_up t [] other = refl
  looked_up t (a ∷ attrs) other = elim (nat_eq t a.0) as (λ b. nat_eq t a.0 ≡ b → cond b (Some (moved_attribute conf name a).1) (lookup (nat_eq t) (moved attrs)) ≡ cond b (Some a.1) (lookup (nat_eq t) attrs)) [
    | true ↦ λ same. ap (λ (vs : List (List ℕ)). Some vs) (one_stays a (other a.0 same))
    | false ↦ λ same. looked_up t attrs other
  ] refl

  pub values_stay : (t : ℕ) (attrs : Attributes) → ((u : ℕ) → nat_eq t u ≡ true → has_name_syntax conf.types u ≡ false) → values_of (moved attrs) t ≡ values_of attrs t
  values_stay t attrs other = ap (λ (o : Option (List (List ℕ))). unwrap_or o []) (looked_up t attrs other)

  module _ (t : ℕ) (other : has_name_syntax conf.types t ≡ false) where
    pub of_type_stay : (attrs : Attributes) → values_of (moved attrs) t ≡ values_of attrs t
    of_type_stay attrs = values_stay t attrs (λ u same. subst (λ k. has_name_syntax conf.types k ≡ false) (eqb-true t u same) other)

  -- the values of an RDN are there as before
  pub rdn_stays : (rdn : TypedRdn) (attrs : Attributes) → AllByRecursion (IsAva conf.types) rdn → AllByRecursion (λ (p : Ava). has_equal conf.types p.0 p.1 (values_of attrs p.0) ≡ true) rdn
      → AllByRecursion (λ (p : Ava). has_equal conf.types p.0 p.1 (values_of (moved attrs) p.0) ≡ true) rdn
  rdn_stays [] attrs is there = tt
  rdn_stays (p ∷ ps) attrs is there =
      (ap (has_equal conf.types p.0 p.1) (of_type_stay p.0 is.0.no_name attrs) ∙ there.0, rdn_stays ps attrs is.1 there.1)

  -- ---- classes

  module _ (ok : IsConf conf) where
    class_is_no_name : has_name_syntax conf.types 0 ≡ false
    class_is_no_name = ap (λ (t : AttributeType). is_syntax type_syntaxes.Name t.syntax) ok.first

    classes_stay : (attrs : Attributes) → classes_of conf (moved attrs) ≡ classes_of conf attrs
    classes_stay attrs = ap (λ (vs : List (List ℕ)). with_superclasses conf.classes (named_classes conf.classes vs)) (of_type_stay 0 class_is_no_name attrs)

    required_stays : (attrs : Attributes) (cs : List ℕ) → has_required conf.classes (moved attrs) cs ≡ has_required conf.classes attrs cs
    required_stays attrs cs = λ i. list_all (λ c. list_all (λ t. any_stays (nat_eq t) attrs i) (class_at conf.classes c).must) cs

    allowed_stays : (attrs : Attributes) (cs : List ℕ) → are_allowed conf cs (moved attrs) ≡ are_allowed conf cs attrs
    allowed_stays attrs cs = all_stays (is_allowed conf cs) attrs

    fits_stays : (attrs : Attributes) → fits_classes conf (moved attrs) ≡ fits_classes conf attrs
    unfolding fits_classes
    fits_stays attrs = λ i.
        are_classes conf.classes (of_type_stay 0 class_is_no_name attrs i)
        && (((λ j. has_required conf.classes (moved attrs) (classes_stay attrs j)) ∙ required_stays attrs (classes_of conf attrs)) i
        && ((λ j. are_allowed conf (classes_stay attrs j) (moved attrs)) ∙ allowed_stays attrs (classes_of conf attrs)) i)

    pub class_stays : (attrs : Attributes) → has_its_classes conf (moved attrs) ≡ has_its_classes conf attrs
    class_stays attrs = λ i. any_stays (nat_eq 0) attrs i && (not (defines_classes conf) || fits_stays attrs i)

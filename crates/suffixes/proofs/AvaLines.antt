-- Attributes one value after the other.
use Rattle.std.proofs.Common.{◌≡◌, ℕ, ◌<◌, List, [], ◌∷◌, ◌++◌, length, map, refl, sym, ap, subst, ◌∙◌}
use Rattle.std.specs.List.{AllByRecursion}
use Rattle.std.proofs.lemmas.List.{map-append}
use Rattle.ldif.specs.Attrs.{Attr}
use Rattle.values.specs.declared.types.AttributeType.{AttributeType}
use Rattle.values.specs.Types.{name_of}
use Rattle.schema.specs.Rdns.{Ava}
use Rattle.schema.specs.Conf.{Conf}
use Rattle.entries.specs.Entries.{Attributes, attribute_lines, lines_of}
use Rattle.entries.specs.StoredEntries.{EntryAttribute, attributes_of, IsMade, IsMadeAttribute}
use Rattle.suffixes.specs.MovedDirectories.{moved_attributes}
use Rattle.suffixes.specs.inner.Lines.{attribute_avas, avas_in, line_of, lines_in, AreKnown}

module _ (types : List AttributeType) where
  values_lines : (t : ℕ) (vs : List (List ℕ)) → lines_in types (map (λ v. (t, v)) vs) ≡ map (λ v. record { name = name_of types t; value = v }) vs
  values_lines t [] = refl
  values_lines t (v ∷ vs) = ap (λ (ls : List Attr). record { name = name_of types t; value = v } ∷ ls) (values_lines t vs)

  -- the lines of attributes, by their values one by one
  pub all_lines : (attrs : Attributes) → lines_in types (avas_in attrs) ≡ lines_of types attrs
  unfolding lines_of
  all_lines [] = refl
  all_lines (a ∷ attrs) =
      map-append (line_of types) (attribute_avas a) (avas_in attrs)
      ∙ ap (λ (ls : List Attr). ls ++ lines_in types (avas_in attrs)) (values_lines a.0 a.1)
      ∙ ap (λ (ls : List Attr). attribute_lines types a ++ ls) (all_lines attrs)

  pub avas_lines : (attrs : Attributes) (avas : List Ava) → avas ≡ avas_in attrs → lines_in types avas ≡ lines_of types attrs
  avas_lines attrs avas is = ap (lines_in types) is ∙ all_lines attrs

  both_known : (xs ys : List Ava) → AreKnown types xs → AreKnown types ys → AreKnown types (xs ++ ys)
  both_known [] ys h g = g
  both_known (x ∷ xs) ys h g = (h.0, both_known xs ys h.1 g)

  values_known : (t : ℕ) (vs : List (List ℕ)) → t < length types → AreKnown types (map (λ v. (t, v)) vs)
  values_known t [] lt = tt
  values_known t (v ∷ vs) lt = (lt, values_known t vs lt)

  types_known : (attrs : Attributes) → AllByRecursion (λ a. a.0 < length types) attrs → AreKnown types (avas_in attrs)
  types_known [] h = tt
  types_known (a ∷ attrs) h = both_known (attribute_avas a) (avas_in attrs) (values_known a.0 a.1 h.0) (types_known attrs h.1)

  made_known : (attrs : List EntryAttribute) → AllByRecursion (IsMadeAttribute types) attrs → AllByRecursion (λ a. a.0 < length types) (attributes_of attrs)
  made_known [] h = tt
  made_known (a ∷ attrs) h = (h.0.known, made_known attrs h.1)

  -- each value of an entry is of a type that there is
  pub avas_known : (attrs : List EntryAttribute) (avas : List Ava) → IsMade types attrs → avas ≡ avas_in (attributes_of attrs) → AreKnown types avas
  avas_known attrs avas made is = subst (AreKnown types) (sym is) (types_known (attributes_of attrs) (made_known attrs made.each))

moved_types : (conf : Conf) (name : List ℕ) (attrs : Attributes) → AllByRecursion (λ a. a.0 < length conf.types) attrs → AllByRecursion (λ a. a.0 < length conf.types) (moved_attributes conf name attrs)
moved_types conf name [] h = tt
moved_types conf name (a ∷ attrs) h = (h.0, moved_types conf name attrs h.1)

-- so it is with those that are moved
pub moved_known : (conf : Conf) (name : List ℕ) (attrs : List EntryAttribute) (avas : List Ava) → IsMade conf.types attrs → avas ≡ avas_in (moved_attributes conf name (attributes_of attrs)) → AreKnown conf.types avas
moved_known conf name attrs avas made is =
    subst (AreKnown conf.types) (sym is) (types_known conf.types (moved_attributes conf name (attributes_of attrs)) (moved_types conf name (attributes_of attrs) (made_known conf.types attrs made.each)))

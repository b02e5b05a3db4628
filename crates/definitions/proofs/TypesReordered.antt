-- Attribute types of the same fields in another order are read alike.
use Rattle.std.proofs.Common.{◌≡◌, ℕ, true, List, Option, filter_map, IsPermutation, refl, sym, ap, ◌∙◌, arith}
use Rattle.std.specs.Prelude.{codes}
use Rattle.std.specs.List.{AllByRecursion}
use Rattle.definitions.specs.declared.element.ElementField.{ElementField}
use Rattle.definitions.specs.declared.type_field.TypeField.{TypeField}
use Rattle.definitions.specs.declared.type_definition.TypeDefinition.{TypeDefinition}
use Rattle.definitions.specs.Words.{◌>>>◌}
use Rattle.definitions.specs.Elements.{is_word, is_some_list}
use Rattle.definitions.specs.TypeDefinitions.{with_field, with_syntax, type_definition_of}
use Rattle.definitions.specs.Grammar.{IsDefinition, AreApart, first, first_list, said, names_in, description_in, obsolete_in, extensions_in, element_said}
use Rattle.definitions.specs.TypeGrammar.{IsTypeField, type_word, element_in, superior_in, equality_in, ordering_in, substrings_in, syntax_in, single_in, collective_in, fixed_in, usage_in, type_said}
use Rattle.definitions.proofs.TypeSaid.{IsGood, IsLike, each_kind, superior_like, equality_like, ordering_like, substrings_like, syntax_like, single_like, collective_like, fixed_like, usage_like, type_puts}
use Rattle.definitions.proofs.TypesRead.{fields_good, type_form}
use Rattle.definitions.proofs.Keywords.{no_keyword}
use Rattle.definitions.proofs.Said.{passes}
use Rattle.definitions.proofs.Reordered.{said_alike, counts_alike, said_twice, put_alike}

names_like : (field : TypeField) → IsLike (codes "NAME") (λ f. element_in f >>> names_in) field
names_like = each_kind (IsLike (codes "NAME") (λ f. element_in f >>> names_in)) (λ names h. refl) (λ h. refl) (λ h. refl) (λ name h. no_keyword name h (codes "NAME") refl) (λ h. refl) (λ h. refl) (λ h. refl) (λ name h. refl) (λ name h. refl) (λ name h. refl) (λ name h. refl) (λ name h. refl) (λ usage h. refl)

description_like : (field : TypeField) → IsLike (codes "DESC") (λ f. element_in f >>> description_in) field
description_like = each_kind (IsLike (codes "DESC") (λ f. element_in f >>> description_in)) (λ names h. refl) (λ h. refl) (λ h. refl) (λ name h. no_keyword name h (codes "DESC") refl) (λ h. refl) (λ h. refl) (λ h. refl) (λ name h. refl) (λ name h. refl) (λ name h. refl) (λ name h. refl) (λ name h. refl) (λ usage h. refl)

obsolete_like : (field : TypeField) → IsLike (codes "OBSOLETE") (λ f. element_in f >>> obsolete_in) field
obsolete_like = each_kind (IsLike (codes "OBSOLETE") (λ f. element_in f >>> obsolete_in)) (λ names h. refl) (λ h. refl) (λ h. refl) (λ name h. no_keyword name h (codes "OBSOLETE") refl) (λ h. refl) (λ h. refl) (λ h. refl) (λ name h. refl) (λ name h. refl) (λ name h. refl) (λ name h. refl) (λ name h. refl) (λ usage h. refl)

module _ (fs gs : List TypeField) (good : AllByRecursion IsGood fs) (moved : IsPermutation fs gs) (apart : AreApart type_word fs) where
  same : {A : Type 0} (word : List ℕ) (says : TypeField → Option A) → ((field : TypeField) → IsLike word says field) → filter_map says fs ≡ filter_map says gs
  same word says like =
      said_alike says fs gs moved (omega (arith, apart word, counts_alike IsGood (λ f. is_word word (type_word f)) (λ f. passes (λ x. true) (says f)) like fs good))

  inner : {A : Type 0} (word : List ℕ) (says : ElementField → Option A) → ((field : TypeField) → IsLike word (λ f. element_in f >>> says) field) → filter_map says (filter_map element_in fs) ≡ filter_map says (filter_map element_in gs)
  inner word says like = said_twice element_in says fs ∙ same word (λ f. element_in f >>> says) like ∙ sym (said_twice element_in says gs)

  module _ (oid : List ℕ) (extensions : extensions_in (said element_in fs) ≡ extensions_in (said element_in gs)) where
    same_element : element_said oid (said element_in fs) ≡ element_said oid (said element_in gs)
    same_element =
        (λ i.
        record {
          oid = oid;
          names = first_list (inner (codes "NAME") names_in names_like i);
          is_described = is_some_list (inner (codes "DESC") description_in description_like i);
          is_obsolete = is_some_list (inner (codes "OBSOLETE") obsolete_in obsolete_like i);
          extensions = extensions i;
        })

    same_type : type_said oid fs ≡ type_said oid gs
    same_type =
        (λ i.
        record {
          element = same_element i;
          superior = first (same (codes "SUP") superior_in superior_like i);
          equality = first (same (codes "EQUALITY") equality_in equality_like i);
          ordering = first (same (codes "ORDERING") ordering_in ordering_like i);
          substrings = first (same (codes "SUBSTR") substrings_in substrings_like i);
          syntax = first (same (codes "SYNTAX") syntax_in syntax_like i);
          is_single_value = is_some_list (same (codes "SINGLE-VALUE") single_in single_like i);
          is_collective = is_some_list (same (codes "COLLECTIVE") collective_in collective_like i);
          is_fixed = is_some_list (same (codes "NO-USER-MODIFICATION") fixed_in fixed_like i);
          usage = first (same (codes "USAGE") usage_in usage_like i);
        })

pub types_reordered : (text other oid : List ℕ) (fields others : List TypeField) → IsDefinition IsTypeField text oid fields → IsDefinition IsTypeField other oid others → IsPermutation fields others
    → extensions_in (said element_in fields) ≡ extensions_in (said element_in others) → type_definition_of text ≡ type_definition_of other
types_reordered text other oid fields others form also moved extensions =
    let good = fields_good fields form.tokens form.fields_are in
    type_form text oid fields form
    ∙ ap (λ (o : Option TypeDefinition). o >>> with_syntax)
    (put_alike with_field type_word IsGood (type_said oid) (type_puts oid) fields others good (fields_good others also.tokens also.fields_are) moved (λ apart. same_type fields others good moved apart oid extensions))
    ∙ sym (type_form other oid others also)

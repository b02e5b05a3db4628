-- Object classes of the same fields in another order are read alike.
use Rattle.std.proofs.Common.{◌≡◌, ℕ, true, List, Option, filter_map, IsPermutation, refl, sym, ◌∙◌, arith}
use Rattle.std.specs.Prelude.{codes}
use Rattle.std.specs.List.{AllByRecursion}
use Rattle.definitions.specs.declared.element.ElementField.{ElementField}
use Rattle.definitions.specs.declared.class_definition.ClassField.{ClassField}
use Rattle.definitions.specs.Words.{◌>>>◌}
use Rattle.definitions.specs.Elements.{is_word, is_some_list}
use Rattle.definitions.specs.ClassDefinitions.{with_field, class_definition_of}
use Rattle.definitions.specs.Grammar.{IsDefinition, AreApart, first, first_list, said, names_in, description_in, obsolete_in, extensions_in, element_said}
use Rattle.definitions.specs.ClassGrammar.{IsClassField, class_word, element_in, superiors_in, must_in, may_in, kind_in, class_said}
use Rattle.definitions.proofs.ClassSaid.{IsGood, IsLike, each_kind, superiors_like, must_like, may_like, kind_like, class_puts}
use Rattle.definitions.proofs.ClassesRead.{fields_good, class_form}
use Rattle.definitions.proofs.Keywords.{no_keyword}
use Rattle.definitions.proofs.Said.{passes}
use Rattle.definitions.proofs.Reordered.{said_alike, counts_alike, said_twice, put_alike}

names_like : (field : ClassField) → IsLike (codes "NAME") (λ f. element_in f >>> names_in) field
names_like = each_kind (IsLike (codes "NAME") (λ f. element_in f >>> names_in)) (λ names h. refl) (λ h. refl) (λ h. refl) (λ name h. no_keyword name h (codes "NAME") refl) (λ names h. refl) (λ names h. refl) (λ names h. refl) (λ kind h. refl)

description_like : (field : ClassField) → IsLike (codes "DESC") (λ f. element_in f >>> description_in) field
description_like = each_kind (IsLike (codes "DESC") (λ f. element_in f >>> description_in)) (λ names h. refl) (λ h. refl) (λ h. refl) (λ name h. no_keyword name h (codes "DESC") refl) (λ names h. refl) (λ names h. refl) (λ names h. refl) (λ kind h. refl)

obsolete_like : (field : ClassField) → IsLike (codes "OBSOLETE") (λ f. element_in f >>> obsolete_in) field
obsolete_like = each_kind (IsLike (codes "OBSOLETE") (λ f. element_in f >>> obsolete_in)) (λ names h. refl) (λ h. refl) (λ h. refl) (λ name h. no_keyword name h (codes "OBSOLETE") refl) (λ names h. refl) (λ names h. refl) (λ names h. refl) (λ kind h. refl)

module _ (fs gs : List ClassField) (good : AllByRecursion IsGood fs) (moved : IsPermutation fs gs) (apart : AreApart class_word fs) where
  same : {A : Type 0} (word : List ℕ) (says : ClassField → Option A) → ((field : ClassField) → IsLike word says field) → filter_map says fs ≡ filter_map says gs
  same word says like =
      said_alike says fs gs moved (omega (arith, apart word, counts_alike IsGood (λ f. is_word word (class_word f)) (λ f. passes (λ x. true) (says f)) like fs good))

  inner : {A : Type 0} (word : List ℕ) (says : ElementField → Option A) → ((field : ClassField) → IsLike word (λ f. element_in f >>> says) field) → filter_map says (filter_map element_in fs) ≡ filter_map says (filter_map element_in gs)
  inner word says like = said_twice element_in says fs ∙ same word (λ f. element_in f >>> says) like ∙ sym (said_twice element_in says gs)

  module _ (oid : List ℕ) (extensions : extensions_in (said element_in fs) ≡ extensions_in (said element_in gs)) where
    same_element : element_said oid (said element_in fs) ≡ element_said oid (said element_in gs)
    same_element =
        (λ i.
        record {
          oid = oid;
          names = first_list (inner (codes "NAME") names_in names_like i);
          is_described = is_some_list (inner (codes "DESC") description_in description_like i);
          is_obsolete = is_some_list (inner (codes "OBSOLETE") obsolete_in obsolete_like i);
          extensions = extensions i;
        })

    same_class : class_said oid fs ≡ class_said oid gs
    same_class =
        (λ i.
        record {
          element = same_element i;
          superiors = first_list (same (codes "SUP") superiors_in superiors_like i);
          kind = first (same (codes "KIND") kind_in kind_like i);
          must = first_list (same (codes "MUST") must_in must_like i);
          may = first_list (same (codes "MAY") may_in may_like i);
        })

pub classes_reordered : (text other oid : List ℕ) (fields others : List ClassField) → IsDefinition IsClassField text oid fields → IsDefinition IsClassField other oid others → IsPermutation fields others
    → extensions_in (said element_in fields) ≡ extensions_in (said element_in others) → class_definition_of text ≡ class_definition_of other
classes_reordered text other oid fields others form also moved extensions =
    let good = fields_good fields form.tokens form.fields_are in
    class_form text oid fields form
    ∙ put_alike with_field class_word IsGood (class_said oid) (class_puts oid) fields others good (fields_good others also.tokens also.fields_are) moved (λ apart. same_class fields others good moved apart oid extensions)
    ∙ sym (class_form other oid others also)

-- The definition of an object class is read exactly from the texts that spell it.
use Rattle.std.proofs.Common.{◌≡◌, ℕ, List, [], ◌∷◌, ◌++◌, Option, Some, sym, ap, ◌∙◌, arith}
use Rattle.std.specs.List.{AllByRecursion}
use Rattle.definitions.specs.declared.class_definition.ClassField.{ClassField}
use Rattle.definitions.specs.declared.class_definition.ClassDefinition.{ClassDefinition}
use Rattle.definitions.specs.Words.{◌>>>◌, Cut}
use Rattle.definitions.specs.Elements.{head_at, fields_to_end}
use Rattle.definitions.specs.ClassDefinitions.{field_at, with_field, empty_definition, class_with, class_definition_of}
use Rattle.definitions.specs.Tokens.{Token, Closing}
use Rattle.definitions.specs.Grammar.{AreFields, IsDefinition, AreApart}
use Rattle.definitions.specs.ClassGrammar.{IsClassField, class_word, class_said, SpellsClass}
use Rattle.definitions.proofs.There.{IfThere, bound, there, weaker}
use Rattle.definitions.proofs.Heads.{head_found, HeadStands, head_only}
use Rattle.definitions.proofs.FieldsRead.{put_all, fields_found, FieldsStand, fields_only}
use Rattle.definitions.proofs.ClassFieldsRead.{class_field_found, class_field_only}
use Rattle.definitions.proofs.Said.{all_put, put_only}
use Rattle.definitions.proofs.ClassSaid.{IsGood, class_good, class_puts}

pub fields_good : (fields : List ClassField) (tokens : List Token) → AreFields IsClassField fields tokens → AllByRecursion IsGood fields
fields_good [] tokens are = tt
fields_good (field ∷ fields) tokens are = (class_good field are.0 are.2, fields_good fields are.1 are.4)

none_apart : AreApart class_word []
none_apart word = omega arith

-- a text of this form is read as its fields put one after the other
pub class_form : (text oid : List ℕ) (fields : List ClassField) → IsDefinition IsClassField text oid fields → class_definition_of text ≡ put_all with_field (empty_definition oid) fields
unfolding class_definition_of
class_form text oid fields s =
    let h = s.text_is in
    let rest = h.2.0 in
    ap (λ (o : Option Cut). o >>> class_with) (head_found text oid (s.tokens ++ Closing ∷ []) s.oid_is h)
    ∙ fields_found field_at with_field IsClassField class_field_found fields s.tokens (empty_definition oid) rest rest s.fields_are h.2.2 (omega arith)

pub class_found : (text : List ℕ) (d : ClassDefinition) → SpellsClass text d → class_definition_of text ≡ Some d
class_found text d s =
    class_form text s.oid s.fields s.form
    ∙ all_put with_field class_word IsGood (class_said s.oid) (class_puts s.oid) [] s.fields tt (fields_good s.fields s.form.tokens s.form.fields_are) s.apart
    ∙ ap some (sym s.definition_is) where
      some : ClassDefinition → Option ClassDefinition
      some d = Some d

spelled : (text : List ℕ) (head : Cut) → HeadStands text head → (made : ClassDefinition) → FieldsStand field_at with_field IsClassField (empty_definition head.0) head.1 made → SpellsClass text made
spelled text head stands made h =
    let said = put_only with_field class_word IsGood (class_said head.0) (class_puts head.0) [] h.fields made tt (fields_good h.fields h.tokens h.are) none_apart h.is_put in
    record {
      oid = head.0;
      fields = h.fields;
      form = record { tokens = h.tokens; text_is = stands.behind (h.tokens ++ Closing ∷ []) h.text_is; oid_is = stands.oid_is; fields_are = h.are };
      apart = said.0;
      definition_is = said.1;
    }

whole : (text : List ℕ) → IfThere (SpellsClass text) (class_definition_of text)
unfolding class_definition_of
whole text =
    bound (SpellsClass text) (head_at text) class_with (λ head e.
    weaker (FieldsStand field_at with_field IsClassField (empty_definition head.0) head.1) (SpellsClass text) (fields_to_end field_at with_field (empty_definition head.0) head.1 head.1)
    (spelled text head (there (HeadStands text) (head_at text) head e (head_only text)))
    (fields_only field_at with_field IsClassField class_field_only head.1 head.1 (empty_definition head.0)))

pub class_only : (text : List ℕ) (d : ClassDefinition) → class_definition_of text ≡ Some d → SpellsClass text d
class_only text d e = there (SpellsClass text) (class_definition_of text) d e (whole text)

-- The definition of an attribute type is read exactly from the texts that spell it.
use Rattle.std.proofs.Common.{◌≡◌, ℕ, Bool, true, cond, ◌||◌, is_some, List, [], ◌∷◌, ◌++◌, Option, Some, None, sym, ap, subst, ◌∙◌, arith}
use Rattle.std.specs.List.{AllByRecursion}
use Rattle.definitions.specs.declared.type_field.TypeField.{TypeField}
use Rattle.definitions.specs.declared.type_definition.TypeDefinition.{TypeDefinition}
use Rattle.definitions.specs.Words.{◌>>>◌, Cut}
use Rattle.definitions.specs.Elements.{head_at, fields_to_end}
use Rattle.definitions.specs.TypeFields.{field_at}
use Rattle.definitions.specs.TypeDefinitions.{with_field, empty_definition, with_syntax, type_with, type_definition_of}
use Rattle.definitions.specs.Tokens.{Token, Closing}
use Rattle.definitions.specs.Grammar.{AreFields, IsDefinition, AreApart}
use Rattle.definitions.specs.TypeGrammar.{IsTypeField, type_word, type_said, SpellsType}
use Rattle.definitions.proofs.There.{IfThere, chosen, bound, there}
use Rattle.definitions.proofs.Heads.{head_found, HeadStands, head_only}
use Rattle.definitions.proofs.FieldsRead.{put_all, fields_found, FieldsStand, fields_only}
use Rattle.definitions.proofs.TypeFieldsRead.{type_field_found, type_field_only}
use Rattle.definitions.proofs.Said.{all_put, put_only}
use Rattle.definitions.proofs.TypeSaid.{IsGood, type_good, type_puts}

pub fields_good : (fields : List TypeField) (tokens : List Token) → AreFields IsTypeField fields tokens → AllByRecursion IsGood fields
fields_good [] tokens are = tt
fields_good (field ∷ fields) tokens are = (type_good field are.0 are.2, fields_good fields are.1 are.4)

none_apart : AreApart type_word []
none_apart word = omega arith

-- a text of this form is read as its fields put one after the other
pub type_form : (text oid : List ℕ) (fields : List TypeField) → IsDefinition IsTypeField text oid fields → type_definition_of text ≡ (put_all with_field (empty_definition oid) fields >>> with_syntax)
unfolding type_definition_of
type_form text oid fields s =
    let h = s.text_is in
    let rest = h.2.0 in
    ap (λ (o : Option Cut). o >>> type_with) (head_found text oid (s.tokens ++ Closing ∷ []) s.oid_is h)
    ∙ ap (λ (o : Option TypeDefinition). o >>> with_syntax) (fields_found field_at with_field IsTypeField type_field_found fields s.tokens (empty_definition oid) rest rest s.fields_are h.2.2 (omega arith))

pub type_found : (text : List ℕ) (d : TypeDefinition) → SpellsType text d → type_definition_of text ≡ Some d
type_found text d s =
    let states : (is_some (type_said s.oid s.fields).syntax || is_some (type_said s.oid s.fields).superior) ≡ true =
    subst (λ (e : TypeDefinition). (is_some e.syntax || is_some e.superior) ≡ true) s.definition_is s.states
    in
    type_form text s.oid s.fields s.form
    ∙ ap (λ (o : Option TypeDefinition). o >>> with_syntax) (all_put with_field type_word IsGood (type_said s.oid) (type_puts s.oid) [] s.fields tt (fields_good s.fields s.form.tokens s.form.fields_are) s.apart)
    ∙ ap (λ (t : Bool). cond t (some (type_said s.oid s.fields)) None) states
    ∙ ap some (sym s.definition_is) where
      some : TypeDefinition → Option TypeDefinition
      some d = Some d

spelled : (text : List ℕ) (head : Cut) → HeadStands text head → (made : TypeDefinition) → FieldsStand field_at with_field IsTypeField (empty_definition head.0) head.1 made → IfThere (SpellsType text) (with_syntax made)
spelled text head stands made h =
    let said = put_only with_field type_word IsGood (type_said head.0) (type_puts head.0) [] h.fields made tt (fields_good h.fields h.tokens h.are) none_apart h.is_put in
    chosen (SpellsType text) (is_some made.syntax || is_some made.superior) (Some made) None (λ e.
    record {
      oid = head.0;
      fields = h.fields;
      form = record { tokens = h.tokens; text_is = stands.behind (h.tokens ++ Closing ∷ []) h.text_is; oid_is = stands.oid_is; fields_are = h.are };
      apart = said.0;
      definition_is = said.1;
      states = e;
    }) (λ e. tt)

whole : (text : List ℕ) → IfThere (SpellsType text) (type_definition_of text)
unfolding type_definition_of
whole text =
    bound (SpellsType text) (head_at text) type_with (λ head e.
    bound (SpellsType text) (fields_to_end field_at with_field (empty_definition head.0) head.1 head.1) with_syntax (λ made f.
    spelled text head (there (HeadStands text) (head_at text) head e (head_only text)) made
    (there (FieldsStand field_at with_field IsTypeField (empty_definition head.0) head.1) (fields_to_end field_at with_field (empty_definition head.0) head.1 head.1) made f
    (fields_only field_at with_field IsTypeField type_field_only head.1 head.1 (empty_definition head.0)))))

pub type_only : (text : List ℕ) (d : TypeDefinition) → type_definition_of text ≡ Some d → SpellsType text d
type_only text d e = there (SpellsType text) (type_definition_of text) d e (whole text)

-- What holds of each type that a text defines.
use Rattle.std.proofs.Common.{◌≡◌, ℕ, Bool, true, false, cond, List, [], ◌∷◌, Option, Some, None, refl, subst}
use Rattle.std.specs.Prelude.{codes}
use Rattle.std.specs.List.{list_all}
use Rattle.definitions.specs.declared.element.Sort.TheVariants as sorts
use Rattle.definitions.specs.declared.element.Element.{Element}
use Rattle.definitions.specs.declared.element.ElementField.{ElementField}
use Rattle.definitions.specs.declared.element.ElementField.TheVariants as element_fields
use Rattle.definitions.specs.declared.type_field.Reference.{Reference}
use Rattle.definitions.specs.declared.type_field.Reference.TheVariants as references
use Rattle.definitions.specs.declared.type_field.Flag.{Flag}
use Rattle.definitions.specs.declared.type_field.Flag.TheVariants as flags
use Rattle.definitions.specs.declared.type_field.TypeField.{TypeField}
use Rattle.definitions.specs.declared.type_field.TypeField.TheVariants as fields
use Rattle.definitions.specs.declared.type_definition.TypeDefinition.{TypeDefinition}
use Rattle.base.specs.Naming.{is_oid, is_type_name}
use Rattle.definitions.specs.Words.{◌>>>◌, Cut, sign_at, word_at, quoted_at}
use Rattle.definitions.specs.Texts.{quoted_texts_at}
use Rattle.definitions.specs.Elements as elements
use Rattle.definitions.specs.Elements.{is_word, is_extension, is_allowed, names_field, description_field, extension_field, element_field, with_element_field, is_some_list, is_extended, ends_there, fields_to_end, numeric, head_at}
use Rattle.definitions.specs.TypeFields as types
use Rattle.definitions.specs.TypeFields.{reference_of, flag_of, refer, referred_at, usage_of, usage_field, of_element, other_field, or_flag, or_reference, field_of, field_at}
use Rattle.definitions.specs.TypeDefinitions.{with_flag, with_reference, with_element, with_field, empty_definition, with_syntax, type_with, type_definition_of}

-- what holds where there is something
abbrev IfThere : {A : Type 0} → (A → Type 0) → Option A → Type 0
IfThere P None = Unit {0}
IfThere P (Some x) = P x

either : {A : Type 0} (P : A → Type 0) (b : Bool) (x y : Option A) → IfThere P x → IfThere P y → IfThere P (cond b x y)
either P true x y h k = h
either P false x y h k = k

tested : {A : Type 0} (P : A → Type 0) (b : Bool) (x : A) → (b ≡ true → P x) → IfThere P (cond b (Some x) None)
tested P true x h = h refl
tested P false x h = tt

bound : {A B : Type 0} (P : B → Type 0) (o : Option A) (f : A → Option B) → ((a : A) → IfThere P (f a)) → IfThere P (o >>> f)
bound P None f h = tt
bound P (Some a) f h = h a

-- ---- fields

abbrev Allowed : ElementField → Type 0
Allowed (element_fields.Names names) = list_all is_type_name names ≡ true
Allowed element_fields.Description = Unit {0}
Allowed element_fields.Obsolete = Unit {0}
Allowed (element_fields.Extension name) = Unit {0}

abbrev AllowedField : TypeField → Type 0
AllowedField (fields.Element field) = Allowed field
AllowedField (fields.Flag flag) = Unit {0}
AllowedField (fields.Reference reference name) = Unit {0}
AllowedField (fields.Usage usage) = Unit {0}

abbrev ReadsElement : elements.Read → Type 0
ReadsElement x = Allowed x.0

abbrev ReadsField : types.Read → Type 0
ReadsField x = AllowedField x.0

element_allowed : (word rest : List ℕ) → IfThere ReadsElement (element_field sorts.AttributeType word rest)
unfolding element_field
element_allowed word rest =
    either ReadsElement (is_word (codes "NAME") word) _ _ (bound ReadsElement (quoted_texts_at rest) (names_field sorts.AttributeType) (λ names. tested ReadsElement (list_all (is_allowed sorts.AttributeType) names.0) (element_fields.Names names.0, names.1) (λ h. h)))
    (either ReadsElement (is_word (codes "DESC") word) _ _ (bound ReadsElement (quoted_at rest) description_field (λ part. tt))
    (either ReadsElement (is_word (codes "OBSOLETE") word) _ _ tt
    (either ReadsElement (is_extension word) _ _ (bound ReadsElement (quoted_texts_at rest) (extension_field word) (λ texts. tt)) tt)))

of_element_allowed : (o : Option elements.Read) → IfThere ReadsElement o → IfThere ReadsField (o >>> of_element)
of_element_allowed None h = tt
of_element_allowed (Some x) h = h

other_allowed : (word rest : List ℕ) → IfThere ReadsField (other_field word rest)
unfolding other_field
other_allowed word rest =
    either ReadsField (is_word (codes "USAGE") word) _ _ (bound ReadsField (word_at rest) usage_field (λ part. bound ReadsField (usage_of part.0) _ (λ usage. tt)))
    (of_element_allowed (element_field sorts.AttributeType word rest) (element_allowed word rest))

flag_allowed : (flag : Option Flag) (rest : List ℕ) (other : Option types.Read) → IfThere ReadsField other → IfThere ReadsField (or_flag flag rest other)
flag_allowed None rest other h = h
flag_allowed (Some flag) rest other h = tt

reference_allowed : (reference : Option Reference) (rest : List ℕ) (other : Option types.Read) → IfThere ReadsField other → IfThere ReadsField (or_reference reference rest other)
reference_allowed None rest other h = h
reference_allowed (Some reference) rest other h = bound ReadsField (referred_at reference rest) (refer reference) (λ name. tt)

field_allowed : (text : List ℕ) → IfThere ReadsField (field_at text)
unfolding field_at
field_allowed text = bound ReadsField (word_at text) field_of (λ word.
    reference_allowed (reference_of word.0) word.1 _ (flag_allowed (flag_of word.0) word.1 _ (other_allowed word.0 word.1)))

-- ---- definitions

pub record Named (e : Element) : Type 0 where
  pub oid : is_oid e.oid ≡ true
  pub names : list_all is_type_name e.names ≡ true

element_named : (e : Element) (field : ElementField) → Named e → Allowed field → IfThere Named (with_element_field e field)
unfolding with_element_field
element_named e (element_fields.Names names) n h = either Named (is_some_list e.names) None (Some (record e { names = names })) tt (record { oid = n.oid; names = h })
element_named e element_fields.Description n h = either Named e.is_described None (Some (record e { is_described = true })) tt (record { oid = n.oid; names = n.names })
element_named e element_fields.Obsolete n h = either Named e.is_obsolete None (Some (record e { is_obsolete = true })) tt (record { oid = n.oid; names = n.names })
element_named e (element_fields.Extension name) n h = either Named (is_extended e name) None (Some _) tt (record { oid = n.oid; names = n.names })

abbrev NamedType : TypeDefinition → Type 0
NamedType d = Named d.element

element_put : (d : TypeDefinition) (o : Option Element) → IfThere Named o → IfThere NamedType (with_element d o)
element_put d None h = tt
element_put d (Some e) h = h

flag_put : (d : TypeDefinition) (flag : Flag) → NamedType d → IfThere NamedType (with_flag d flag)
unfolding with_flag
flag_put d flags.SingleValue h = either NamedType d.is_single_value None (Some _) tt h
flag_put d flags.Collective h = either NamedType d.is_collective None (Some _) tt h
flag_put d flags.NoUserModification h = either NamedType d.is_fixed None (Some _) tt h

reference_put : (d : TypeDefinition) (reference : Reference) (name : List ℕ) → NamedType d → IfThere NamedType (with_reference d reference name)
unfolding with_reference
reference_put d references.Superior name h = either NamedType _ None (Some _) tt h
reference_put d references.Equality name h = either NamedType _ None (Some _) tt h
reference_put d references.Ordering name h = either NamedType _ None (Some _) tt h
reference_put d references.Substrings name h = either NamedType _ None (Some _) tt h
reference_put d references.Syntax name h = either NamedType _ None (Some _) tt h

field_put : (d : TypeDefinition) (field : TypeField) → NamedType d → AllowedField field → IfThere NamedType (with_field d field)
unfolding with_field
field_put d (fields.Element field) n h = element_put d (with_element_field d.element field) (element_named d.element field n h)
field_put d (fields.Flag flag) n h = flag_put d flag n
field_put d (fields.Reference reference name) n h = reference_put d reference name n
field_put d (fields.Usage usage) n h = either NamedType _ None (Some _) tt n

also : {A B : Type 0} (P : A → Type 0) (Q : B → Type 0) (o : Option A) (f : A → Option B) → IfThere P o → ((a : A) → P a → IfThere Q (f a)) → IfThere Q (o >>> f)
also P Q None f h k = tt
also P Q (Some a) f h k = k a h

fields_named : (bytes text : List ℕ) (d : TypeDefinition) → NamedType d → IfThere NamedType (fields_to_end field_at with_field d bytes text)
unfolding fields_to_end
fields_named [] text d h = tt
fields_named (b ∷ bytes) text d h =
    either NamedType (ends_there text) (Some d) _ h
    (also ReadsField NamedType (field_at text) _ (field_allowed text) (λ field allowed.
    also NamedType NamedType (with_field d field.0) _ (field_put d field.0 h allowed) (λ next named. fields_named bytes field.1 next named)))

syntax_kept : (d : TypeDefinition) → NamedType d → IfThere NamedType (with_syntax d)
syntax_kept d h = either NamedType _ (Some d) None h tt

abbrev IsHead : Cut → Type 0
IsHead head = is_oid head.0 ≡ true

head_is : (text : List ℕ) → IfThere IsHead (head_at text)
unfolding head_at
head_is text = bound IsHead (sign_at 40 text) _ (λ inside. bound IsHead (word_at inside) numeric (λ oid. tested IsHead (is_oid oid.0) oid (λ h. h)))

whole : (text : List ℕ) → IfThere NamedType (type_definition_of text)
unfolding type_definition_of
whole text = also IsHead NamedType (head_at text) type_with (head_is text) (λ head h.
    also NamedType NamedType (fields_to_end field_at with_field (empty_definition head.0) head.1 head.1) with_syntax (fields_named head.1 head.1 (empty_definition head.0) (record { oid = h; names = refl })) syntax_kept)

pub defined : (text : List ℕ) (d : TypeDefinition) → type_definition_of text ≡ Some d → Named d.element
defined text d e = subst (IfThere NamedType) e (whole text)

-- The definition of an object class (RFC 4512, 4.1.1), with its fields in any order, each at most once.
use Rattle.std.specs.Prelude.{ℕ, Bool, true, false, is_some, if◌then◌else◌, List, [], Option, Some, None, codes}
use Rattle.definitions.specs.declared.element.Element.{Element}
use Rattle.definitions.specs.declared.element.Sort.TheVariants as sorts
use Rattle.definitions.specs.declared.class_definition.ClassList.{ClassList}
use Rattle.definitions.specs.declared.class_definition.ClassList.TheVariants as lists
use Rattle.base.specs.declared.class_kind.ClassKind.{ClassKind}
use Rattle.base.specs.declared.class_kind.ClassKind.TheVariants as kinds
use Rattle.definitions.specs.declared.class_definition.ClassField.{ClassField}
use Rattle.definitions.specs.declared.class_definition.ClassField.TheVariants as fields
use Rattle.definitions.specs.declared.class_definition.ClassDefinition.{ClassDefinition}
use Rattle.definitions.specs.Words.{◌>>>◌, Cut, word_at}
use Rattle.definitions.specs.Texts.{Cuts, names_at}
use Rattle.definitions.specs.Elements as elements
use Rattle.definitions.specs.Elements.{is_word, element_field, unless, is_some_list, with_element_field, empty_element, fields_to_end, head_at}

-- ---- a field

-- those that name classes or types
unfoldable pub list_of : List ℕ → Option ClassList
list_of word =
    if is_word (codes "SUP") word then Some lists.Superiors
    else (if is_word (codes "MUST") word then Some lists.Must
    else (if is_word (codes "MAY") word then Some lists.May else None))

unfoldable pub kind_of : List ℕ → Option ClassKind
kind_of word =
    if is_word (codes "ABSTRACT") word then Some kinds.Abstract
    else (if is_word (codes "STRUCTURAL") word then Some kinds.Structural
    else (if is_word (codes "AUXILIARY") word then Some kinds.Auxiliary else None))

-- the names of classes may stand in quotes
abbrev pub may_be_quoted : ClassList → Bool
may_be_quoted lists.Superiors = true
may_be_quoted lists.Must = false
may_be_quoted lists.May = false

abbrev pub Read : Type 0
Read = ClassField × List ℕ

abbrev pub list_field : ClassList → Cuts → Option Read
list_field which names = Some (fields.List which names.0, names.1)

abbrev pub of_element : elements.Read → Option Read
of_element field = Some (fields.Element field.0, field.1)

abbrev pub or_kind : Option ClassKind → List ℕ → Option Read → Option Read
or_kind None rest other = other
or_kind (Some kind) rest other = Some (fields.Kind kind, rest)

abbrev pub or_list : Option ClassList → List ℕ → Option Read → Option Read
or_list None rest other = other
or_list (Some which) rest other = names_at (may_be_quoted which) rest >>> list_field which

abbrev pub field_of : Cut → Option Read
field_of word = or_list (list_of word.0) word.1 (or_kind (kind_of word.0) word.1 (element_field sorts.ObjectClass word.0 word.1 >>> of_element))

unfoldable pub field_at : List ℕ → Option Read
field_at text = word_at text >>> field_of

-- ---- the whole

unfoldable pub with_list : ClassDefinition → ClassList → List (List ℕ) → Option ClassDefinition
with_list d lists.Superiors names = unless (is_some_list d.superiors) (record d { superiors = names })
with_list d lists.Must names = unless (is_some_list d.must) (record d { must = names })
with_list d lists.May names = unless (is_some_list d.may) (record d { may = names })

abbrev pub with_element : ClassDefinition → Option Element → Option ClassDefinition
with_element d None = None
with_element d (Some element) = Some (record d { element = element })

unfoldable pub with_field : ClassDefinition → ClassField → Option ClassDefinition
with_field d (fields.Element field) = with_element d (with_element_field d.element field)
with_field d (fields.List which names) = with_list d which names
with_field d (fields.Kind kind) = unless (is_some d.kind) (record d { kind = Some kind })

abbrev pub empty_definition : List ℕ → ClassDefinition
empty_definition oid = record { element = empty_element oid; superiors = []; kind = None; must = []; may = [] }

abbrev pub class_with : Cut → Option ClassDefinition
class_with head = fields_to_end field_at with_field (empty_definition head.0) head.1 head.1

-- of what stands behind `objectclass`: `( OID`, the fields, and `)`
unfoldable pub class_definition_of : List ℕ → Option ClassDefinition
class_definition_of text = head_at text >>> class_with

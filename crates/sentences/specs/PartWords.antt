-- Words for types, classes and values, and for what is wrong with the lines, blocks and values of a record.
use Rattle.std.specs.Prelude.{ℕ, if◌then◌else◌, ◌==◌, List, [], ◌++◌, Option, Some, None, codes, slice_get}
use Rattle.std.specs.Fmt.{decimal}
use Rattle.std.specs.List.{list_any}
use Rattle.std.specs.Str.{str_eq_ignore_ascii_case}
use Rattle.ldif.specs.Attrs.{Attr}
use Rattle.ldif.specs.Forms.{op_word}
use Rattle.ldif.specs.declared.record.Mod.{Mod}
use Rattle.matching.specs.declared.syntax.Syntax.TheVariants as syntaxes
use Rattle.values.specs.Types.{first_or, printed_name, type_of}
use Rattle.values.specs.declared.types.AttributeType.{AttributeType}
use Rattle.values.specs.declared.types.TypeSyntax.{TypeSyntax}
use Rattle.values.specs.declared.types.TypeSyntax.TheVariants as type_syntaxes
use Rattle.schema.specs.Conf.{Conf}
use Rattle.schema.specs.declared.object_class.ObjectClass.{ObjectClass}
use Rattle.reasons.specs.declared.reason.LineReason.{LineReason}
use Rattle.reasons.specs.declared.reason.LineReason.TheVariants as line_reasons
use Rattle.reasons.specs.declared.reason.BlockReason.{BlockReason}
use Rattle.reasons.specs.declared.reason.BlockReason.TheVariants as block_reasons
use Rattle.reasons.specs.declared.reason.ValueReason.{ValueReason}
use Rattle.reasons.specs.declared.reason.ValueReason.TheVariants as value_reasons
use Rattle.sentences.specs.Shown.{shown_type, quoted}

-- ---- types and classes, by their numbers

abbrev pub words_of_type : Option AttributeType → List ℕ
words_of_type None = codes "an attribute type"
words_of_type (Some t) = shown_type (printed_name t)

-- a type by its first name, or by its OID where it has none
unfoldable pub type_words : Conf → ℕ → List ℕ
type_words conf t = words_of_type (slice_get conf.types t)

abbrev pub words_of_class : Option ObjectClass → List ℕ
words_of_class None = codes "a class"
words_of_class (Some c) = shown_type (first_or c.names c.oid)

-- a class likewise
unfoldable pub class_words : Conf → ℕ → List ℕ
class_words conf class = words_of_class (slice_get conf.classes class)

-- ---- what may be wrong with a type or a value

-- a name that no type has; with a semicolon it has attribute options, and `dn` begins a record
unfoldable pub unknown_type : List ℕ → List ℕ
unknown_type name =
    if str_eq_ignore_ascii_case name (codes "dn") then codes "a dn: line within a record; an empty line is missing before it"
    else if list_any (λ b. b == 59) name then shown_type name ++ codes ": attribute options aren't kept"
    else shown_type name ++ codes " is no attribute type of dir.conf"

-- a type that users can't change
unfoldable pub fixed_type : List ℕ → List ℕ
fixed_type name = shown_type name ++ codes ": users can't change it (NO-USER-MODIFICATION)"

-- a value behind its type
unfoldable pub named_value : List ℕ → List ℕ → List ℕ
named_value name value = shown_type name ++ codes ": " ++ quoted value

-- what a value isn't, with the OID of the syntax (RFC 4517, 3.3)
abbrev pub syntax_words : TypeSyntax → List ℕ
syntax_words type_syntaxes.Name = codes "no DN (1.3.6.1.4.1.1466.115.121.1.12) by its form or the types of dir.conf"
syntax_words (type_syntaxes.Plain syntaxes.Text) = codes "no Directory String (1.3.6.1.4.1.1466.115.121.1.15): UTF-8, not empty"
syntax_words (type_syntaxes.Plain syntaxes.Ascii) = codes "no IA5 String (1.3.6.1.4.1.1466.115.121.1.26)"
syntax_words (type_syntaxes.Plain syntaxes.Numeric) = codes "no Numeric String (1.3.6.1.4.1.1466.115.121.1.36)"
syntax_words (type_syntaxes.Plain syntaxes.Boolean) = codes "no Boolean (1.3.6.1.4.1.1466.115.121.1.7)"
syntax_words (type_syntaxes.Plain syntaxes.Integer) = codes "no Integer (1.3.6.1.4.1.1466.115.121.1.27)"
syntax_words (type_syntaxes.Plain syntaxes.Oid) = codes "no OID (1.3.6.1.4.1.1466.115.121.1.38)"
syntax_words (type_syntaxes.Plain syntaxes.Octet) = codes "no value"

abbrev pub syntax_of_type : Option AttributeType → List ℕ
syntax_of_type None = codes "no value"
syntax_of_type (Some t) = syntax_words t.syntax

-- a value that a type doesn't have
unfoldable pub no_such_value : Conf → ℕ → List ℕ → List ℕ
no_such_value conf t value =
    type_words conf t ++ codes ": " ++ quoted value ++ codes " is " ++ syntax_of_type (slice_get conf.types t)

abbrev pub bad_value_of : Conf → List ℕ → List ℕ → Option ℕ → List ℕ
bad_value_of conf name value None = unknown_type name
bad_value_of conf name value (Some t) = no_such_value conf t value

-- the same by the name of the type
unfoldable pub bad_value : Conf → List ℕ → List ℕ → List ℕ
bad_value conf name value = bad_value_of conf name value (type_of conf.types name)

-- ---- lines of an add

abbrev pub on_line : Option ℕ → List ℕ
on_line None = codes " before it"
on_line (Some number) = codes " on line " ++ decimal number

abbrev pub equal_to : Option Attr → Option ℕ → List ℕ
equal_to None number = codes " stands twice"
equal_to (Some other) number = codes " equals " ++ quoted other.value ++ on_line number

-- a line of these; an earlier one, with an equal value, begins on a line of the text with this number
abbrev pub line_words : Conf → List Attr → Option ℕ → Attr → LineReason → List ℕ
line_words conf lines number l line_reasons.UnknownType = unknown_type l.name
line_words conf lines number l line_reasons.UsersCantChange = fixed_type l.name
line_words conf lines number l line_reasons.BadSyntax = bad_value conf l.name l.value
line_words conf lines number l (line_reasons.EqualTo earlier) = named_value l.name l.value ++ equal_to (slice_get lines earlier) number

-- ---- blocks of a modify

-- what a block is to do, and words round its type
unfoldable pub operation_words : Mod → List ℕ → List ℕ → List ℕ
operation_words block before behind = op_word block.op ++ codes ": " ++ before ++ shown_type block.attr ++ behind

abbrev pub block_words : Mod → BlockReason → List ℕ
block_words block block_reasons.UnknownType = unknown_type block.attr
block_words block block_reasons.UsersCantChange = fixed_type block.attr
block_words block block_reasons.NoValues = operation_words block [] (codes " has no values to add")
block_words block block_reasons.NoEquality =
    operation_words block [] (codes " has no equality rule, so its values can't be compared; replace them")
block_words block block_reasons.NoAttribute = operation_words block (codes "the entry has no ") []

-- ---- values of a block

abbrev pub equal_words : Option (List ℕ) → List ℕ
equal_words None = codes " stands twice in the block"
equal_words (Some other) = codes " is there already, as " ++ quoted other

-- a value of a type with this name; perhaps an equal one is there, spelled so
abbrev pub value_words : Conf → Option (List ℕ) → List ℕ → List ℕ → ValueReason → List ℕ
value_words conf there name value value_reasons.BadSyntax = bad_value conf name value
value_words conf there name value value_reasons.EqualValue = named_value name value ++ equal_words there
value_words conf there name value value_reasons.NoValue = named_value name value ++ codes " isn't there"

-- What may be wrong with a line of an add, which has a type and a value (RFC 4511, 4.7), in the order of the checks; and what the lines make.
use Rattle.std.specs.Prelude.{◌≡◌, ℕ, true, false, List, [], fold, take, Option, Some, None}
use Rattle.std.specs.List.{Any, slice_get}
use Rattle.ldif.specs.Attrs.{Attr}
use Rattle.ldif.specs.declared.record.Mode.{Mode}
use Rattle.values.specs.declared.types.AttributeType.{AttributeType}
use Rattle.values.specs.Types.{type_of}
use Rattle.schema.specs.declared.code.Code.{Code}
use Rattle.schema.specs.declared.code.Code.TheVariants.{UndefinedAttributeType, ConstraintViolation, AttributeOrValueExists, InvalidAttributeSyntax}
use Rattle.schema.specs.Conf.{Conf, own_rdn}
use Rattle.schema.specs.Rdns.{TypedRdn}
use Rattle.schema.specs.Values.{is_valid_at, are_equal}
use Rattle.entries.specs.Entries.{Attributes, push_value, is_barred, with_rdn}

-- ---- the entry that lines make

-- a value behind those of its type, if that is known
abbrev pub put_typed : Attributes → List ℕ → Option ℕ → Attributes
put_typed attrs v None = attrs
put_typed attrs v (Some t) = push_value attrs t v

-- a line's value behind those of its type
abbrev pub put_line : List AttributeType → Attributes → Attr → Attributes
put_line types attrs l = put_typed attrs l.value (type_of types l.name)

-- the values of all lines, in order
abbrev pub gathered : List AttributeType → List Attr → Attributes
gathered types lines = fold (put_line types) [] lines

-- with those of its RDN, where these RDNs lead to it from the suffix down
abbrev pub attrs_of_lines : Conf → List TypedRdn → List Attr → Attributes
attrs_of_lines conf rdns lines = with_rdn conf.types (own_rdn conf rdns) (gathered conf.types lines)

-- ---- the line with an index, from 0 on

-- what may be wrong with it
pub data LineFlaw : Type 0 where
  -- no type has its name
  UnknownType : LineFlaw
  -- users can't change values of its type, and a user adds the entry
  UsersCantChange : LineFlaw
  -- its type has no such value
  BadSyntax : LineFlaw
  -- an earlier line has its type and an equal value
  EqualValue : LineFlaw

-- it is this line, and names this type
abbrev pub IsLine : Conf → List Attr → ℕ → Attr → ℕ → Type 0
IsLine conf lines i l t = (slice_get lines i ≡ Some l) × (type_of conf.types l.name ≡ Some t)

-- a line says a value of this type that equals this one
abbrev pub SaysEqual : Conf → ℕ → List ℕ → Attr → Type 0
SaysEqual conf t v l = (type_of conf.types l.name ≡ Some t) × (are_equal conf.types t l.value v ≡ true)

-- whether it has a flaw
abbrev pub HasLineFlaw : Conf → Mode → List Attr → ℕ → LineFlaw → Type 0
HasLineFlaw conf mode lines i UnknownType = (l : Attr) × (slice_get lines i ≡ Some l) × (type_of conf.types l.name ≡ None)
HasLineFlaw conf mode lines i UsersCantChange = (l : Attr) × (t : ℕ) × IsLine conf lines i l t × (is_barred mode conf.types t ≡ true)
HasLineFlaw conf mode lines i BadSyntax = (l : Attr) × (t : ℕ) × IsLine conf lines i l t × (is_valid_at conf.types t l.value ≡ false)
HasLineFlaw conf mode lines i EqualValue = (l : Attr) × (t : ℕ) × IsLine conf lines i l t × Any (SaysEqual conf t l.value) (take i lines)

-- the code of each
abbrev pub line_flaw_code : LineFlaw → Code
line_flaw_code UnknownType = UndefinedAttributeType
line_flaw_code UsersCantChange = ConstraintViolation
line_flaw_code BadSyntax = InvalidAttributeSyntax
line_flaw_code EqualValue = AttributeOrValueExists

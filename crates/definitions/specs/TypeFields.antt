-- The fields of an attribute type's definition (RFC 4512, 4.1.2).
use Rattle.std.specs.Prelude.{ℕ, Bool, true, ◌&&◌, ◌==◌, nat_lt, ◌-◌, if◌then◌else◌, List, [], ◌∷◌, take, drop, length, Option, Some, None, codes}
use Rattle.std.specs.List.{list_all}
use Rattle.std.specs.Char.{is_ascii_digit}
use Rattle.base.specs.Ascii.{left_brace, right_brace}
use Rattle.definitions.specs.declared.element.Sort.TheVariants as sorts
use Rattle.definitions.specs.declared.type_field.Reference.{Reference}
use Rattle.definitions.specs.declared.type_field.Reference.TheVariants as references
use Rattle.definitions.specs.declared.type_field.Flag.{Flag}
use Rattle.definitions.specs.declared.type_field.Flag.TheVariants as flags
use Rattle.definitions.specs.declared.type_field.Usage.{Usage}
use Rattle.definitions.specs.declared.type_field.Usage.TheVariants as usages
use Rattle.definitions.specs.declared.type_field.TypeField.{TypeField}
use Rattle.definitions.specs.declared.type_field.TypeField.TheVariants as fields
use Rattle.base.specs.Naming.{is_oid}
use Rattle.base.specs.Ends.{begins_with}
use Rattle.definitions.specs.Words.{◌>>>◌, Cut, end_of, word_at, plain_or_quoted_at, plain_or_named_at}
use Rattle.definitions.specs.Elements as elements
use Rattle.definitions.specs.Elements.{is_word, element_field}

-- ---- field words

-- those that name a type, a rule or a syntax
unfoldable pub reference_of : List ℕ → Option Reference
reference_of word =
    if is_word (codes "SUP") word then Some references.Superior
    else (if is_word (codes "EQUALITY") word then Some references.Equality
    else (if is_word (codes "ORDERING") word then Some references.Ordering
    else (if is_word (codes "SUBSTR") word then Some references.Substrings
    else (if is_word (codes "SYNTAX") word then Some references.Syntax else None))))

-- those that stand alone
unfoldable pub flag_of : List ℕ → Option Flag
flag_of word =
    if is_word (codes "SINGLE-VALUE") word then Some flags.SingleValue
    else (if is_word (codes "COLLECTIVE") word then Some flags.Collective
    else (if is_word (codes "NO-USER-MODIFICATION") word then Some flags.NoUserModification else None))

-- the words behind USAGE
unfoldable pub usage_of : List ℕ → Option Usage
usage_of word =
    if is_word (codes "userApplications") word then Some usages.UserApplications
    else (if is_word (codes "directoryOperation") word then Some usages.DirectoryOperation
    else (if is_word (codes "distributedOperation") word then Some usages.DistributedOperation
    else (if is_word (codes "dSAOperation") word then Some usages.DsaOperation else None)))

-- ---- what stands behind them

-- an OID without its length, `{64}`
abbrev pub is_brace : ℕ → Bool
is_brace b = b == left_brace

-- digits, and a brace that closes
abbrev pub is_closed : List ℕ → Bool
is_closed text = nat_lt 1 (length text) && list_all is_ascii_digit (take (length text - 1) text) && begins_with right_brace (drop (length text - 1) text)

abbrev pub is_length : List ℕ → Bool
is_length [] = true
is_length (b ∷ bs) = is_closed bs

unfoldable pub syntax_oid : List ℕ → Option (List ℕ)
syntax_oid text =
    if is_oid (take (end_of is_brace text) text) && is_length (drop (end_of is_brace text) text) then Some (take (end_of is_brace text) text) else None

abbrev pub without_length : Cut → Option Cut
without_length part = syntax_oid part.0 >>> λ oid. Some (oid, part.1)

-- in quotes stands a name or an OID; behind SYNTAX an OID, with its length
unfoldable pub referred_at : Reference → List ℕ → Option Cut
referred_at references.Syntax text = plain_or_quoted_at text >>> without_length
referred_at references.Superior text = plain_or_named_at text
referred_at references.Equality text = plain_or_named_at text
referred_at references.Ordering text = plain_or_named_at text
referred_at references.Substrings text = plain_or_named_at text

abbrev pub Read : Type 0
Read = TypeField × List ℕ

abbrev pub refer : Reference → Cut → Option Read
refer reference name = Some (fields.Reference reference name.0, name.1)

abbrev pub usage_field : Cut → Option Read
usage_field part = usage_of part.0 >>> λ usage. Some (fields.Usage usage, part.1)

abbrev pub of_element : elements.Read → Option Read
of_element field = Some (fields.Element field.0, field.1)

-- a field with a word that is none of those above
unfoldable pub other_field : List ℕ → List ℕ → Option Read
other_field word rest =
    if is_word (codes "USAGE") word then (word_at rest >>> usage_field)
    else (element_field sorts.AttributeType word rest >>> of_element)

abbrev pub or_flag : Option Flag → List ℕ → Option Read → Option Read
or_flag None rest other = other
or_flag (Some flag) rest other = Some (fields.Flag flag, rest)

abbrev pub or_reference : Option Reference → List ℕ → Option Read → Option Read
or_reference None rest other = other
or_reference (Some reference) rest other = referred_at reference rest >>> refer reference

abbrev pub field_of : Cut → Option Read
field_of word = or_reference (reference_of word.0) word.1 (or_flag (flag_of word.0) word.1 (other_field word.0 word.1))

unfoldable pub field_at : List ℕ → Option Read
field_at text = word_at text >>> field_of

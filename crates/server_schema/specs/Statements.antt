-- What a line of a schema's text says: slapd.conf(5) has a directive in front, LDIF the name of an attribute, as in cn=config, in cn=Subschema (RFC
-- 4512, 4.2) and in the files of 389 Directory Server.
use Rattle.std.specs.Prelude.{ℕ, ◌+◌, Bool, ◌||◌, ◌==◌, if◌then◌else◌, List, [], ◌∷◌, take, drop, map, position, Option, Some, None, Result, Ok, Err, codes}
use Rattle.std.specs.List.{flat_map}
use Rattle.std.specs.Str.{str_eq_ignore_ascii_case}
use Rattle.base.specs.Ascii.{line_feed, carriage_return, space, colon, left_brace, right_brace}
use Rattle.base.specs.Ends.{begins_with, without_front, without_end}
use Rattle.definitions.specs.Words.{skip, first_word, after_word}
use Rattle.base64.specs.GeneralPurpose.{decode_of}
use Rattle.base64.specs.Engines.{standard}
use Rattle.base64.specs.declared.decode.DecodeError.{DecodeError}
use Rattle.server_schema.specs.Sources.{is_colon, is_ldif, source_lines}
use Rattle.server_schema.specs.declared.definition.Sort.TheVariants.{AttributeType, ObjectClass}
use Rattle.server_schema.specs.declared.statements.Word.{Word}
use Rattle.server_schema.specs.declared.statements.Word.TheVariants.{Definition, Macro}
use Rattle.server_schema.specs.declared.statements.Statement.{Statement}

abbrev pub is_word : List ℕ → List ℕ → Bool
is_word word text = str_eq_ignore_ascii_case text word

-- ---- the words

-- directives of slapd.conf
abbrev pub directive : List ℕ → Option Word
directive word =
    if is_word (codes "attributetype") word then Some (Definition AttributeType)
    else (if is_word (codes "objectclass") word then Some (Definition ObjectClass)
    else (if is_word (codes "objectidentifier") word then Some Macro else None))

-- attributes of a subschema, and of cn=config
abbrev pub ldif_word : List ℕ → Option Word
ldif_word name =
    if is_word (codes "attributeTypes") name || is_word (codes "olcAttributeTypes") name then Some (Definition AttributeType)
    else (if is_word (codes "objectClasses") name || is_word (codes "olcObjectClasses") name then Some (Definition ObjectClass)
    else (if is_word (codes "olcObjectIdentifier") name then Some Macro else None))

-- ---- what stands behind them

abbrev pub or_else : List ℕ → Result (List ℕ) DecodeError → List ℕ
or_else rest (Ok bytes) = bytes
or_else rest (Err e) = rest

-- what a text says in standard base64 with padding; where it is none, what stands there
unfoldable pub decoded_or : List ℕ → List ℕ → List ℕ
decoded_or text rest = or_else rest (decode_of standard text)

-- behind a second colon stands base64
abbrev pub value_behind : List ℕ → List ℕ
value_behind rest = if begins_with colon rest then decoded_or (without_end (without_front (drop 1 rest))) rest else without_front rest

abbrev pub is_right_brace : ℕ → Bool
is_right_brace b = b == right_brace

abbrev pub behind_brace : List ℕ → Option ℕ → List ℕ
behind_brace value None = value
behind_brace value (Some at) = drop 1 (drop at value)

-- cn=config has the place of a value in front of it, as `{3}`
abbrev pub without_number : List ℕ → List ℕ
without_number value = if begins_with left_brace value then behind_brace value (position is_right_brace value) else value

abbrev pub in_line : ℕ → ℕ
in_line b = if b == line_feed || b == carriage_return then space else b

-- in one line, without the blanks in front
abbrev pub said_in : List ℕ → List ℕ
said_in text = map in_line (skip text)

-- ---- statements

abbrev pub ldif_said : List ℕ → ℕ → Option Word → Option Statement
ldif_said line at None = None
ldif_said line at (Some word) = Some (record { word = word; text = said_in (without_number (value_behind (drop (at + 1) line))) })

abbrev pub named_to : List ℕ → Option ℕ → Option Statement
named_to line None = None
named_to line (Some at) = ldif_said line at (ldif_word (take at line))

abbrev pub ldif_statement : List ℕ → Option Statement
ldif_statement line = named_to line (position is_colon line)

abbrev pub conf_said : List ℕ → Option Word → Option Statement
conf_said line None = None
conf_said line (Some word) = Some (record { word = word; text = said_in (after_word line) })

abbrev pub conf_statement : List ℕ → Option Statement
conf_statement line = conf_said line (directive (first_word line))

abbrev pub said : List ℕ → Option Statement
said line = if is_ldif line then ldif_statement line else conf_statement line

abbrev pub all_said : Option Statement → List Statement
all_said None = []
all_said (Some statement) = statement ∷ []

-- other lines say nothing of a schema
abbrev pub statements_on : List (List ℕ) → List Statement
statements_on lines = flat_map (λ line. all_said (said line)) lines

unfoldable pub statements_in : List ℕ → List Statement
statements_in text = statements_on (source_lines text)

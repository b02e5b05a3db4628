-- Value lines: a name, and one of three forms of a value (RFC 2849, "Formal Syntax Definition of LDIF": attrval-spec, value-spec).
use Rattle.std.specs.Prelude.{ℕ, ◌+◌, Bool, ◌==◌, if◌then◌else◌, List, take, drop, Option, Some, None, Result, Ok, Err, position, map}
use Rattle.std.specs.Char.{to_ascii_lowercase}
use Rattle.std.specs.Str.{bytes_eq}
use Rattle.base64.specs.GeneralPurpose.{decode_of}
use Rattle.base64.specs.Engines.{standard}
use Rattle.base64.specs.declared.decode.DecodeError.{DecodeError}
use Rattle.base.specs.Ascii.{colon, less_than_sign, space}
use Rattle.base.specs.Ends.{begins_with, without_front, without_end}
use Rattle.ldif.specs.declared.fault.LdifFaultKind.{LdifFaultKind}
use Rattle.ldif.specs.declared.fault.LdifFaultKind.TheVariants.{ColonMissing, Url, Base64, Continuation}
use Rattle.ldif.specs.Attrs.{Attr}
use Rattle.base.specs.Answers.{◌>>=◌}

abbrev pub or_base64 : Result (List ℕ) DecodeError → Result (List ℕ) LdifFaultKind
or_base64 (Ok bytes) = Ok bytes
or_base64 (Err e) = Err Base64

-- what a text says in standard base64 with padding
unfoldable pub decoded : List ℕ → Result (List ℕ) LdifFaultKind
decoded text = or_base64 (decode_of standard text)

-- the value, by what stands after the first colon
unfoldable pub form_of : List ℕ → Result (List ℕ) LdifFaultKind
form_of rest =
    if begins_with colon rest then decoded (without_end (without_front (drop 1 rest)))
    else if begins_with less_than_sign rest then Err Url
    else Ok (without_front rest)

abbrev pub is_colon : ℕ → Bool
is_colon b = b == colon

abbrev pub value_at : List ℕ → Option ℕ → Result Attr LdifFaultKind
value_at line None = Err ColonMissing
value_at line (Some at) = if at == 0 then Err ColonMissing else do
  value ← form_of (drop (at + 1) line)
  Ok (record { name = take at line; value = value })

-- the name up to the first colon, which is not empty, and the value
unfoldable pub value_of : List ℕ → Result Attr LdifFaultKind
value_of line = value_at line (position is_colon line)

-- a line of a record: where it still begins with a space, it continues no line
unfoldable pub value_line : List ℕ → Result Attr LdifFaultKind
value_line line = if begins_with space line then Err Continuation else value_of line

abbrev pub lower : List ℕ → List ℕ
lower text = map to_ascii_lowercase text

-- whether two names are the same without ASCII case
abbrev pub same_name : List ℕ → List ℕ → Bool
same_name a b = bytes_eq (lower a) (lower b)

-- the same of a value word, where spaces at the end of the text are dropped
abbrev pub is_word : List ℕ → List ℕ → Bool
is_word text word = same_name (without_end text) word

-- the value of a line of this name, or the fault of one of another name
unfoldable pub value_named : LdifFaultKind → List ℕ → List ℕ → Result (List ℕ) LdifFaultKind
value_named other name line = do
  attr ← value_line line
  if same_name attr.name name then Ok attr.value else Err other

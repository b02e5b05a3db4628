-- Which values a syntax has (RFC 4517, 3.3).
use Rattle.std.specs.Prelude.{ℕ, Bool, ◌&&◌, ◌||◌, not, ◌==◌, nat_lt, List, length, codes}
use Rattle.std.specs.List.{list_all}
use Rattle.std.specs.Char.{is_ascii_digit}
use Rattle.std.specs.Str.{is_utf8, bytes_eq}
use Rattle.base.specs.Ascii.{space}
use Rattle.matching.specs.declared.syntax.Syntax.{Syntax}
use Rattle.matching.specs.declared.syntax.Syntax.TheVariants as syntaxes
use Rattle.matching.specs.Integers.{is_integer}

abbrev pub is_byte : ℕ → Bool
is_byte b = nat_lt b 256

abbrev pub is_ascii : ℕ → Bool
is_ascii b = nat_lt b 128

abbrev pub is_digit_or_space : ℕ → Bool
is_digit_or_space b = is_ascii_digit b || b == space

-- ASCII without the space
abbrev pub is_oid_byte : ℕ → Bool
is_oid_byte b = is_ascii b && not (b == space)

abbrev pub is_some_text : List ℕ → Bool
is_some_text bytes = not (length bytes == 0)

abbrev pub is_boolean : List ℕ → Bool
is_boolean bytes = bytes_eq bytes (codes "TRUE") || bytes_eq bytes (codes "FALSE")

unfoldable pub is_valid : Syntax → List ℕ → Bool
is_valid syntaxes.Text bytes = is_some_text bytes && is_utf8 bytes
is_valid syntaxes.Ascii bytes = list_all is_ascii bytes
is_valid syntaxes.Numeric bytes = is_some_text bytes && list_all is_digit_or_space bytes
is_valid syntaxes.Boolean bytes = is_boolean bytes
is_valid syntaxes.Integer bytes = is_integer bytes
is_valid syntaxes.Oid bytes = is_some_text bytes && list_all is_oid_byte bytes
is_valid syntaxes.Octet bytes = list_all is_byte bytes

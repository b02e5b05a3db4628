-- How a name and a value are written (RFC 2849, notes 2, 4 and 6).
use Rattle.std.specs.Prelude.{ℕ, Bool, not, ◌&&◌, ◌||◌, ◌==◌, nat_le, List, ◌++◌, length, codes, if◌then◌else◌}
use Rattle.std.specs.List.{list_all}
use Rattle.base64.specs.GeneralPurpose.{encode_of}
use Rattle.base64.specs.Engines.{standard}
use Rattle.base.specs.Ascii.{line_feed, carriage_return, space, colon, less_than_sign}
use Rattle.base.specs.Ends.{begins_with, ends_with}
use Rattle.ldif_lines.specs.Folding.{folded_line, standard_width}

-- ASCII without NUL and without what ends a line
abbrev pub is_safe_byte : ℕ → Bool
is_safe_byte b = nat_le 1 b && nat_le b 127 && not (b == line_feed) && not (b == carriage_return)

-- ASCII from the space on, as most bytes of a value are; each of these is safe
abbrev pub is_common_byte : ℕ → Bool
is_common_byte b = nat_le 32 b && nat_le b 127

-- neither a space, `:` or `<` in front nor a space at the end
abbrev pub has_plain_ends : List ℕ → Bool
has_plain_ends value = not (begins_with space value || begins_with colon value || begins_with less_than_sign value) && not (ends_with space value)

-- whether a value may stand as it is: safe bytes, neither a space, `:` or `<` in front nor a space at the end
unfoldable pub is_plain : List ℕ → Bool
is_plain value =
    list_all is_safe_byte value
    && not (begins_with space value || begins_with colon value || begins_with less_than_sign value)
    && not (ends_with space value)

-- the line, before it is folded
unfoldable pub line_text : List ℕ → List ℕ → List ℕ
line_text name value =
    if length value == 0 then name ++ codes ":"
    else if is_plain value then name ++ codes ": " ++ value
    else name ++ codes ":: " ++ encode_of standard value

-- the line as it is written to a width: at most so many bytes, and each further piece a space and at most one byte less
abbrev pub written_line_to : ℕ → List ℕ → List ℕ → List ℕ
written_line_to width name value = folded_line width (line_text name value)

-- the same to 76 bytes
abbrev pub written_line : List ℕ → List ℕ → List ℕ
written_line = written_line_to standard_width

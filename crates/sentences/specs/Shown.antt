-- How bytes are shown to people.
use Rattle.std.specs.Prelude.{ℕ, ◌+◌, ◌/◌, ◌%◌, Bool, not, if◌then◌else◌, ◌&&◌, ◌==◌, nat_lt, nat_le, List, [], ◌∷◌, ◌++◌, map, codes}
use Rattle.std.specs.Char.{encode_utf8}
use Rattle.std.specs.Str.{chars, is_utf8}
use Rattle.sentences.specs.Cuts.{fitting, front, end_of}
use Rattle.sentences.specs.declared.shown.Form.{Form}
use Rattle.sentences.specs.declared.shown.Form.TheVariants as forms

-- ---- a character, or a byte of what is no text

-- it stands for itself: it is of ASCII and printed, and within quotation marks neither such a mark nor a backslash
abbrev pub is_plain : Form → ℕ → Bool
is_plain forms.Quoted c = nat_le 32 c && nat_lt c 127 && not (c == 34) && not (c == 92)
is_plain forms.Bare c = nat_le 32 c && nat_lt c 127

-- a hexadecimal digit: '0' to '9', then 'A' to 'F'
abbrev pub hex_digit : ℕ → ℕ
hex_digit d = if nat_lt d 10 then 48 + d else 55 + d

-- a byte as a backslash and two hexadecimal digits
abbrev pub escape : ℕ → List ℕ
escape byte = 92 ∷ hex_digit (byte / 16) ∷ hex_digit (byte % 16) ∷ []

-- whether a character is escaped: one of ASCII that isn't plain, or a control character behind ASCII (128 to 159)
abbrev pub is_escaped : Form → ℕ → Bool
is_escaped form c = nat_lt c 160 && not (is_plain form c)

abbrev pub shown_char : Form → ℕ → List ℕ
shown_char form c = if is_escaped form c then escape c else encode_utf8 c

abbrev pub shown_byte : Form → ℕ → List ℕ
shown_byte form byte = if is_plain form byte then byte ∷ [] else escape byte

-- text character by character, and else byte by byte
abbrev pub pieces : Form → List ℕ → List (List ℕ)
pieces form bytes = if is_utf8 bytes then map (shown_char form) (chars bytes) else map (shown_byte form) bytes

-- bytes as they are shown, and of more than so many the first, and dots behind them
unfoldable pub shown : Form → ℕ → List ℕ → List ℕ
shown form most bytes = fitting most (pieces form (front most bytes)) (end_of most bytes)

-- ---- values and names

-- a value in quotation marks: at most 40 bytes between them
unfoldable pub quoted : List ℕ → List ℕ
quoted value = codes "\"" ++ shown forms.Quoted 40 value ++ codes "\""

-- the name of an attribute type or a class: at most 64 bytes
abbrev pub shown_type : List ℕ → List ℕ
shown_type name = shown forms.Bare 64 name

-- another name: at most 160 bytes
abbrev pub shown_name : List ℕ → List ℕ
shown_name name = shown forms.Bare 160 name

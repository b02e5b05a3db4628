-- The name that a text spells, or the first fault from the left.
use Rattle.std.specs.Prelude.{ℕ, ◌+◌, ◌*◌, Bool, true, false, not, ◌&&◌, ◌||◌, ◌==◌, if◌then◌else◌, List, [], ◌∷◌, map, take, drop, length, Result, Ok, Err}
use Rattle.std.specs.List.{list_all, onto_first, prefix_len}
use Rattle.base.specs.Ascii.{quotation_mark, number_sign, plus_sign, comma, semicolon, equals_sign, backslash}
use Rattle.base.specs.Answers.{◌>>=◌, each}
use Rattle.base.specs.Ends.{is_space, without_front}
use Rattle.dn.specs.declared.faults.NameFaultKind.{NameFaultKind}
use Rattle.dn.specs.declared.faults.NameFaultKind.TheVariants.{EqualsMissing, Escape, NotEscaped, TypeMissing, FormNotSupported}
use Rattle.dn.specs.Names.{Ava, Rdn, Name, is_type_byte}
use Rattle.dn.specs.Spelling.{Octet, may_stand, may_follow, is_hex, hex, is_raw_space, byte_of}

-- ---- a value

-- what was read of an escape: nothing, the backslash, or the first digit of a pair
pub data State : Type 0 where
  Plain : State
  Backslash : State
  HalfPair : ℕ → State

-- a byte that may not stand for itself: `;` was once a separator
abbrev pub raw_fault : ℕ → NameFaultKind
raw_fault b = if b == semicolon then FormNotSupported else NotEscaped

abbrev pub with_octet : Bool → ℕ → Result (List Octet) NameFaultKind → Result (List Octet) NameFaultKind
with_octet raw byte (Ok os) = Ok (record { raw = raw; byte = byte } ∷ os)
with_octet raw byte (Err e) = Err e

-- the octets of a text, after what was read of an escape
unfoldable pub octets_from : State → List ℕ → Result (List Octet) NameFaultKind
octets_from Plain [] = Ok []
octets_from Backslash [] = Err Escape
octets_from (HalfPair high) [] = Err Escape
octets_from Plain (b ∷ bs) = if may_stand b then with_octet true b (octets_from Plain bs) else (if b == backslash then octets_from Backslash bs else Err (raw_fault b))
octets_from Backslash (b ∷ bs) = if may_follow b then with_octet false b (octets_from Plain bs) else (if is_hex b then octets_from (HalfPair (hex b)) bs else Err Escape)
octets_from (HalfPair high) (b ∷ bs) = if is_hex b then with_octet false (16 * high + hex b) (octets_from Plain bs) else Err Escape

abbrev pub keep : Octet → List Octet → List Octet
keep o [] = if is_raw_space o then [] else o ∷ []
keep o (p ∷ os) = o ∷ p ∷ os

-- without the raw spaces at the end
unfoldable pub trimmed : List Octet → List Octet
trimmed [] = []
trimmed (o ∷ os) = keep o (trimmed os)

abbrev pub value_from : Result (List Octet) NameFaultKind → Result (List ℕ) NameFaultKind
value_from (Ok os) = Ok (map byte_of (trimmed os))
value_from (Err e) = Err e

-- a quotation mark or a number sign at the front begins a form that is not read
abbrev pub begins_form : List ℕ → Bool
begins_form [] = false
begins_form (b ∷ bs) = b == quotation_mark || b == number_sign

unfoldable pub value_of : List ℕ → Result (List ℕ) NameFaultKind
value_of text = if begins_form text then Err FormNotSupported else value_from (octets_from Plain text)

-- ---- an AVA

abbrev pub type_in : List ℕ → List ℕ
type_in text = take (prefix_len is_type_byte text) text

abbrev pub after_type : List ℕ → List ℕ
after_type text = drop (prefix_len is_type_byte text) text

-- what follows the equals sign that is due behind a type
abbrev pub after_equals : List ℕ → List ℕ → Result (List ℕ) NameFaultKind
after_equals ty [] = Err EqualsMissing
after_equals ty (b ∷ bs) = if b == equals_sign then (if length ty == 0 then Err TypeMissing else Ok bs) else Err EqualsMissing

-- an AVA from its type on
unfoldable pub ava_at : List ℕ → Result Ava NameFaultKind
ava_at text = after_equals (type_in text) (without_front (after_type text)) >>= λ rest. (value_of (without_front rest) >>= λ value. Ok (type_in text, value))

unfoldable pub ava_of : List ℕ → Result Ava NameFaultKind
ava_of text = ava_at (without_front text)

-- ---- an RDN, a name

-- whether a byte escapes the next one
abbrev pub escapes : Bool → ℕ → Bool
escapes escaped b = not escaped && b == backslash

-- the text cut at each separator that is not escaped
unfoldable pub cut_raw : ℕ → Bool → List ℕ → List (List ℕ)
cut_raw sep escaped [] = [] ∷ []
cut_raw sep escaped (b ∷ bs) = if not escaped && b == sep then [] ∷ cut_raw sep false bs else onto_first b (cut_raw sep (escapes escaped b) bs)

unfoldable pub rdn_of : List ℕ → Result Rdn NameFaultKind
rdn_of text = each ava_of (cut_raw plus_sign false text)

unfoldable pub name_of : List ℕ → Result Name NameFaultKind
name_of text = if list_all is_space text then Ok [] else each rdn_of (cut_raw comma false text)

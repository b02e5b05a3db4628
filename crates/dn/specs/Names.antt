-- Names of entries (RFC 4514): what they are made of.
use Rattle.std.specs.Prelude.{ℕ, Bool, not, ◌&&◌, ◌||◌, ◌==◌, nat_lt, List, length}
use Rattle.std.specs.List.{list_all}
use Rattle.std.specs.Char.{is_ascii_alphanumeric}
use Rattle.base.specs.Ascii.{hyphen, full_stop, underscore}

-- a type as written, and a value
abbrev pub Ava : Type 0
Ava = List ℕ × List ℕ

-- an RDN: its AVAs in the order written
abbrev pub Rdn : Type 0
Rdn = List Ava

-- a name: the entry's own RDN first
abbrev pub Name : Type 0
Name = List Rdn

-- ---- which AVAs there are

abbrev pub is_type_byte : ℕ → Bool
is_type_byte b = is_ascii_alphanumeric b || b == hyphen || b == underscore || b == full_stop

-- letters, digits, `-`, `_` and `.`, not empty
abbrev pub is_type : List ℕ → Bool
is_type text = not (length text == 0) && list_all is_type_byte text

abbrev pub is_byte : ℕ → Bool
is_byte b = nat_lt b 256

-- a value is any bytes
abbrev pub is_ava : Ava → Bool
is_ava p = is_type p.0 && list_all is_byte p.1

abbrev pub is_rdn : Rdn → Bool
is_rdn r = not (length r == 0) && list_all is_ava r

abbrev pub is_name : Name → Bool
is_name n = list_all is_rdn n

abbrev pub is_ascii : ℕ → Bool
is_ascii b = nat_lt b 128

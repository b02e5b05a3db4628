-- Why a text spells no name: how far it is read from the left, and what stands there (RFC 4514, section 3).
use Rattle.std.specs.Prelude.{◌≡◌, ℕ, Bool, true, false, ◌&&◌, ◌||◌, ◌==◌, ◌⊎◌, List, [], ◌∷◌, ◌++◌}
use Rattle.std.specs.List.{list_all}
use Rattle.base.specs.Ascii.{quotation_mark, number_sign, plus_sign, comma, semicolon, less_than_sign, equals_sign, greater_than_sign, backslash}
use Rattle.base.specs.Ends.{is_space}
use Rattle.dn.specs.declared.faults.NameFaultKind.{NameFaultKind}
use Rattle.dn.specs.declared.faults.NameFaultKind.TheVariants.{EqualsMissing, Escape, NotEscaped, TypeMissing, FormNotSupported}
use Rattle.dn.specs.declared.faults.NameFault.{NameFault}
use Rattle.dn.specs.declared.faults.NameFault.TheVariants as errors
use Rattle.dn.specs.Names.{Ava, is_type_byte, is_type}
use Rattle.dn.specs.Spelling.{Octet, may_follow, is_hex, AreOctets, spaces, SpellsAva}

abbrev pub is_equals : ℕ → Bool
is_equals b = b == equals_sign

abbrev pub is_quote_or_sign : ℕ → Bool
is_quote_or_sign b = b == quotation_mark || b == number_sign

-- NUL, `"`, `<` and `>`
abbrev pub is_special : ℕ → Bool
is_special b = b == 0 || b == quotation_mark || b == less_than_sign || b == greater_than_sign

-- no byte of this kind comes next
abbrev pub Stops : (ℕ → Bool) → List ℕ → Type 0
Stops p [] = Unit {0}
Stops p (b ∷ bs) = p b ≡ false

-- a byte of this kind comes next
abbrev pub Comes : (ℕ → Bool) → List ℕ → Type 0
Comes p [] = ⊥
Comes p (b ∷ bs) = p b ≡ true

-- a byte that a backslash takes as it is, or two hexadecimal digits
abbrev pub is_escape : List ℕ → Bool
is_escape [] = false
is_escape (b ∷ []) = may_follow b
is_escape (b ∷ c ∷ bs) = may_follow b || (is_hex b && is_hex c)

-- ---- how far an AVA is read

-- spaces, the longest run of the bytes of a type, spaces, and then this
pub record IsTyped (text ty rest : List ℕ) : Type 0 where
  pub before : ℕ
  pub between : ℕ
  pub from : List ℕ
  pub after : List ℕ
  pub text_is : text ≡ spaces before ++ from
  pub no_space : Stops is_space from
  pub from_is : from ≡ ty ++ after
  pub type_is : list_all is_type_byte ty ≡ true
  pub longest : Stops is_type_byte after
  pub after_is : after ≡ spaces between ++ rest
  pub no_space_more : Stops is_space rest

-- a type, an equals sign, spaces, and then this
pub record IsValued (text value : List ℕ) : Type 0 where
  pub ty : List ℕ
  pub rest : List ℕ
  pub after : ℕ
  pub typed : IsTyped text ty (equals_sign ∷ rest)
  pub type_is : is_type ty ≡ true
  pub rest_is : rest ≡ spaces after ++ value
  pub no_space : Stops is_space value

-- a value of the form that is read, octets of it, and then this
pub record IsBegun (text bad : List ℕ) : Type 0 where
  pub value : List ℕ
  pub valued : IsValued text value
  pub form : Stops is_quote_or_sign value
  pub octets : List Octet
  pub body : List ℕ
  pub value_is : value ≡ body ++ bad
  pub body_is : AreOctets octets body

-- what stands in an AVA where it is read no further
abbrev pub IsAvaFault : List ℕ → NameFaultKind → Type 0
IsAvaFault text EqualsMissing = (ty : List ℕ) × (rest : List ℕ) × IsTyped text ty rest × Stops is_equals rest
IsAvaFault text TypeMissing = (rest : List ℕ) × IsTyped text [] (equals_sign ∷ rest)
IsAvaFault text Escape = (rest : List ℕ) × IsBegun text (backslash ∷ rest) × (is_escape rest ≡ false)
IsAvaFault text NotEscaped = (b : ℕ) × (rest : List ℕ) × IsBegun text (b ∷ rest) × (is_special b ≡ true)
IsAvaFault text FormNotSupported = ((value : List ℕ) × IsValued text value × Comes is_quote_or_sign value) ⊎ ((rest : List ℕ) × IsBegun text (semicolon ∷ rest))

-- ---- how far a text is read

abbrev pub is_separator : ℕ → Bool
is_separator b = b == plus_sign || b == comma

-- whole AVAs, with `+` or `,` behind each
abbrev pub AreAvas : List Ava → List ℕ → Type 0
AreAvas [] text = text ≡ []
AreAvas (p ∷ ps) text = (ava : List ℕ) × (sep : ℕ) × (rest : List ℕ) × SpellsAva ava p × (is_separator sep ≡ true) × (text ≡ ava ++ sep ∷ rest) × AreAvas ps rest

-- whole AVAs, and then an AVA that is read no further; spaces alone are a name
pub record IsNameFault (text : List ℕ) (fault : NameFaultKind) : Type 0 where
  pub avas : List Ava
  pub front : List ℕ
  pub rest : List ℕ
  pub text_is : text ≡ front ++ rest
  pub front_is : AreAvas avas front
  pub rest_is : IsAvaFault rest fault
  pub some : list_all is_space text ≡ false

-- why a call read no name of a text
abbrev pub IsWhy : List ℕ → NameFault → Type 0
IsWhy text errors.OutOfMemory = Unit {0}
IsWhy text (errors.Fault fault) = IsNameFault text fault

-- Which text spells which name (RFC 4514, section 3; spaces may stand round types and values).
use Rattle.std.specs.Prelude.{◌≡◌, ℕ, ◌+◌, ◌-◌, ◌*◌, Bool, true, false, not, ◌&&◌, ◌||◌, nat_le, ◌==◌, if◌then◌else◌, List, [], ◌∷◌, ◌++◌, map, replicate}
use Rattle.base.specs.Ascii.{space, quotation_mark, number_sign, plus_sign, comma, semicolon, less_than_sign, equals_sign, greater_than_sign, backslash}
use Rattle.dn.specs.Names.{Ava, Rdn, Name, is_type}

-- ---- a value

-- the bytes that stand for themselves: not NUL, `"`, `+`, `,`, `;`, `<`, `>`, `\`
abbrev pub may_stand : ℕ → Bool
may_stand b = not (b == 0 || b == quotation_mark || b == plus_sign || b == comma || b == semicolon || b == less_than_sign || b == greater_than_sign || b == backslash)

-- the bytes that a backslash takes as they are: space, `"`, `#`, `+`, `,`, `;`, `<`, `=`, `>`, `\`
abbrev pub may_follow : ℕ → Bool
may_follow b = b == space || b == quotation_mark || b == number_sign || b == plus_sign || b == comma || b == semicolon || b == less_than_sign || b == equals_sign || b == greater_than_sign || b == backslash

abbrev pub is_between : ℕ → ℕ → ℕ → Bool
is_between low high b = nat_le low b && nat_le b high

-- a hexadecimal digit, in either case
abbrev pub is_hex : ℕ → Bool
is_hex b = is_between 48 57 b || is_between 65 70 b || is_between 97 102 b

abbrev pub hex : ℕ → ℕ
hex b = if nat_le b 57 then b - 48 else (if nat_le b 70 then b - 55 else b - 87)

-- one byte of a value, and whether it stands in the text by itself
pub record Octet : Type 0 where
  pub raw : Bool
  pub byte : ℕ

-- an octet of a value is a byte by itself, or an escape: a backslash and a byte, or a backslash and two digits
abbrev pub IsOctet : Octet → List ℕ → Type 0
IsOctet o [] = ⊥
IsOctet o (b ∷ []) = (may_stand b ≡ true) × (o ≡ record { raw = true; byte = b })
IsOctet o (s ∷ b ∷ []) = (s ≡ backslash) × (may_follow b ≡ true) × (o ≡ record { raw = false; byte = b })
IsOctet o (s ∷ b ∷ c ∷ []) = (s ≡ backslash) × (is_hex b ≡ true) × (is_hex c ≡ true) × (o ≡ record { raw = false; byte = 16 * hex b + hex c })
IsOctet o (s ∷ b ∷ c ∷ d ∷ bs) = ⊥

abbrev pub AreOctets : List Octet → List ℕ → Type 0
AreOctets [] text = text ≡ []
AreOctets (o ∷ os) text = (front : List ℕ) × (rest : List ℕ) × IsOctet o front × (text ≡ front ++ rest) × AreOctets os rest

abbrev pub is_raw_space : Octet → Bool
is_raw_space o = o.raw && o.byte == space

-- the first is no raw space and no raw `#`
abbrev pub begins_well : List Octet → Bool
begins_well [] = true
begins_well (o ∷ os) = not (o.raw && (o.byte == space || o.byte == number_sign))

-- the last is no raw space
abbrev pub ends_well : List Octet → Bool
ends_well [] = true
ends_well (o ∷ []) = not (is_raw_space o)
ends_well (o ∷ p ∷ os) = ends_well (p ∷ os)

abbrev pub byte_of : Octet → ℕ
byte_of o = o.byte

-- ---- an AVA, an RDN, a name

abbrev pub spaces : ℕ → List ℕ
spaces n = replicate n space

-- spaces, the type, spaces, `=`, spaces, the octets of the value, spaces
pub record SpellsAva (text : List ℕ) (p : Ava) : Type 0 where
  pub before : ℕ
  pub between : ℕ
  pub after : ℕ
  pub behind : ℕ
  pub octets : List Octet
  pub body : List ℕ
  pub text_is : text ≡ spaces before ++ (p.0 ++ (spaces between ++ (equals_sign ∷ (spaces after ++ (body ++ spaces behind)))))
  pub type_is : is_type p.0 ≡ true
  pub body_is : AreOctets octets body
  pub begins : begins_well octets ≡ true
  pub ends : ends_well octets ≡ true
  pub value_is : p.1 ≡ map byte_of octets

-- one text for each, and between each two this byte
abbrev pub AreJoined : {X : Type 0} → (List ℕ → X → Type 0) → ℕ → List ℕ → List X → Type 0
AreJoined Spelled sep text [] = ⊥
AreJoined Spelled sep text (x ∷ []) = Spelled text x
AreJoined Spelled sep text (x ∷ y ∷ ys) = (front : List ℕ) × (rest : List ℕ) × Spelled front x × (text ≡ front ++ sep ∷ rest) × AreJoined Spelled sep rest (y ∷ ys)

-- AVAs joined by `+`
abbrev pub SpellsRdn : List ℕ → Rdn → Type 0
SpellsRdn text r = AreJoined SpellsAva plus_sign text r

-- spaces alone, or RDNs joined by `,`
abbrev pub Spells : List ℕ → Name → Type 0
Spells text [] = (n : ℕ) × (text ≡ spaces n)
Spells text (r ∷ rs) = AreJoined SpellsRdn comma text (r ∷ rs)

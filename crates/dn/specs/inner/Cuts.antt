-- The piece of a text up to the first byte of a kind that is not escaped, and what is read of it.
use Rattle.std.specs.Prelude.{◌≡◌, ℕ, Bool, true, false, not, ◌&&◌, ◌==◌, if◌then◌else◌, List, [], ◌∷◌, ◌++◌, Option, Some, None, Result, Ok}
use Rattle.base.specs.Ascii.{plus_sign, comma}
use Rattle.dn.specs.declared.faults.NameFaultKind.{NameFaultKind}
use Rattle.dn.specs.Names.{Ava, Rdn, Name}
use Rattle.base.specs.Answers.{◌>>=◌}
use Rattle.base.specs.Ends.{is_space}
use Rattle.dn.specs.NameFaults.{is_separator}
use Rattle.dn.specs.Reading.{escapes, value_of, ava_of, rdn_of}

-- the argument says whether the first byte is escaped
unfoldable pub piece : (ℕ → Bool) → Bool → List ℕ → List ℕ
piece ends escaped [] = []
piece ends escaped (b ∷ bs) = if not escaped && ends b then [] else b ∷ piece ends (escapes escaped b) bs

-- the byte that ends the piece, and what follows it
unfoldable pub behind : (ℕ → Bool) → Bool → List ℕ → List ℕ
behind ends escaped [] = []
behind ends escaped (b ∷ bs) = if not escaped && ends b then b ∷ bs else behind ends (escapes escaped b) bs

abbrev pub is_comma : ℕ → Bool
is_comma b = b == comma

-- what the piece at the front reads as, and what stands behind it
abbrev pub first_by : {X : Type 0} → (ℕ → Bool) → (List ℕ → Result X NameFaultKind) → List ℕ → Result (X × List ℕ) NameFaultKind
first_by ends read text = read (piece ends false text) >>= λ x. Ok (x, behind ends false text)

abbrev pub first_value : List ℕ → Result (List ℕ × List ℕ) NameFaultKind
first_value = first_by is_separator value_of

abbrev pub first_ava : List ℕ → Result (Ava × List ℕ) NameFaultKind
first_ava = first_by is_separator ava_of

abbrev pub first_rdn : List ℕ → Result (Rdn × List ℕ) NameFaultKind
first_rdn = first_by is_comma rdn_of

-- an AVA whose type was read, from its value on
abbrev pub ava_from : List ℕ → List ℕ → Result (Ava × List ℕ) NameFaultKind
ava_from ty text = first_value text >>= λ s. Ok ((ty, s.0), s.1)

-- the AVAs that follow, where a plus sign comes next
unfoldable pub avas_behind : List ℕ → Result (Rdn × List ℕ) NameFaultKind
avas_behind [] = Ok ([], [])
avas_behind (b ∷ bs) = if b == plus_sign then first_rdn bs else Ok ([], b ∷ bs)

-- AVAs that were read, and those that follow
abbrev pub avas_on : Rdn → List ℕ → Result (Rdn × List ℕ) NameFaultKind
avas_on front text = avas_behind text >>= λ t. Ok (front ++ t.0, t.1)

-- an RDN whose first AVA was read, by what stands behind that
abbrev pub avas_from : Ava × List ℕ → Result (Rdn × List ℕ) NameFaultKind
avas_from s = avas_behind s.1 >>= λ t. Ok (s.0 ∷ t.0, t.1)

-- an RDN whose first type was read, from its value on
abbrev pub rdn_at : List ℕ → List ℕ → Result (Rdn × List ℕ) NameFaultKind
rdn_at ty text = ava_from ty text >>= avas_from

abbrev pub ends_piece : List ℕ → Bool
ends_piece [] = true
ends_piece (b ∷ bs) = is_separator b

abbrev pub after_first : List ℕ → Option (List ℕ)
after_first [] = None
after_first (b ∷ bs) = Some bs

abbrev pub ends_in_space : List ℕ → Bool
ends_in_space [] = false
ends_in_space (b ∷ []) = is_space b
ends_in_space (b ∷ c ∷ bs) = ends_in_space (c ∷ bs)

-- an RDN was read and put at the end, and this is left
abbrev pub Pushes : Name → Name → List ℕ → Result (Rdn × List ℕ) NameFaultKind → Type 0
Pushes old new rest said = (r : Rdn) × (said ≡ Ok (r, rest)) × (new ≡ old ++ r ∷ [])

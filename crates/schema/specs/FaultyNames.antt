-- Which result code a name has, by what is wrong with one of its AVAs (RFC 4512, 2.3.1 and 2.3.2; RFC 4511, appendix A.2).
use Rattle.std.specs.Prelude.{◌≡◌, ℕ, Bool, true, false, nat_eq, List, [], ◌∷◌, ◌++◌, Some}
use Rattle.std.specs.List.{list_any, AllByRecursion}
use Rattle.dn.specs.Names as names
use Rattle.values.specs.declared.types.AttributeType.{AttributeType}
use Rattle.values.specs.Types.{type_of, has_equality}
use Rattle.schema.specs.declared.code.Code.{Code}
use Rattle.schema.specs.declared.code.Code.TheVariants.{InvalidDnSyntax, NamingViolation}
use Rattle.schema.specs.TypeRules.{has_name_syntax}
use Rattle.schema.specs.Values.{is_valid_at}
use Rattle.schema.specs.Subtypes.{passes}
use Rattle.schema.specs.FirstFlaws.{Not, IsFirstFlaw}

-- what may be wrong with an AVA of a name
pub data AvaFlaw : Type 0 where
  -- no type has the name that stands there
  UnknownType : AvaFlaw
  -- values of its type are names themselves
  NameSyntax : AvaFlaw
  -- values of its type can't be compared
  NoEquality : AvaFlaw
  -- its type has no such value
  BadValue : AvaFlaw
  -- an AVA before it in its RDN is of its type
  TypeTwice : AvaFlaw

abbrev pub IsOfType : List AttributeType → names.Ava → ℕ → Type 0
IsOfType types p t = type_of types p.0 ≡ Some t

-- the same as a test
abbrev pub is_of_type : List AttributeType → ℕ → names.Ava → Bool
is_of_type types t p = passes (λ u. nat_eq u t) (type_of types p.0)

-- whether an AVA has a flaw behind the earlier ones of its RDN
abbrev pub HasAvaFlaw : List AttributeType → names.Rdn → names.Ava → AvaFlaw → Type 0
HasAvaFlaw types earlier p UnknownType = (t : ℕ) → Not (IsOfType types p t)
HasAvaFlaw types earlier p NameSyntax = (t : ℕ) × IsOfType types p t × (has_name_syntax types t ≡ true)
HasAvaFlaw types earlier p NoEquality = (t : ℕ) × IsOfType types p t × (has_equality types t ≡ false)
HasAvaFlaw types earlier p BadValue = (t : ℕ) × IsOfType types p t × (is_valid_at types t p.1 ≡ false)
HasAvaFlaw types earlier p TypeTwice = (t : ℕ) × IsOfType types p t × (list_any (is_of_type types t) earlier ≡ true)

-- which of them is told first
abbrev pub ava_order : List AvaFlaw
ava_order = UnknownType ∷ NameSyntax ∷ NoEquality ∷ BadValue ∷ TypeTwice ∷ []

-- its code: that no entry can have the name, or that none may
abbrev pub flaw_code : AvaFlaw → Code
flaw_code UnknownType = InvalidDnSyntax
flaw_code NameSyntax = InvalidDnSyntax
flaw_code NoEquality = NamingViolation
flaw_code BadValue = InvalidDnSyntax
flaw_code TypeTwice = NamingViolation

-- none of these AVAs has a flaw, behind earlier ones
abbrev pub AreFlawless : List AttributeType → names.Rdn → names.Rdn → Type 0
AreFlawless types earlier [] = Unit {0}
AreFlawless types earlier (p ∷ ps) = ((flaw : AvaFlaw) → Not (HasAvaFlaw types earlier p flaw)) × AreFlawless types (earlier ++ p ∷ []) ps

-- the first AVA of a name that has a flaw, its own RDN first, and this is the code of its first one
pub record IsAvaFault (types : List AttributeType) (n : names.Name) (code : Code) : Type 0 where
  -- RDNs without a flaw
  pub before : List names.Rdn
  -- the RDN of that AVA: AVAs without a flaw, the AVA, and any others
  pub earlier : names.Rdn
  pub ava : names.Ava
  pub later : names.Rdn
  -- any other RDNs
  pub after : List names.Rdn
  pub name_is : n ≡ before ++ (earlier ++ ava ∷ later) ∷ after
  pub before_are : AllByRecursion (AreFlawless types []) before
  pub earlier_are : AreFlawless types [] earlier
  pub flaw : AvaFlaw
  pub first : IsFirstFlaw AvaFlaw (HasAvaFlaw types earlier ava) ava_order flaw
  pub code_is : code ≡ flaw_code flaw

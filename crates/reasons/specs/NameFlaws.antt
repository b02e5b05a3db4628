-- What may be wrong with the text of an entry's name or of a new RDN (RFC 4511, 4.1.3 and appendix A.2; RFC 4512, 2.3), in the order of the checks.
use Rattle.std.specs.Prelude.{◌≡◌, ℕ, suc, false, List, [], ◌∷◌, ◌++◌, map, take, reverse, Some, Result, Ok, Err}
use Rattle.std.specs.List.{slice_get}
use Rattle.dn.specs.Names as names
use Rattle.paths.specs.Paths.{Path, begins}
use Rattle.schema.specs.declared.code.Code.{Code}
use Rattle.schema.specs.declared.code.Code.TheVariants.{NoSuchObject, InvalidDnSyntax}
use Rattle.schema.specs.Conf.{Conf, located, path_of}
use Rattle.schema.specs.Names.{name_in}
use Rattle.schema.specs.Rdns.{TypedRdn}
use Rattle.schema.specs.Values.{rdns_in}
use Rattle.schema.specs.FaultyNames as avas
use Rattle.schema.specs.FaultyNames.{AvaFlaw, HasAvaFlaw, ava_order}
use Rattle.schema.specs.FirstFlaws.{Not}

-- the RDNs below the suffix, from there down, of the name that a text spells, if it may be an entry's
abbrev pub HasPlace : Conf → List ℕ → List TypedRdn → Type 0
HasPlace conf text rdns = located conf text ≡ Ok rdns

-- the path of the entry with the name that a text spells
abbrev pub LeadsTo : Conf → List ℕ → Path → Type 0
LeadsTo conf text path = (rdns : List TypedRdn) × HasPlace conf text rdns × (path ≡ path_of conf rdns)

-- the one RDN that a text spells, with its types
abbrev pub SpellsRdn : Conf → List ℕ → TypedRdn → Type 0
SpellsRdn conf text rdn = rdns_in conf.types text ≡ Ok (rdn ∷ [])

-- what may be wrong with the name that a text is to spell
pub data NameFlaw : Type 0 where
  -- the text spells no name (RFC 4514): it isn't UTF-8, or not as names are written
  Unreadable : NameFlaw
  -- the name has no RDN, or more than one, where it is to be a new RDN
  NotOneRdn : NameFlaw
  -- the AVA with the second index, of the RDN with the first, has a flaw (the entry's own RDN has 0)
  Ava : (rdn ava : ℕ) → AvaFlaw → NameFlaw
  -- the name doesn't end with the suffix
  OutsideSuffix : NameFlaw

-- the AVA of the name that a text spells with these indices, and those before it in its RDN
pub record IsAva (text : List ℕ) (rdn_index ava_index : ℕ) (earlier : names.Rdn) (ava : names.Ava) : Type 0 where
  pub name : names.Name
  pub spelled : name_in text ≡ Ok name
  pub rdn : names.Rdn
  pub rdn_is : slice_get name rdn_index ≡ Some rdn
  pub ava_is : slice_get rdn ava_index ≡ Some ava
  pub earlier_are : earlier ≡ take ava_index rdn

-- whether the name that a text spells has a flaw
abbrev pub HasNameFlaw : Conf → List ℕ → NameFlaw → Type 0
HasNameFlaw conf text Unreadable = (n : names.Name) → Not (name_in text ≡ Ok n)
HasNameFlaw conf text NotOneRdn = (n : names.Name) × (name_in text ≡ Ok n) × ((r : names.Rdn) → Not (n ≡ r ∷ []))
HasNameFlaw conf text (Ava i j f) = (earlier : names.Rdn) × (ava : names.Ava) × IsAva text i j earlier ava × HasAvaFlaw conf.types earlier ava f
HasNameFlaw conf text OutsideSuffix =
    (rdns : List TypedRdn) × (rdns_in conf.types text ≡ Ok rdns)
    × (begins (path_of conf (reverse conf.suffix)) (path_of conf (reverse rdns)) ≡ false)

-- the code of each
abbrev pub name_flaw_code : NameFlaw → Code
name_flaw_code Unreadable = InvalidDnSyntax
name_flaw_code NotOneRdn = InvalidDnSyntax
name_flaw_code (Ava i j f) = avas.flaw_code f
name_flaw_code OutsideSuffix = NoSuchObject

-- ---- the checks in order

-- of the AVAs of an RDN from this one on
abbrev pub ava_checks : ℕ → ℕ → names.Rdn → List NameFlaw
ava_checks i j [] = []
ava_checks i j (p ∷ ps) = map (Ava i j) ava_order ++ ava_checks i (suc j) ps

-- of the RDNs of a name from this one on
abbrev pub rdn_checks : ℕ → names.Name → List NameFlaw
rdn_checks i [] = []
rdn_checks i (r ∷ rs) = ava_checks i 0 r ++ rdn_checks (suc i) rs

-- of the AVAs of a name, if a text spells one
abbrev pub spelled_checks : Result names.Name Code → List NameFlaw
spelled_checks (Ok n) = rdn_checks 0 n
spelled_checks (Err code) = []

-- of an entry's name
abbrev pub place_checks : List ℕ → List NameFlaw
place_checks text = Unreadable ∷ (spelled_checks (name_in text) ++ OutsideSuffix ∷ [])

-- of a new RDN
abbrev pub new_rdn_checks : List ℕ → List NameFlaw
new_rdn_checks text = Unreadable ∷ NotOneRdn ∷ spelled_checks (name_in text)

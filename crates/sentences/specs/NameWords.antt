-- What is said of names.
use Rattle.std.specs.Prelude.{◌≡◌, ℕ, ◌++◌, Bool, true, false, List, [], ◌∷◌, map, Option, Some, None, Result, Ok, Err, codes, slice_get}
use Rattle.std.specs.Fmt.{decimal}
use Rattle.std.specs.Str.{is_utf8}
use Rattle.dn.specs.Faults.{fault_number, fault_text}
use Rattle.dn.specs.Names as names
use Rattle.dn.specs.Reading.{name_of}
use Rattle.dn.specs.Writing.{text_of}
use Rattle.dn.specs.declared.faults.NameFaultKind.{NameFaultKind}
use Rattle.values.specs.Types.{type_of}
use Rattle.schema.specs.Conf.{Conf}
use Rattle.schema.specs.Names.{name_in, written_rdn}
use Rattle.schema.specs.declared.code.Code.{Code}
use Rattle.reasons.specs.declared.reason.AvaReason.{AvaReason}
use Rattle.reasons.specs.declared.reason.AvaReason.TheVariants as ava_reasons
use Rattle.reasons.specs.declared.reason.NameReason.{NameReason}
use Rattle.reasons.specs.declared.reason.NameReason.TheVariants as name_reasons
use Rattle.sentences.specs.NamePlaces.{IsNameLike}
use Rattle.sentences.specs.PartWords.{no_such_value}
use Rattle.sentences.specs.Shown.{shown_name, shown_type, quoted}

-- a name, by what it is called, that is to be one RDN
unfoldable pub not_one_rdn : List ℕ → List ℕ → List ℕ
not_one_rdn what text = what ++ codes " " ++ quoted text ++ codes " is not one RDN"

-- which one it is; one without a byte can't be shown
abbrev pub name_or_empty : List ℕ → List ℕ
name_or_empty [] = codes " is empty, and"
name_or_empty (b ∷ bs) = codes " " ++ shown_name (b ∷ bs)

-- a name that is to end with the suffix
unfoldable pub outside_suffix : Conf → List ℕ → List ℕ → List ℕ
outside_suffix conf what text =
    what ++ name_or_empty text ++ codes " doesn't end with the suffix " ++ shown_name (text_of (map (written_rdn conf.types) conf.suffix))

-- ---- a text that spells no name

-- the fault that reading it ends with (N1 to N5), and the byte at which no name goes on so
unfoldable pub fault_words : NameFaultKind → ℕ → List ℕ
fault_words fault place =
    codes ": N" ++ decimal (fault_number fault) ++ codes " " ++ fault_text fault ++ codes " at byte " ++ decimal place

abbrev pub IsFaultWords : List ℕ → Result names.Name NameFaultKind → List ℕ → Type 0
IsFaultWords text (Ok name) words = words ≡ codes " can't be read"
IsFaultWords text (Err fault) words = (place : ℕ) × IsNameLike text place × (words ≡ codes " can't be read" ++ fault_words fault place)

abbrev pub IsUnreadableIf : Bool → List ℕ → List ℕ → List ℕ → Type 0
IsUnreadableIf true what text words = (fault : List ℕ) × IsFaultWords text (name_of text) fault × (words ≡ what ++ fault)
IsUnreadableIf false what text words = words ≡ what ++ codes " isn't UTF-8"

-- why it spells none
abbrev pub IsUnreadable : List ℕ → List ℕ → List ℕ → Type 0
IsUnreadable what text words = IsUnreadableIf (is_utf8 text) what text words

-- ---- an AVA of a name

abbrev pub ava_of_rdn : Option names.Rdn → ℕ → Option names.Ava
ava_of_rdn None ava = None
ava_of_rdn (Some rdn) ava = slice_get rdn ava

abbrev pub ava_of_name : names.Name → ℕ → ℕ → Option names.Ava
ava_of_name name rdn ava = ava_of_rdn (slice_get name rdn) ava

abbrev pub ava_of : Result names.Name Code → ℕ → ℕ → Option names.Ava
ava_of (Ok name) rdn ava = ava_of_name name rdn ava
ava_of (Err code) rdn ava = None

-- the AVA with the second index, of the RDN with the first, of the name that a text spells
abbrev pub ava_in : List ℕ → ℕ → ℕ → Option names.Ava
ava_in text rdn ava = ava_of (name_in text) rdn ava

-- that a name has a type, and what is wrong with that
unfoldable pub type_fault : List ℕ → List ℕ → List ℕ → List ℕ
type_fault what name fault = what ++ codes " has " ++ shown_type name ++ fault

abbrev pub IsBadValue : Conf → List ℕ → List ℕ → List ℕ → Option ℕ → List ℕ → Type 0
IsBadValue conf what text value None words = IsUnreadable what text words
IsBadValue conf what text value (Some t) words = words ≡ what ++ codes ": " ++ no_such_value conf t value

-- what is wrong with an AVA of the name that a text spells
abbrev pub IsAvaWords : Conf → List ℕ → List ℕ → AvaReason → names.Ava → List ℕ → Type 0
IsAvaWords conf what text ava_reasons.UnknownType p words = words ≡ type_fault what p.0 (codes ", which is no attribute type of dir.conf")
IsAvaWords conf what text ava_reasons.NameSyntax p words = words ≡ type_fault what p.0 (codes ", whose values are names themselves")
IsAvaWords conf what text ava_reasons.NoEquality p words = words ≡ type_fault what p.0 (codes ", which has no equality rule")
IsAvaWords conf what text ava_reasons.TypeTwice p words = words ≡ type_fault what p.0 (codes " twice in one RDN")
IsAvaWords conf what text ava_reasons.BadValue p words = IsBadValue conf what text p.1 (type_of conf.types p.0) words

abbrev pub IsAvaWordsIf : Conf → List ℕ → List ℕ → AvaReason → Option names.Ava → List ℕ → Type 0
IsAvaWordsIf conf what text why None words = IsUnreadable what text words
IsAvaWordsIf conf what text why (Some p) words = IsAvaWords conf what text why p words

-- ---- any of these

-- what is wrong with a name
abbrev pub IsNameWords : Conf → List ℕ → List ℕ → NameReason → List ℕ → Type 0
IsNameWords conf what text name_reasons.NotOneRdn words = words ≡ not_one_rdn what text
IsNameWords conf what text name_reasons.OutsideSuffix words = words ≡ outside_suffix conf what text
IsNameWords conf what text name_reasons.Unreadable words = IsUnreadable what text words
IsNameWords conf what text (name_reasons.Ava rdn ava why) words = IsAvaWordsIf conf what text why (ava_in text rdn ava) words

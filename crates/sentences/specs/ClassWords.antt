-- What is said of the values and the classes of an entry that is to be (RFC 4512, 2.4 and 2.5).
use Rattle.std.specs.Prelude.{◌≡◌, ℕ, zero, suc, ◌-◌, ◌++◌, ◌==◌, ◌&&◌, Bool, true, false, not, if◌then◌else◌, List, [], ◌∷◌, length, map, take, Option, Some, None, is_some, Result, Ok, Err, codes, slice_get}
use Rattle.std.specs.List.{filter, list_any, AllByRecursion}
use Rattle.std.specs.Str.{str_eq_ignore_ascii_case}
use Rattle.dn.specs.Names.{Rdn, Name}
use Rattle.ldif.specs.Attrs.{Attr}
use Rattle.ldif.specs.declared.record.Mod.{Mod}
use Rattle.ldif.specs.declared.record.Op.{Op}
use Rattle.ldif.specs.declared.record.Op.TheVariants as ops
use Rattle.ldif.specs.declared.record.Record.{Record}
use Rattle.ldif.specs.declared.record.Record.TheVariants as records
use Rattle.values.specs.Types.{type_of}
use Rattle.schema.specs.Classes.{class_of}
use Rattle.schema.specs.Conf.{Conf}
use Rattle.schema.specs.Names.{name_in}
use Rattle.schema.specs.Superclasses.{has_number, is_required}
use Rattle.schema.specs.declared.code.Code.{Code}
use Rattle.reasons.specs.Asked.{lines_of_record, blocks_of_record}
use Rattle.sentences.specs.Counts.{grouped}
use Rattle.sentences.specs.PartWords.{type_words, class_words}
use Rattle.sentences.specs.Shown.{quoted}

-- ---- values of a type that may have one

-- so many values of a SINGLE-VALUE type
unfoldable pub many_values : Conf → ℕ → ℕ → List ℕ
many_values conf single count = type_words conf single ++ codes " is SINGLE-VALUE, and the entry would have " ++ grouped count ++ codes " values"

-- a type that none of the entry's classes allows
unfoldable pub not_allowed : Conf → ℕ → List ℕ
not_allowed conf found = codes "none of its object classes allows " ++ type_words conf found

-- ---- values that name no class

abbrev pub is_first_type : Option ℕ → Bool
is_first_type None = false
is_first_type (Some t) = t == 0

-- whether an attribute name means objectClass, which has the number 0
abbrev pub is_object_class : Conf → List ℕ → Bool
is_object_class conf name = is_first_type (type_of conf.types name)

-- a value under such a name, which names no class
abbrev pub names_no_class : Conf → List ℕ → List ℕ → Bool
names_no_class conf name value = is_object_class conf name && not (is_some (class_of conf.classes value))

-- those of the lines of an add
abbrev pub line_classes : Conf → List Attr → List (List ℕ)
line_classes conf lines = map (λ l. l.value) (filter (λ l. names_no_class conf l.name l.value) lines)

-- whether a block with these values, or with none, takes a class name away, in any case
abbrev pub takes : Op → List (List ℕ) → List ℕ → Bool
takes ops.Add values value = false
takes ops.Replace values value = true
takes ops.Delete [] value = true
takes ops.Delete (v ∷ vs) value = list_any (λ w. str_eq_ignore_ascii_case w value) (v ∷ vs)

abbrev pub takes_away : Conf → List ℕ → Mod → Bool
takes_away conf value block = is_object_class conf block.attr && takes block.op block.values value

-- those of a block that none of the later blocks takes away
abbrev pub block_classes : Conf → List Mod → Mod → List (List ℕ)
block_classes conf later block = filter (λ v. names_no_class conf block.attr v && not (list_any (takes_away conf v) later)) block.values

abbrev pub is_delete : Op → Bool
is_delete ops.Add = false
is_delete ops.Delete = true
is_delete ops.Replace = false

-- those that a block gives the entry
abbrev pub brought_classes : Conf → List Mod → Mod → List (List ℕ)
brought_classes conf later block = if is_delete block.op then [] else block_classes conf later block

-- those that the blocks of a modify give it
abbrev pub blocks_classes : Conf → List Mod → List (List ℕ)
blocks_classes conf [] = []
blocks_classes conf (block ∷ later) = brought_classes conf later block ++ blocks_classes conf later

abbrev pub first_avas : Name → Rdn
first_avas [] = []
first_avas (rdn ∷ rdns) = rdn

abbrev pub avas_if_read : Option Name → Rdn
avas_if_read None = []
avas_if_read (Some name) = first_avas name

-- those of an RDN
abbrev pub rdn_classes : Conf → Rdn → List (List ℕ)
rdn_classes conf rdn = map (λ p. p.1) (filter (λ p. names_no_class conf p.0 p.1) rdn)

-- those of the first RDN of a name
abbrev pub name_classes : Conf → Result Name Code → List (List ℕ)
name_classes conf (Err code) = []
name_classes conf (Ok name) = rdn_classes conf (first_avas name)

-- the text whose first RDN gives the entry values: the name of an add, or the new RDN of a modify DN
abbrev pub naming_text : Record → List ℕ
naming_text records.Empty = []
naming_text (records.Content dn attrs) = dn
naming_text (records.Add dn controls attrs) = dn
naming_text (records.Delete dn controls) = []
naming_text (records.Modify dn controls mods) = []
naming_text (records.ModRdn dn controls newrdn delete_old new_superior) = newrdn

-- those that a record gives the entry: by its lines, its blocks and the RDN
abbrev pub said_classes : Conf → Record → List (List ℕ)
said_classes conf r = (line_classes conf (lines_of_record r) ++ blocks_classes conf (blocks_of_record r)) ++ name_classes conf (name_in (naming_text r))

abbrev pub unknown_class : Option (List ℕ) → List ℕ
unknown_class None = codes "a value of objectClass is no object class of dir.conf"
unknown_class (Some value) = codes "objectClass: " ++ quoted value ++ codes " is no object class of dir.conf"

-- the first of those
abbrev pub unknown_class_words : Conf → Record → List ℕ
unknown_class_words conf r = unknown_class (slice_get (said_classes conf r) 0)

-- ---- types that an entry lacks

-- texts with a comma and a space between each two
abbrev pub listed : List (List ℕ) → List ℕ
listed [] = []
listed (text ∷ []) = text
listed (text ∷ next ∷ texts) = text ++ codes ", " ++ listed (next ∷ texts)

abbrev pub and_more : ℕ → List ℕ
and_more zero = []
and_more (suc n) = codes " and " ++ grouped (suc n) ++ codes " more"

-- three types by their names, and how many more there are
unfoldable pub types_words : Conf → List ℕ → List ℕ
types_words conf types = listed (map (type_words conf) (take 3 types)) ++ and_more (length types - 3)

-- these, if the one that is known to be lacking is among them; else that alone
abbrev pub with_needed : ℕ → List ℕ → List ℕ
with_needed needed types = if has_number types needed then types else needed ∷ []

-- what a class requires
unfoldable pub requires_types : Conf → ℕ → List ℕ → List ℕ
requires_types conf class types = class_words conf class ++ codes " requires " ++ types_words conf types

-- types that the class requires, and one that is known to be lacking among them
abbrev pub IsLackedWords : Conf → ℕ → ℕ → List ℕ → Type 0
IsLackedWords conf class needed words =
    (types : List ℕ) × AllByRecursion (λ t. is_required conf.classes class t ≡ true) types
    × (words ≡ requires_types conf class (with_needed needed types))

-- The text of an index: the entries of a dump under the keys that they have.
use Rattle.std.specs.Prelude.{ℕ, List, [], ◌∷◌, ◌++◌, codes}
use Rattle.std.specs.List.{flat_map}
use Rattle.std.specs.Fmt.{decimal}
use Rattle.hex.specs.Hex.{encode_lower}
use Rattle.base.specs.Ascii.{space, line_feed, hyphen}
use Rattle.values.specs.declared.types.AttributeType.{AttributeType}
use Rattle.values.specs.Types.{name_of}
use Rattle.schema.specs.declared.slots.IndexKind.{IndexKind}
use Rattle.schema.specs.declared.slots.IndexKind.TheVariants.{Equality, Presence, Substrings}
use Rattle.schema.specs.declared.slots.Slot.{Slot}

-- ---- what it says

-- a key, and the ranks of the entries that have it; a rank is an entry's place in the dump, from 0 on
abbrev pub Row : Type 0
Row = List ℕ × List ℕ

-- each slot, and its keys
abbrev pub Rows : Type 0
Rows = List (Slot × List Row)

-- ---- its lines

abbrev pub ended : List ℕ → List ℕ
ended line = line ++ line_feed ∷ []

-- the number of the format, how many entries there are, and the stamp of the dump
abbrev pub header_line : ℕ → List ℕ → List ℕ
header_line entries stamp = codes "slapindex 1 " ++ decimal entries ++ space ∷ encode_lower stamp

abbrev pub kind_name : IndexKind → List ℕ
kind_name Equality = codes "eq"
kind_name Presence = codes "pres"
kind_name Substrings = codes "sub"

-- a type by the name that it is printed by, and a kind
abbrev pub slot_line : List AttributeType → Slot → List ℕ
slot_line types s = codes "slot " ++ name_of types s.type_id ++ space ∷ kind_name s.kind

-- the digits of its bytes, or a hyphen where it has none
abbrev pub key_text : List ℕ → List ℕ
key_text [] = hyphen ∷ []
key_text (b ∷ bs) = encode_lower (b ∷ bs)

abbrev pub rank_text : ℕ → List ℕ
rank_text rank = space ∷ decimal rank

abbrev pub key_line : Row → List ℕ
key_line row = key_text row.0 ++ flat_map rank_text row.1

abbrev pub end_line : List ℕ
end_line = codes "end"

-- ---- the whole

abbrev pub slot_text : List AttributeType → Slot × List Row → List ℕ
slot_text types s = ended (slot_line types s.0) ++ flat_map (λ row. ended (key_line row)) s.1

-- the text of an index of so many entries, whose dump has this stamp
unfoldable pub index_text : List AttributeType → ℕ → List ℕ → Rows → List ℕ
index_text types entries stamp rows = ended (header_line entries stamp) ++ flat_map (slot_text types) rows ++ ended end_line

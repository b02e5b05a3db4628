-- The records of a text with what they read as, and content records that are written.
use Rattle.std.specs.Prelude.{◌≡◌, ℕ, ◌<◌, Bool, true, false, not, ◌&&◌, ◌||◌, ◌==◌, nat_le, List, [], ◌∷◌, ◌++◌, length, map, Result, Ok, codes}
use Rattle.std.specs.List.{flat_map, list_all, AllByRecursion}
use Rattle.base.specs.Ascii.{line_feed, hyphen, full_stop, colon, underscore}
use Rattle.ldif_lines.specs.Records.{records}
use Rattle.ldif_lines.specs.Folding.{begins_line, is_line_byte, standard_width}
use Rattle.ldif.specs.declared.fault.LdifFaultKind.{LdifFaultKind}
use Rattle.ldif.specs.Attrs.{Attr}
use Rattle.ldif.specs.declared.record.Mode.{Mode}
use Rattle.ldif.specs.declared.record.Record.{Record}
use Rattle.ldif.specs.declared.record.Record.TheVariants as variants
use Rattle.ldif.specs.Line.{same_name}
use Rattle.ldif.specs.Reading.{reading}
use Rattle.ldif.specs.Writing.{written_line_to}

-- the records of a text, each by the number of its first line and what it reads as
unfoldable pub readings : Mode → List ℕ → List (ℕ × Result Record LdifFaultKind)
readings mode text = map (λ r. (r.line, reading mode r.first r.lines)) (records text)

abbrev pub reading_of : ℕ × Result Record LdifFaultKind → Result Record LdifFaultKind
reading_of r = r.1

-- what is written as a content record: a name, and attribute values in order
pub record ContentRecord : Type 0 where
  pub dn : List ℕ
  pub attrs : List Attr

abbrev pub written_attr_to : ℕ → Attr → List ℕ
written_attr_to width a = written_line_to width a.name a.value

-- its lines, and an empty line
unfoldable pub write_content_to : ℕ → ContentRecord → List ℕ
write_content_to width c = written_line_to width (codes "dn") c.dn ++ flat_map (written_attr_to width) c.attrs ++ line_feed ∷ []

-- the same to 76 bytes
abbrev pub written_attr : Attr → List ℕ
written_attr = written_attr_to standard_width

abbrev pub write_content : ContentRecord → List ℕ
write_content = write_content_to standard_width

-- the record that it is
abbrev pub as_record : ContentRecord → Result Record LdifFaultKind
as_record c = Ok (variants.Content c.dn c.attrs)

-- ---- what can be written and read back

abbrev pub is_byte : ℕ → Bool
is_byte b = nat_le b 255

-- a letter, a digit, `-`, `_` or `.`
abbrev pub is_name_byte : ℕ → Bool
is_name_byte b = (nat_le 97 b && nat_le b 122) || (nat_le 65 b && nat_le b 90) || (nat_le 48 b && nat_le b 57) || b == hyphen || b == underscore || b == full_stop

abbrev pub is_inner_name_byte : ℕ → Bool
is_inner_name_byte b = is_line_byte b && not (b == colon)

-- what may stand before the first colon of a line that can be written
pub record IsName (name : List ℕ) : Type 0 where
  pub begins : begins_line name ≡ true
  pub bytes : list_all is_inner_name_byte name ≡ true

-- an attribute line of a content record
pub record IsWritableAttr (a : Attr) : Type 0 where
  pub some : 0 < length a.name
  pub name : list_all is_name_byte a.name ≡ true
  pub other : same_name a.name (codes "changetype") ≡ false
  pub value : list_all is_byte a.value ≡ true

pub record IsWritableContent (c : ContentRecord) : Type 0 where
  pub dn : list_all is_byte c.dn ≡ true
  pub attrs : AllByRecursion IsWritableAttr c.attrs

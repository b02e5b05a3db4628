-- How change records are written (RFC 2849, "ldif-change-record"), and which ones can be.
use Rattle.std.specs.Prelude.{◌≡◌, ℕ, Bool, true, false, List, [], ◌∷◌, ◌++◌, map, Option, Some, None, Result, Ok, codes}
use Rattle.std.specs.List.{flat_map, list_all, AllByRecursion}
use Rattle.base.specs.Ends.{without_end}
use Rattle.ldif_lines.specs.Folding.{written_block, IsComment}
use Rattle.ldif.specs.declared.fault.LdifFaultKind.{LdifFaultKind}
use Rattle.ldif.specs.Attrs.{Attr}
use Rattle.ldif.specs.declared.record.Control.{Control}
use Rattle.ldif.specs.declared.record.Mod.{Mod}
use Rattle.ldif.specs.declared.record.Record.{Record}
use Rattle.ldif.specs.declared.record.Record.TheVariants as records
use Rattle.ldif.specs.Writing.{line_text}
use Rattle.ldif.specs.Contents.{is_byte, IsName}
use Rattle.ldif.specs.Forms.{op_word}

-- ---- the lines, before they are folded

abbrev pub attr_text : Attr → List ℕ
attr_text a = line_text a.name a.value

abbrev pub value_text : List ℕ → List ℕ → List ℕ
value_text name v = line_text name v

-- the part of a modify that names one type, which a `-` ends
abbrev pub mod_lines : Mod → List (List ℕ)
mod_lines m = line_text (op_word m.op) m.attr ∷ (map (value_text m.attr) m.values ++ codes "-" ∷ [])

abbrev pub flag_word : Bool → List ℕ
flag_word true = codes "1"
flag_word false = codes "0"

abbrev pub superior_lines : Option (List ℕ) → List (List ℕ)
superior_lines None = []
superior_lines (Some dn) = line_text (codes "newsuperior") dn ∷ []

abbrev pub begun : List ℕ → List ℕ → List (List ℕ) → List (List ℕ)
begun dn word ls = line_text (codes "dn") dn ∷ line_text (codes "changetype") word ∷ ls

-- of a change without controls
abbrev pub change_lines : Record → List (List ℕ)
change_lines records.Empty = []
change_lines (records.Content dn attrs) = []
change_lines (records.Add dn controls attrs) = begun dn (codes "add") (map attr_text attrs)
change_lines (records.Delete dn controls) = begun dn (codes "delete") []
change_lines (records.Modify dn controls mods) = begun dn (codes "modify") (flat_map mod_lines mods)
change_lines (records.ModRdn dn controls newrdn delete_old new_superior) =
    begun dn (codes "modrdn") (line_text (codes "newrdn") newrdn ∷ line_text (codes "deleteoldrdn") (flag_word delete_old) ∷ superior_lines new_superior)

-- ---- the text

-- a change with the comment that stands before it
pub record CommentedChange : Type 0 where
  pub comment : List ℕ
  pub change : Record

abbrev pub change_of : CommentedChange → Record
change_of c = c.change

-- its comment, its lines, and an empty line
unfoldable pub write_change : CommentedChange → List ℕ
write_change c = written_block (c.comment ∷ change_lines c.change)

abbrev pub read_as_itself : Record → Result Record LdifFaultKind
read_as_itself r = Ok r

-- ---- what can be written and read back

abbrev pub AreBytes : List ℕ → Type 0
AreBytes text = list_all is_byte text ≡ true

pub record IsWritableLine (a : Attr) : Type 0 where
  pub name : IsName a.name
  pub value : AreBytes a.value

-- its type's name has no space at the end
pub record IsWritableMod (m : Mod) : Type 0 where
  pub name : IsName m.attr
  pub bytes : AreBytes m.attr
  pub trimmed : without_end m.attr ≡ m.attr
  pub values : AllByRecursion AreBytes m.values

pub record IsWritableHead (name : List ℕ) (given : List Control) : Type 0 where
  pub dn : AreBytes name
  pub controls : given ≡ []

abbrev pub IsSuperior : Option (List ℕ) → Type 0
IsSuperior None = Unit {0}
IsSuperior (Some dn) = AreBytes dn

abbrev pub IsWritableChange : Record → Type 0
IsWritableChange records.Empty = ⊥
IsWritableChange (records.Content dn attrs) = ⊥
IsWritableChange (records.Add dn controls attrs) = IsWritableHead dn controls × AllByRecursion IsWritableLine attrs
IsWritableChange (records.Delete dn controls) = IsWritableHead dn controls
IsWritableChange (records.Modify dn controls mods) = IsWritableHead dn controls × AllByRecursion IsWritableMod mods
IsWritableChange (records.ModRdn dn controls newrdn delete_old new_superior) = IsWritableHead dn controls × AreBytes newrdn × IsSuperior new_superior

pub record IsWritableComment (c : CommentedChange) : Type 0 where
  pub comment : IsComment c.comment
  pub change : IsWritableChange c.change

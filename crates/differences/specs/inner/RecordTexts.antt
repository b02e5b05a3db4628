-- The text of a change record, piece by piece.
use Rattle.std.specs.Prelude.{ℕ, List, [], ◌∷◌, ◌++◌, codes, false, None}
use Rattle.std.specs.List.{flat_map}
use Rattle.ldif.specs.declared.record.Mod.{Mod}
use Rattle.ldif.specs.declared.record.Record.TheVariants as records
use Rattle.ldif.specs.Writing.{written_line}
use Rattle.dn.specs.Writing.{text_of}
use Rattle.values.specs.declared.types.AttributeType.{AttributeType}
use Rattle.values.specs.Types.{name_of}
use Rattle.schema.specs.Names.{written_rdn}
use Rattle.schema.specs.Rdns.{TypedRdn}
use Rattle.entries.specs.Entries.{Attributes, lines_of}
use Rattle.differences.specs.Comments.{change_text}
use Rattle.differences.specs.inner.BlockTexts.{value_lines}

-- the lines that each change record begins with: its comment, its name, and what kind of change it is
abbrev pub head_text : List ℕ → List ℕ → List ℕ → List ℕ → List ℕ
head_text note words dn kind = (written_line note words ++ written_line (codes "dn") dn) ++ written_line (codes "changetype") kind

-- a modify, where there is a block
abbrev pub modify_text : List ℕ → List Mod → List ℕ
modify_text dn [] = []
modify_text dn (m ∷ ms) = change_text (records.Modify dn [] (m ∷ ms))

abbrev pub delete_text : List ℕ → List ℕ
delete_text dn = change_text (records.Delete dn [])

-- the lines of attributes
abbrev pub lines_text : List AttributeType → Attributes → List ℕ
lines_text types attrs = flat_map (λ a. value_lines (name_of types a.0) a.1) attrs

abbrev pub add_text : List AttributeType → List ℕ → Attributes → List ℕ
add_text types dn attrs = change_text (records.Add dn [] (lines_of types attrs))

abbrev pub respelling_text : List AttributeType → List ℕ → TypedRdn → List ℕ
respelling_text types dn new = change_text (records.ModRdn dn [] (text_of (written_rdn types new ∷ [])) false None)

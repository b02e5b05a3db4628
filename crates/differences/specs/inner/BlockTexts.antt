-- The text of the blocks of a modify, piece by piece.
use Rattle.std.specs.Prelude.{ℕ, List, [], ◌∷◌, ◌++◌}
use Rattle.std.specs.List.{flat_map}
use Rattle.ldif.specs.declared.record.Mod.{Mod}
use Rattle.ldif.specs.Forms.{op_word}
use Rattle.ldif.specs.Writing.{written_line}
use Rattle.differences.specs.EntryChanges.{Values}

abbrev pub value_lines : List ℕ → Values → List ℕ
value_lines name vs = flat_map (λ v. written_line name v) vs

-- its operation, its values, and a `-`
abbrev pub mod_text : Mod → List ℕ
mod_text m = (written_line (op_word m.op) m.attr ++ value_lines m.attr m.values) ++ 45 ∷ 10 ∷ []

abbrev pub mods_text : List Mod → List ℕ
mods_text ms = flat_map mod_text ms

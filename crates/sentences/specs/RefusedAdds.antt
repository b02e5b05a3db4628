-- The records that are refused, and that were to add entries.
use Rattle.std.specs.Prelude.{ℕ, if◌then◌else◌, ◌&&◌, not, Some, is_some, nat_eq}
use Rattle.std.specs.Cmp.Lexicographic.{pointwise}
use Rattle.indexmap.specs.IndexMap.{get}
use Rattle.paths.specs.Packed.{pack}
use Rattle.paths.specs.Paths.{Path}
use Rattle.sentences.specs.Missing.{RefusedLines}
use Rattle.sentences.specs.declared.missing.RefusedAdds.{RefusedAdds}

-- where each begins, as the code has it
abbrev pub refused_lines : RefusedAdds → RefusedLines
refused_lines adds path = get (pointwise nat_eq) adds.lines (pack path)

-- the same with one more at a path, where none was kept for it
abbrev pub with_line : RefusedLines → Path → ℕ → RefusedLines
with_line lines path line other = if pointwise nat_eq (pack path) (pack other) && not (is_some (lines path)) then Some line else lines other

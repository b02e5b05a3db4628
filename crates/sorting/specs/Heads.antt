-- What stands at the front of an LDIF text whatever follows: its version line with what is before it (RFC 2849, "version-spec").
use Rattle.std.specs.Prelude.{ℕ, Bool, true, false, if◌then◌else◌, List, [], ◌∷◌, ◌++◌, Option, Some, None, Result, Ok}
use Rattle.base.specs.Ascii.{space}
use Rattle.base.specs.Ends.{begins_with}
use Rattle.ldif_lines.specs.Records.{RawRecord, records}
use Rattle.ldif.specs.Reading.{reading}
use Rattle.ldif.specs.declared.fault.LdifFaultKind.{LdifFaultKind}
use Rattle.ldif.specs.declared.record.Mode.TheVariants.{Content}
use Rattle.ldif.specs.declared.record.Record.{Record}
use Rattle.ldif.specs.declared.record.Record.TheVariants as records_of
use Rattle.sorting.specs.Stanzas.{ended_lines, is_empty, is_kept}
use Rattle.sorting.specs.declared.heads.Stage.{Stage}
use Rattle.sorting.specs.declared.heads.Stage.TheVariants.{Before, Within, Behind}

-- how far the front of a text is behind one more line, None where that doesn't belong to it; `first` says whether a block begins with the line
abbrev pub stage_behind : Stage → Bool → List ℕ → Option Stage
stage_behind Before first line = Some (if is_kept first line then Within else Before)
stage_behind Within first line = if begins_with space line then Some Within else if is_empty line then Some Behind else None
stage_behind Behind first line = if is_empty line then Some Behind else None

abbrev pub with_line : List ℕ → Option Stage → (Stage → List ℕ) → List ℕ
with_line line None more = []
with_line line (Some stage) more = line ++ more stage

-- the lines at the front: up to the first line of a record, with what continues that and the empty lines behind it
unfoldable pub front_of : Stage → Bool → List (List ℕ) → List ℕ
front_of stage first [] = []
front_of stage first (line ∷ lines) = with_line line (stage_behind stage first line) (λ next_stage. front_of next_stage (is_empty line) lines)

abbrev pub front : List ℕ → List ℕ
front text = front_of Before true (ended_lines text)

-- whether a text is a version line alone, with the one version that there is
abbrev pub is_empty_record : Result Record LdifFaultKind → Bool
is_empty_record (Ok records_of.Empty) = true
is_empty_record r = false

abbrev pub is_version_in : List RawRecord → Bool
is_version_in [] = false
is_version_in (r ∷ rs) = is_empty_record (reading Content true r.lines)

unfoldable pub is_version : List ℕ → Bool
is_version text = is_version_in (records text)

-- the head of a text: its front, where that has the version
abbrev pub head : List ℕ → List ℕ
head text = if is_version (front text) then front text else []

-- What is written for a record that is refused: the number of its line, and the code or the fault.
use Rattle.std.specs.Prelude.{ℕ, List, [], ◌∷◌, ◌++◌, codes}
use Rattle.std.specs.List.{flat_map}
use Rattle.std.specs.Fmt.{decimal}
use Rattle.base.specs.Ascii.{line_feed}
use Rattle.ldif.specs.Faults.{fault_report}
use Rattle.schema.specs.Codes.{code_report}
use Rattle.databases.specs.declared.refusal.RecordRefusal.{RecordRefusal}
use Rattle.databases.specs.declared.refusal.RecordRefusal.TheVariants as refusals

-- a code by its number and name, a fault by its number behind an `L` and its text
abbrev pub refusal_report : RecordRefusal → List ℕ
refusal_report (refusals.Code c) = code_report c
refusal_report (refusals.Fault f) = fault_report f

-- `line N: 32 noSuchObject` or `line N: L4 base64` in kind, and a line feed
unfoldable pub report_line : ℕ × RecordRefusal → List ℕ
report_line r = codes "line " ++ (decimal r.0 ++ (codes ": " ++ (refusal_report r.1 ++ line_feed ∷ [])))

abbrev pub report : List (ℕ × RecordRefusal) → List ℕ
report refused = flat_map report_line refused

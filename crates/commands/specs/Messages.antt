-- What is reported: what is written on standard error.
use Rattle.std.specs.Prelude.{◌≡◌, ℕ, ◌⊎◌, List, [], ◌∷◌, ◌++◌, codes, string_bytes}
use Rattle.std.specs.Fmt.{decimal}
use Rattle.base.specs.Ascii.{line_feed}
use Rattle.device.specs.Device.{Written, Took, Broke}
use Rattle.schema.specs.declared.code.Code.{Code}
use Rattle.schema.specs.Codes.{code_report}
use Rattle.dir_conf.specs.ConfFaults.{kind_report}
use Rattle.filter_text.specs.FaultReports as filters
use Rattle.databases.specs.Reports.{refusal_report}
use Rattle.commands.specs.declared.messages.Status.{Status}
use Rattle.commands.specs.declared.messages.Status.TheVariants.{Failed}
use Rattle.commands.specs.declared.messages.CommandFault.{CommandFault}
use Rattle.commands.specs.declared.messages.CommandFault.TheVariants as faults

-- the text was written, and the status is the one that is wanted; or the sink failed in it
abbrev pub IsTextReported : Written → Written → List ℕ → Status → Status → Type 0
IsTextReported a b text wanted status = ((status ≡ wanted) × Took a b text) ⊎ ((status ≡ Failed) × Broke a b text)

-- the result code that a command ends with, as `search: 32 noSuchObject`
abbrev pub code_text : List ℕ → Code → List ℕ
code_text command code = command ++ (codes ": " ++ code_report code)

-- how a fault is printed
abbrev pub fault_text : CommandFault → List ℕ
fault_text faults.Words = codes "command line: not UTF-8"
fault_text (faults.Filter fault) = codes "filter: " ++ filters.fault_report fault
fault_text (faults.Line number fault) = codes "filter line " ++ (decimal number ++ (codes ": " ++ filters.fault_report fault))
fault_text (faults.LineCode number code) = codes "filter line " ++ (decimal number ++ (codes ": " ++ code_report code))
fault_text (faults.Code command code) = code_text command.now code
fault_text (faults.Configuration line kind) = codes "dir.conf line " ++ (decimal line ++ (codes ": " ++ kind_report kind))
fault_text (faults.Data line refusal) = codes "data.ldif line " ++ (decimal line ++ (codes ": " ++ refusal_report refusal))
fault_text (faults.Content name line refusal) = string_bytes name ++ (codes " line " ++ (decimal line ++ (codes ": " ++ refusal_report refusal)))
fault_text (faults.CannotRead name) = string_bytes name ++ codes ": cannot read"
fault_text (faults.CannotWrite name) = string_bytes name ++ codes ": cannot write"
fault_text (faults.InUse name) = string_bytes name ++ codes ": in use"
fault_text faults.OutOfMemory = codes "out of memory"

abbrev pub line_of : List ℕ → List ℕ
line_of text = text ++ line_feed ∷ []

-- the line of this text is reported, with the status that is wanted; or memory ran out, and that is reported
abbrev pub IsReported : Written → Written → List ℕ → Status → Status → Type 0
IsReported a b text wanted status = IsTextReported a b (line_of text) wanted status ⊎ IsTextReported a b (codes "out of memory\n") Failed status

-- A fault of lines as one of their text.
use Rattle.stored_index.specs.declared.fault.IndexFault.{IndexFault}
use Rattle.stored_index.specs.declared.fault.IndexFault.TheVariants as faults
use Rattle.stored_index.specs.declared.fault.LineFault.{LineFault}
use Rattle.stored_index.specs.declared.fault.LineFault.TheVariants as lines

abbrev pub index_fault : LineFault → IndexFault
index_fault (lines.Fault kind) = faults.Fault kind
index_fault lines.OutOfMemory = faults.OutOfMemory

-- What reading a configuration answers, against what its text says.
use Rattle.std.specs.Prelude.{Option, Some, None, Result}
use Rattle.base.specs.Answers as answers
use Rattle.dir_conf.specs.declared.conf_fault.ConfFault.{ConfFault}
use Rattle.dir_conf.specs.declared.conf_fault.ConfFault.TheVariants as faults
use Rattle.dir_conf.specs.Configurations.{At}

abbrev pub fault_at : ConfFault → Option At
fault_at faults.OutOfMemory = None
fault_at (faults.Line line kind) = Some (line, kind)

-- seen by view, what was answered is what the text says, unless memory ran out
abbrev pub Reads : {X Y : Type 0} → (X → Y) → Result X ConfFault → Result Y At → Type 0
Reads = answers.Gives fault_at

-- What a key is at fault with where its text doesn't decode.
use Rattle.hex.specs.declared.error.FromHexError.{FromHexError}
use Rattle.hex.specs.declared.error.FromHexError.TheVariants as hex
use Rattle.stored_index.specs.declared.fault.LineFault.{LineFault}
use Rattle.stored_index.specs.declared.fault.LineFault.TheVariants.{Fault, OutOfMemory}
use Rattle.stored_index.specs.declared.fault.IndexFaultKind.TheVariants.{Form}

abbrev pub fault_by : FromHexError → LineFault
fault_by hex.OutOfMemory = OutOfMemory
fault_by hex.OddLength = Fault Form
fault_by hex.InvalidStringLength = Fault Form
fault_by (hex.InvalidHexCharacter c index) = Fault Form

-- What a name in a line of a configuration stands for, of what is defined so far.
use Rattle.std.specs.Prelude.{ℕ, List, Option, Some, None, Result, Ok, Err}
use Rattle.values.specs.declared.types.AttributeType.{AttributeType}
use Rattle.values.specs.Types.{type_of}
use Rattle.dir_conf.specs.declared.conf_fault.ConfFaultKind.TheVariants.{UnknownName}
use Rattle.dir_conf.specs.ConfFaults.{At}

abbrev pub or_unknown : ℕ → Option ℕ → Result ℕ At
or_unknown line None = Err (line, UnknownName)
or_unknown line (Some number) = Ok number

-- the type with this name or OID
abbrev pub type_named : List AttributeType → ℕ → List ℕ → Result ℕ At
type_named types line name = or_unknown line (type_of types name)

-- The octets and the states of reading that the code's stand for.
use Rattle.std.specs.Prelude.{ℕ, ◌+◌, ◌*◌, true, false, ◌==◌, if◌then◌else◌, Option, Some, None, Result, Ok, Err}
use Rattle.base.specs.Ascii.{backslash}
use Rattle.dn.specs.declared.faults.NameFaultKind.{NameFaultKind}
use Rattle.dn.specs.declared.faults.NameFaultKind.TheVariants.{Escape}
use Rattle.dn.specs.declared.value.Octet as octets
use Rattle.dn.specs.declared.value.State as states
use Rattle.dn.specs.declared.value.State.TheVariants as variants
use Rattle.dn.specs.Spelling.{Octet, may_stand, may_follow, is_hex, hex}
use Rattle.dn.specs.Reading.{State, Plain, Backslash, HalfPair, raw_fault}

abbrev pub octet_seen : octets.Octet → Octet
octet_seen o = record { raw = o.raw; byte = o.byte }

abbrev pub any_seen : Option octets.Octet → Option Octet
any_seen None = None
any_seen (Some o) = Some (octet_seen o)

abbrev pub state_seen : states.State → State
state_seen variants.Plain = Plain
state_seen variants.Backslash = Backslash
state_seen (variants.HalfPair high) = HalfPair high

-- the octets of a text, one byte at a time: what is read of an escape then, and the octet that ends with the byte
unfoldable pub step : State → ℕ → Result (State × Option Octet) NameFaultKind
step Plain b = if may_stand b then Ok (Plain, Some (record { raw = true; byte = b })) else (if b == backslash then Ok (Backslash, None) else Err (raw_fault b))
step Backslash b = if may_follow b then Ok (Plain, Some (record { raw = false; byte = b })) else (if is_hex b then Ok (HalfPair (hex b), None) else Err Escape)
step (HalfPair high) b = if is_hex b then Ok (Plain, Some (record { raw = false; byte = 16 * high + hex b })) else Err Escape

-- what one byte comes to
abbrev pub step_seen : Result (states.State × Option octets.Octet) NameFaultKind → Result (State × Option Octet) NameFaultKind
step_seen (Ok (state, octet)) = Ok (state_seen state, any_seen octet)
step_seen (Err fault) = Err fault

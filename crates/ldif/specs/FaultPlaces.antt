-- Where a record is at fault.
use Rattle.std.specs.Prelude.{◌≡◌, ◌≤◌, ℕ, Bool, List, Option, Some, None, Ok, Err, length, take, slice_get}
use Rattle.ldif.specs.declared.fault.LdifFaultKind.{LdifFaultKind}
use Rattle.ldif.specs.declared.at_fault.FaultPlace.{FaultPlace}
use Rattle.ldif.specs.declared.record.Mode.{Mode}
use Rattle.ldif.specs.declared.record.Record.{Record}
use Rattle.ldif.specs.Dues.{place_of}
use Rattle.ldif.specs.Places.{Place, start, IsWay}
use Rattle.ldif.specs.Reading.{reading}
use Rattle.ldif.specs.RecordFaults.{IsFaultHere, IsUnfinished}

-- the fault of a line at a place, or of the end there
abbrev pub IsFaultOf : Place → Option (List ℕ) → LdifFaultKind → Type 0
IsFaultOf place (Some line) fault = IsFaultHere place line fault
IsFaultOf place None fault = IsUnfinished place fault

-- Lines are no record. Those before this index lead to this place, at which the line of the index, or the end, has the very fault for
-- which they are none.
pub record IsAtFault (mode : Mode) (first : Bool) (lines : List (List ℕ)) (index : ℕ) (place : Place) : Type 0 where
  pub within : index ≤ length lines
  pub way : IsWay mode (start first) (take index lines) place
  pub fault : LdifFaultKind
  pub is : reading mode first lines ≡ Err fault
  pub here : IsFaultOf place (slice_get lines index) fault

-- where lines are at fault, or else they are a record
abbrev pub IsFaultPlace : Mode → Bool → List (List ℕ) → Option FaultPlace → Type 0
IsFaultPlace mode first lines (Some found) = IsAtFault mode first lines found.index (place_of found.due)
IsFaultPlace mode first lines None = (found : Record) × (reading mode first lines ≡ Ok found)

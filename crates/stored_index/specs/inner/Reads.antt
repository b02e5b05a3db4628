-- What a call reads, where what it keeps is another form of what the definition says.
use Rattle.std.specs.Prelude.{◌≡◌, ℕ, Bool, true, List, Result, Ok, Err}
use Rattle.std.specs.FinSet as set
use Rattle.base.specs.Answers as answers
use Rattle.stored_index.specs.Gives.{kind_of}
use Rattle.index_text.specs.KeySets as keys
use Rattle.stored_index.specs.Reading.{HeaderContent}
use Rattle.stored_index.specs.declared.fault.LineFault.{LineFault}
use Rattle.stored_index.specs.declared.fault.IndexFaultKind.{IndexFaultKind}
use Rattle.stored_index.specs.declared.header.Header.{Header}

-- what was answered keeps what the definition says, unless memory ran out; a fault is the definition's
abbrev pub Reads : {X Y : Type 0} → (Y → X → Type 0) → Result X LineFault → Result Y IndexFaultKind → Type 0
Reads {X} {Y} Keeps (Ok x) said = (y : Y) × (said ≡ Ok y) × Keeps y x
Reads Keeps (Err error) said = answers.Fails (kind_of error) said

-- the set of these ranks
abbrev pub IsSetOf : List ℕ → keys.Members → Type 0
IsSetOf ranks members = members ≡ set.from_list ranks

-- the same, where they are asked for
abbrev pub SetIfAsked : Bool → List ℕ → keys.Members → Type 0
SetIfAsked asked ranks members = asked ≡ true → IsSetOf ranks members

abbrev pub header_view : Header → HeaderContent
header_view header = record { entries = header.entries; stamp = header.stamp.now }

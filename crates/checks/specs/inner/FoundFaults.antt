-- How faults are found, one behind the other.
use Rattle.std.specs.Prelude.{◌≡◌, ℕ, Bool, List, [], ◌∷◌, ◌++◌, map}
use Rattle.definitions.specs.declared.lines.Line.{Line}
use Rattle.definitions.specs.Lines.{lines_of}
use Rattle.checks.specs.declared.conf_faults.ConfLineFault.{ConfLineFault}
use Rattle.checks.specs.declared.conf_faults.FoundFault.{FoundFault}
use Rattle.checks.specs.declared.lost_names.LostNames.{LostNames}
use Rattle.checks.specs.declared.lost_names.LostName.{LostName}
use Rattle.checks.specs.ConfFaults.{most_faults, AreFirstFaults}
use Rattle.checks.specs.LeftOut.{types_lost_by, classes_lost_by, types_lost, classes_lost, text_behind, Counts, EachCounts}

-- the first fault of a text, and what its line would have defined, stand behind the others
pub record Takes (lines : List Line) (left : List ℕ) (fault : ConfLineFault) (lost lost' : LostNames) (found found' : List FoundFault) : Type 0 where
  pub taken : FoundFault
  pub of_fault : taken.fault ≡ fault
  pub counts : Counts lines left lost.types.items lost.classes.items fault taken.counted_with
  pub types : lost'.types.items ≡ lost.types.items ++ types_lost_by lines taken
  pub classes : lost'.classes.items ≡ lost.classes.items ++ classes_lost_by lines taken
  pub found_is : found' ≡ found ++ taken ∷ []

-- so much was found of a text, with what is lost, and this is left to be read; so many faults more may be found
pub record HasFound (text left : List ℕ) (room : ℕ) (found : List FoundFault) (types classes : List LostName) : Type 0 where
  pub before : (others : List ConfLineFault) (more : Bool) → AreFirstFaults room left others more → AreFirstFaults most_faults text (map (λ f. f.fault) found ++ others) more
  pub left_is : left ≡ text_behind text found
  pub types_are : types ≡ types_lost (lines_of text) found
  pub classes_are : classes ≡ classes_lost (lines_of text) found
  pub count : EachCounts text found

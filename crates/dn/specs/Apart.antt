-- Names of which the RDNs up to a comma and those behind it are read apart.
use Rattle.std.specs.Prelude.{ℕ, Bool, not, ◌&&◌, ◌==◌, List, ◌++◌, length, Result, Ok}
use Rattle.base.specs.Answers.{◌>>=◌}
use Rattle.base.specs.Ascii.{space, backslash}
use Rattle.base.specs.Ends.{begins_with, ends_with}
use Rattle.dn.specs.declared.faults.NameFaultKind.{NameFaultKind}
use Rattle.dn.specs.Names.{Name}
use Rattle.dn.specs.Reading.{name_of}

-- there is something, no space at its front, and no backslash at its end
abbrev pub may_end : List ℕ → Bool
may_end front = not (length front == 0) && not (begins_with space front) && not (ends_with backslash front)

-- the RDNs of both, or the first fault
abbrev pub read_apart : List ℕ → List ℕ → Result Name NameFaultKind
read_apart front end = name_of front >>= λ n. name_of end >>= λ m. Ok (n ++ m)

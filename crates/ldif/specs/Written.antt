-- What was written of a text, piece by piece.
use Rattle.std.specs.Prelude.{◌≡◌, ℕ, List, ◌++◌, Result, Ok, Err}
use Rattle.device.specs.Device.{Written, Took, Broke}
use Rattle.ldif.specs.declared.write.WriteFault.{WriteFault}
use Rattle.ldif.specs.declared.write.WriteFault.TheVariants as faults

-- a beginning of the bytes was written, and these are left
pub record SoFar (a b : Written) (whole rest : List ℕ) : Type 0 where
  pub front : List ℕ
  pub parts : whole ≡ front ++ rest
  pub written : Took a b front

pub record Begun (a b : Written) (whole : List ℕ) : Type 0 where
  pub rest : List ℕ
  pub so_far : SoFar a b whole rest

-- the bytes were written, or as many as came before the fault
abbrev pub Writes : Result (Unit {0}) WriteFault → Written → Written → List ℕ → Type 0
Writes (Ok u) a b bytes = Took a b bytes
Writes (Err faults.Device) a b bytes = Broke a b bytes
Writes (Err faults.OutOfMemory) a b bytes = Begun a b bytes

-- of the bytes a beginning was written and the rest is left, or as many were written as came before the fault
abbrev pub WritesOn : Result (Unit {0}) WriteFault → Written → Written → List ℕ → List ℕ → Type 0
WritesOn (Ok u) a b bytes left = SoFar a b bytes left
WritesOn (Err e) a b bytes left = Writes (Err e) a b bytes

-- how a call ends that also answers something
abbrev pub end_of : {A : Type 0} → Result A WriteFault → Result (Unit {0}) WriteFault
end_of (Ok x) = Ok tt
end_of (Err fault) = Err fault

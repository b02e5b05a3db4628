-- Entries that are found, written one by one up to a limit.
use Rattle.std.specs.Prelude.{◌≡◌, ℕ, ◌-◌, ◌==◌, Bool, false, List, Option, Some, None, Result, Ok, Err}
use Rattle.device.specs.Device.{Written}
use Rattle.ldif.specs.declared.write.WriteFault.{WriteFault}
use Rattle.ldif.specs.Written.{SoFar, Writes}

abbrev pub is_used_up : Option ℕ → Bool
is_used_up None = false
is_used_up (Some n) = n == 0

-- what is left of it when one more was written
abbrev pub one_fewer : Option ℕ → Option ℕ
one_fewer None = None
one_fewer (Some n) = Some (n - 1)

-- of the bytes a beginning was written and the rest is left, and the answer is this; or as many were written as came before the fault
pub record AnswersOn (past wanted : Bool) (a b : Written) (bytes left : List ℕ) : Type 0 where
  pub past_is : past ≡ wanted
  pub so_far : SoFar a b bytes left

abbrev pub WritesFoundOn : Result Bool WriteFault → Bool → Written → Written → List ℕ → List ℕ → Type 0
WritesFoundOn (Ok past) wanted a b bytes left = AnswersOn past wanted a b bytes left
WritesFoundOn (Err e) wanted a b bytes left = Writes (Err e) a b bytes

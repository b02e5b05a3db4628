-- Ways out with a fault: where memory ran out nothing is said, and a fault that is handed on says what it said.
use Rattle.std.proofs.Common.{◌≡◌, Bool, Result}
use Rattle.std.specs.Prelude.{IsErrAnd}
use Rattle.std.proofs.lemmas.Result.{err_from_is_err_and}
use Rattle.values.specs.declared.value.ValueFault.{ValueFault}
use Rattle.values.specs.declared.value.ValueFault.TheVariants as value_faults
use Rattle.schema.specs.declared.code.Code.{Code}
use Rattle.schema.specs.declared.fault.PathFault.{PathFault}
use Rattle.schema.specs.declared.fault.PathFault.TheVariants as faults
use Rattle.base.specs.Answers.{Fails}
use Rattle.schema.specs.Gives.{fault_of, Gives, Makes}

pub gives_nothing : {X Y : Type 0} (seen : X → Y) (r : Result X PathFault) (said : Result Y Code) → IsErrAnd r (λ e. e ≡ faults.OutOfMemory)
    → Gives seen r said
gives_nothing seen r said h = let p = err_from_is_err_and r h in rw (p.1, p.2) tt

pub makes_nothing : {X : Type 0} (r : Result X ValueFault) (valid : Bool) (P : X → Type 0) → IsErrAnd r (λ e. e ≡ value_faults.OutOfMemory)
    → Makes r valid P
makes_nothing r valid P h = let p = err_from_is_err_and r h in rw (p.1, p.2) tt

pub handed_on : {X Y : Type 0} (seen : X → Y) (r : Result X PathFault) (fault : PathFault) (said : Result Y Code) → IsErrAnd r (λ e. e ≡ fault)
    → Fails (fault_of fault) said → Gives seen r said
handed_on seen r fault said h fails = let p = err_from_is_err_and r h in rw (p.1, p.2) fails

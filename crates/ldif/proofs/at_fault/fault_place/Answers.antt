use Rattle.std.proofs.Common.{◌≡◌, List, ℕ, Err, length, subst, sym, ap, arith}
use Rattle.std.proofs.lemmas.List.{length-append}
use Rattle.base.specs.Answers.{Fails}
use Rattle.ldif.specs.Dues.{place_of}
use Rattle.ldif.specs.FaultPlaces.{IsAtFault}
use Rattle.ldif.specs.Gives.{fault_of}
use Rattle.ldif.specs.Steps.{finish, step}
use Rattle.ldif.specs.declared.fault.LdifFault.{LdifFault}
use Rattle.ldif.proofs.ChangeForms.{AreBytes}
use Rattle.ldif.proofs.WalkedLines.{IsWalked, walked_more, stops_there, ends_there, reads}
use Rattle.ldif.proofs.at_fault.fault_place.Goals as goal

pub overflow_sub-index : goal.overflow_sub-index
overflow_sub-index c =
    let h = c.walk.invariant in
    omega (arith, c.len.ensures, c.len-len.ensures, ap length h.is, length-append h.front c.walk.rest)

pub returns-in-Err-Fault : goal.returns-in-Err-Fault
returns-in-Err-Fault c =
    let raw = c.args.raw.now in
    let place = place_of c.walk.due in
    let walked = subst (λ (left : List (List ℕ)). IsWalked c.args.mode raw.first raw.lines place left) c.in-Some.ensures c.walk.invariant in
    let failed : step c.args.mode place c.in-Some.line.now ≡ Err c.in-Err-Fault.field-0-0 = subst (λ (x : LdifFault). Fails (fault_of x) (step c.args.mode place c.in-Some.line.now)) c.in-Err-Fault.field-0-is c.in-Err-Fault.ensures in
    let h = c.walk.invariant in
    stops_there c.args.mode raw.first raw.lines (subst AreBytes c.all.ensures c.are_in_range.ensures) place c.in-Some.line.now c.in-Some.after walked c.in-Err-Fault.field-0-0 _ failed
    (omega (arith, c.len.ensures, c.len-len.ensures, ap length c.in-Some.ensures, ap length h.is, length-append h.front c.walk.rest))

pub walk-preserved : goal.walk-preserved
walk-preserved c =
    let raw = c.args.raw.now in
    let place = place_of c.walk.due in
    let walked = subst (λ (left : List (List ℕ)). IsWalked c.args.mode raw.first raw.lines place left) c.in-Some.ensures c.walk.invariant in
    walked_more c.args.mode raw.first raw.lines (subst AreBytes c.all.ensures c.are_in_range.ensures) place c.in-Some.line.now c.in-Some.after walked (place_of c.in-Ok.next) c.in-Ok.ensures

pub returns-in-Ok-end : goal.returns-in-Ok-end
returns-in-Ok-end c =
    let raw = c.args.raw.now in
    let place = place_of c.walk.due in
    reads c.args.mode raw.first raw.lines (subst AreBytes c.all.ensures c.are_in_range.ensures) place (subst (λ (left : List (List ℕ)). IsWalked c.args.mode raw.first raw.lines place left) c.in_default.ensures c.walk.invariant) c.in-Ok-end.ensures

pub returns-in-Err-Fault-end : goal.returns-in-Err-Fault-end
returns-in-Err-Fault-end c =
    let raw = c.args.raw.now in
    let place = place_of c.walk.due in
    let walked = subst (λ (left : List (List ℕ)). IsWalked c.args.mode raw.first raw.lines place left) c.in_default.ensures c.walk.invariant in
    let failed : finish place ≡ Err c.in-Err-Fault-end.field-0-0 = subst (λ (x : LdifFault). Fails (fault_of x) (finish place)) c.in-Err-Fault-end.field-0-is c.in-Err-Fault-end.ensures in
    subst (λ (n : ℕ). IsAtFault c.args.mode raw.first raw.lines n place) (sym c.len-len.ensures) (ends_there c.args.mode raw.first raw.lines (subst AreBytes c.all.ensures c.are_in_range.ensures) place walked c.in-Err-Fault-end.field-0-0 failed)

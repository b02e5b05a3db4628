use Rattle.std.proofs.Common.{Some, refl, inl, inr}
use Rattle.std.specs.Prelude.{codes}
use Rattle.std.specs.Option.{option_copied}
use Rattle.std.proofs.lemmas.Result.{on_ok_weaker}
use Rattle.commands.specs.Prints.{IsMovedText}
use Rattle.commands.specs.Queries.{CannotMove, target_of, HasBegun}
use Rattle.commands.proofs.Ends.{moved_by, text_begun}
use Rattle.commands.proofs.Stopping.{of_faults, refused_prints}
use Rattle.commands.proofs.slapcat.put_moved.Goals as goal

pub returns-in-Ok-clause-put : goal.returns-in-Ok-clause-put
returns-in-Ok-clause-put g c = λ w.
    let d = c.args.database.now in
    on_ok_weaker c.put.result (λ put. record { text = _; is = moved_by c.args.asked.now.width c.args.name.now d.conf d.entries c.in-Ok.moved c.in-Ok.ensures.moved c.loads_back.ensures; put = put }) (c.put.ensures.put w)

pub returns-in-Ok-clause-fault : goal.returns-in-Ok-clause-fault
returns-in-Ok-clause-fault g c = of_faults c.put.result (λ f fails. inr fails) c.put.ensures.err

pub returns-in-Ok-clause-partly : goal.returns-in-Ok-clause-partly
returns-in-Ok-clause-partly g c =
    let d = c.args.database.now in
    let asked = c.args.asked.now in
    text_begun (IsMovedText asked.width c.args.name.now d.conf d.entries) (option_copied asked.file) _
    (moved_by asked.width c.args.name.now d.conf d.entries c.in-Ok.moved c.in-Ok.ensures.moved c.loads_back.ensures)
    c.put.result (target_of (option_copied asked.file)) _ _ c.put.ensures.err c.put.ensures.begins

pub returns-in-Err-clause-fault : goal.returns-in-Err-clause-fault
returns-in-Err-clause-fault g c = inl c.in-Err.ensures.fault

pub returns-in-Err-clause-partly : goal.returns-in-Err-clause-partly
returns-in-Err-clause-partly g c =
    let d = c.args.database.now in
    let asked = c.args.asked.now in
    refused_prints (HasBegun (IsMovedText asked.width c.args.name.now d.conf d.entries) (option_copied asked.file)) _ _ refl
    (codes "slapcat") (CannotMove (Some c.args.name.now) d.conf d.entries) c.in-Err.fault c.in-Err.ensures.fault

use Rattle.std.proofs.Common.{Some, ◌<◌, List, length, ap, ◌∙◌, arith}
use Rattle.values.specs.declared.types.AttributeType.{AttributeType}
use Rattle.values.specs.Types.{type_of}
use Rattle.values.proofs.Tables.{is_known, some}
use Rattle.values.proofs.table.TypeTable.type_of.Goals as goal

pub overflow_cast-number : goal.overflow_cast-number
overflow_cast-number c =
    let there : c.in-Some.number < length c.self.inside.types =
    is_known c.self.inside.types c.args.name.now (Some c.in-Some.number) (c.in-Some.ensures ∙ c.self.invariant.1 c.args.name.now) in
    omega (arith, c.self.invariant.0)

pub returns-in-Some-clause-place : goal.returns-in-Some-clause-place
returns-in-Some-clause-place c =
    ap some c.from_number.ensures ∙ c.in-Some.ensures ∙ c.self.invariant.1 c.args.name.now ∙ ap (λ (ts : List AttributeType). type_of ts c.args.name.now) c.self.view_is

pub returns-in-Some-clause-known : goal.returns-in-Some-clause-known
returns-in-Some-clause-known c =
    is_known c.args.self.now c.args.name.now (Some c.from_number.result) (returns-in-Some-clause-place c)

use Rattle.std.proofs.Common.{◌∙◌, sym, arith}
use Rattle.std.proofs.lemmas.Result.{err_from_is_err_and}
use Rattle.definitions.specs.TypeFields.{field_at}
use Rattle.definitions.specs.TypeDefinitions.{with_field}
use Rattle.definitions.proofs.FieldLoop.{ends, goes_on, no_field, not_put, runs_out}
use Rattle.definitions.proofs.type_definition.TypeDefinition.put_fields.Goals as goal

pub returns-then-ends_there : goal.returns-then-ends_there
returns-then-ends_there c = ends field_at with_field c.args.text.now c.loop.index c.loop.rest.now c.loop.self _ c.loop-test.true c.loop.invariant (sym c.ends_there.ensures ∙ c.if-ends_there.true)

pub returns-in_err-field : goal.returns-in_err-field
returns-in_err-field c =
    let p = err_from_is_err_and c.from_residual.result c.from_residual.ensures.1 in
    rw (p.1, p.2) (no_field field_at with_field c.args.text.now c.loop.index c.loop.rest.now c.loop.self _ c.loop-test.true c.loop.invariant c.in_err-field.field-0.0 (sym c.ends_there.ensures ∙ c.if-ends_there.false) c.in_err-field.ensures)

pub returns-in_err-put_field : goal.returns-in_err-put_field
returns-in_err-put_field c =
    let p = err_from_is_err_and c.from_residual-in_err-put_field.result c.from_residual-in_err-put_field.ensures.1 in
    rw (p.1, p.2)
    (not_put field_at with_field c.args.text.now c.loop.index c.loop.rest.now c.loop.self _ c.loop-test.true c.loop.invariant c.in_err-put_field.field-0.0 (c.in_ok-field.field, c.in_ok-field.behind.now)
    (sym c.ends_there.ensures ∙ c.if-ends_there.false) c.in_ok-field.ensures c.in_err-put_field.ensures)

pub loop-preserved : goal.loop-preserved
loop-preserved c =
    goes_on field_at with_field c.args.text.now c.loop.index c.loop.rest.now c.loop.self _ c.loop-test.true c.loop.invariant (c.in_ok-field.field, c.in_ok-field.behind.now) c.put_field.new.self
    (sym c.ends_there.ensures ∙ c.if-ends_there.false) c.in_ok-field.ensures c.in_ok-put_field.ensures

pub returns : goal.returns
returns c = runs_out field_at with_field c.args.text.now c.loop.index c.loop.rest.now c.loop.self _ (omega (arith, c.loop-test.false)) c.loop.invariant

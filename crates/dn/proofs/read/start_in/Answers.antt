use Rattle.std.proofs.lemmas.Result.{err_from_is_err_and}
use Rattle.dn.specs.Gives.{fault_of}
use Rattle.dn.specs.inner.Cuts.{first_ava}
use Rattle.dn.proofs.Firsts.{ava_is, equals_fails, value_in, starts}
use Rattle.dn.proofs.read.start_in.Goals as goal

pub returns-in_err-after_equals-clause-err : goal.returns-in_err-after_equals-clause-err
returns-in_err-after_equals-clause-err c =
    let p = err_from_is_err_and c.from_residual.result c.from_residual.ensures.1 in
    let ty = c.split_type.result.0.now in
    let is = ava_is c.args.text.now c.skip-text.result.now ty c.split_type.result.1.now c.skip.result.now c.skip-text.ensures c.split_type.ensures.type_text c.split_type.ensures.rest c.skip.ensures in
    rw (p.1, p.2) (equals_fails (first_ava c.args.text.now) ty c.skip.result.now is (fault_of c.in_err-after_equals.field-0.0) c.in_err-after_equals.ensures.rest)

pub returns-clause-exact : goal.returns-clause-exact
returns-clause-exact c =
    let ty = c.split_type.result.0.now in
    let is = ava_is c.args.text.now c.skip-text.result.now ty c.split_type.result.1.now c.skip.result.now c.skip-text.ensures c.split_type.ensures.type_text c.split_type.ensures.rest c.skip.ensures in
    value_in (first_ava c.args.text.now) ty c.skip.result.now is c.in_ok-after_equals.field-0.now c.skip-rest.result.now c.in_ok-after_equals.ensures.rest c.skip-rest.ensures

pub returns-clause-text : goal.returns-clause-text
returns-clause-text c =
    starts c.skip-text.result.now c.split_type.result.0.now c.split_type.result.1.now c.skip.result.now c.in_ok-after_equals.field-0.now c.skip-rest.result.now c.split_type.ensures.type_text c.split_type.ensures.rest c.skip.ensures c.in_ok-after_equals.ensures.rest c.skip-rest.ensures

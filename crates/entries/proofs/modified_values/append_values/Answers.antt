use Rattle.std.proofs.Common.{sym, ap, ◌∙◌, subst, List, ℕ}
use Rattle.std.proofs.lemmas.Result.{IfOk-from_err, err_from_is_err_and}
use Rattle.base.specs.Answers.{Fails}
use Rattle.base.proofs.Through.{goes_on, is_done, ends}
use Rattle.entries.specs.Gives.{fault_of}
use Rattle.entries.specs.StoredEntries.{raws}
use Rattle.entries.specs.Modifies.{append_value}
use Rattle.entries.proofs.modified_values.append_values.Goals as goal

pub loop-raw-preserved : goal.loop-raw-preserved
loop-raw-preserved c =
    let step = append_value c.args.conf.now.types c.args.t in
    let old = raws c.loop-raw.values in
    record {
      normal = c.in_ok-append_value.ensures.normal;
      rest = goes_on step c.args.texts.now c.loop-raw.raw-index c.raw-item.result old _ _ c.loop-raw-test.true (ap (step old) (sym (c.as_slice.ensures ∙ c.raw-item.is)) ∙ c.in_ok-append_value.ensures.gives) c.loop-raw.invariant.rest;
    }

pub returns-clause-gives : goal.returns-clause-gives
returns-clause-gives c = is_done (append_value c.args.conf.now.types c.args.t) c.args.texts.now c.loop-raw.raw-index (raws c.loop-raw.values) _ c.loop-raw-test.false c.loop-raw.invariant.rest

pub returns-in_err-append_value-clause-normal : goal.returns-in_err-append_value-clause-normal
returns-in_err-append_value-clause-normal c = IfOk-from_err _ _ c.from_residual.ensures.0

pub returns-in_err-append_value-clause-gives : goal.returns-in_err-append_value-clause-gives
returns-in_err-append_value-clause-gives c =
    let step = append_value c.args.conf.now.types c.args.t in
    let old = raws c.loop-raw.values in
    let fault = fault_of c.in_err-append_value.field-0.0 in
    let p = err_from_is_err_and c.from_residual.result c.from_residual.ensures.1 in
    rw (p.1, p.2) (ends step c.args.texts.now c.loop-raw.raw-index c.raw-item.result old fault _ c.loop-raw-test.true (subst (λ (raw : List ℕ). Fails fault (step old raw)) (c.as_slice.ensures ∙ c.raw-item.is) c.in_err-append_value.ensures.gives) c.loop-raw.invariant.rest)

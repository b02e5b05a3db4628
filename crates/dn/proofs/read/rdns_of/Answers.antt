use Rattle.std.proofs.Common.{ap}
use Rattle.std.proofs.lemmas.Result.{err_from_is_err_and}
use Rattle.std.specs.Option.{option_map}
use Rattle.dn.specs.Gives.{fault_of}
use Rattle.dn.specs.Reading.{rdn_of}
use Rattle.dn.specs.inner.Cuts.{is_comma}
use Rattle.dn.proofs.Steps.{names}
use Rattle.dn.proofs.Loop.{names_begin, names_go_on, names_end_at, names_done, less_is_left_behind}
use Rattle.dn.proofs.read.rdns_of.Goals as goal

pub loop-rest-init : goal.loop-rest-init
loop-rest-init c = names_begin c.args.text.now c.new-name.result c.new-name.ensures

pub returns-in_err-push_rdn : goal.returns-in_err-push_rdn
returns-in_err-push_rdn c =
    let p = err_from_is_err_and c.from_residual.result c.from_residual.ensures.1 in
    let so_far = rw c.in-Some.is at c.loop-rest.invariant in
    rw (p.1, p.2) (names_end_at c.loop-rest.name c.in-Some.text.now (names c.args.text.now) so_far (fault_of c.in_err-push_rdn.field-0.0) c.in_err-push_rdn.ensures.err)

pub loop-rest-smaller : goal.loop-rest-smaller
loop-rest-smaller c =
    let pushed = c.in_ok-push_rdn.ensures.ok in
    less_is_left_behind is_comma rdn_of c.in-Some.text.now pushed.0 c.in_ok-push_rdn.field-0.now (option_map (λ s. s.now) c.after_first-rest.result) (option_map (λ s. s.now) c.loop-rest.rest) pushed.1 c.after_first-rest.ensures
    (ap (option_map (λ s. s.now)) c.in-Some.is)

pub loop-rest-preserved : goal.loop-rest-preserved
loop-rest-preserved c =
    let pushed = c.in_ok-push_rdn.ensures.ok in
    let so_far = rw c.in-Some.is at c.loop-rest.invariant in
    names_go_on c.loop-rest.name c.in-Some.text.now (names c.args.text.now) so_far pushed.0 c.in_ok-push_rdn.field-0.now c.push_rdn.new.name (option_map (λ s. s.now) c.after_first-rest.result) pushed.1 pushed.2 c.after_first-rest.ensures

pub returns : goal.returns
returns c = names_done c.loop-rest.name (option_map (λ s. s.now) c.loop-rest.rest) (names c.args.text.now) c.loop-rest.invariant (ap (option_map (λ s. s.now)) c.in_default.is)

use Rattle.std.proofs.Common.{sym, subst, ◌∙◌}
use Rattle.std.proofs.lemmas.Result.{IfOk-from_err}
use Rattle.schema.specs.Rdns.{TypedRdn}
use Rattle.schema.specs.GoodRdns.{IsRdn}
use Rattle.schema.specs.inner.Keys.{rdns_down}
use Rattle.schema.proofs.OwnRdns.{own_good, place_is}
use Rattle.schema.proofs.WaysOut.{gives_nothing}
use Rattle.schema.proofs.conf.Conf.locate.Goals as goal

pub returns-clause-place : goal.returns-clause-place
returns-clause-place c =
    place_is c.args.self.now c.args.text.now (rdns_down c.in_ok-place.place) c.in_ok-path.path c.in_ok-rdn.rdn c.in_ok-place.ensures.rdns
    (c.in_ok-path.ensures ∙ c.in_ok-place.ensures.keys) c.in_ok-rdn.ensures

pub returns-clause-good : goal.returns-clause-good
returns-clause-good c =
    let good = c.located_rdns_are_good.ensures c.args.self.now c.args.text.now (rdns_down c.in_ok-place.place) c.in_ok-place.ensures.rdns in
    subst (λ (r : TypedRdn). IsRdn c.args.self.now.types r) (sym c.in_ok-rdn.ensures) (own_good c.args.self.now c.rules_are_kept.ensures (rdns_down c.in_ok-place.place) good)

pub returns-in_err-place-clause-good : goal.returns-in_err-place-clause-good
returns-in_err-place-clause-good c = IfOk-from_err _ _ c.from_residual.ensures.0

pub returns-in_err-rdn-clause-place : goal.returns-in_err-rdn-clause-place
returns-in_err-rdn-clause-place c = gives_nothing _ c.from_residual-in_err-rdn.result _ c.from_residual-in_err-rdn.ensures.1

pub returns-in_err-rdn-clause-good : goal.returns-in_err-rdn-clause-good
returns-in_err-rdn-clause-good c = IfOk-from_err _ _ c.from_residual-in_err-rdn.ensures.0

pub returns-in_err-path-clause-place : goal.returns-in_err-path-clause-place
returns-in_err-path-clause-place c = gives_nothing _ c.from_residual-in_err-path.result _ c.from_residual-in_err-path.ensures.1

pub returns-in_err-path-clause-good : goal.returns-in_err-path-clause-good
returns-in_err-path-clause-good c = IfOk-from_err _ _ c.from_residual-in_err-path.ensures.0

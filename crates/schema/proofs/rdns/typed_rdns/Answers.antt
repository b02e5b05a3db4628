use Rattle.std.proofs.lemmas.Grind.{common_steps}
use Rattle.schema.proofs.WaysOut.{gives_nothing, handed_on}
use Rattle.std.proofs.lemmas.Result.{IfOk-from_err}
use Rattle.std.proofs.Common.{◌≡◌, ◌+◌, ◌++◌, [], ◌∷◌, List, drop, Result, sym, ap, subst, ◌∙◌, arith}
use Rattle.std.specs.List.{AllByRecursion}
use Rattle.base.specs.Answers.{◌>>=◌, Fails}
use Rattle.dn.specs.Names as names
use Rattle.schema.specs.declared.fault.PathFault.{PathFault}
use Rattle.schema.specs.declared.fault.PathFault.TheVariants as faults
use Rattle.schema.specs.Gives.{fault_of}
use Rattle.paths.proofs.Unpacked.{all_append}
use Rattle.schema.specs.declared.code.Code.{Code}
use Rattle.schema.specs.Rdns.{TypedRdn, typed_rdn, rdns_from}
use Rattle.schema.specs.inner.Keys.{AreKnown}
use Rattle.schema.proofs.Rest.{first_left, none_left}
use Rattle.schema.proofs.rdns.typed_rdns.Goals as goal

still_fails : (fault : PathFault) (said : Result TypedRdn Code) (step : TypedRdn → Result (List TypedRdn) Code) (total : Result (List TypedRdn) Code)
    → Fails (fault_of fault) said → (said >>= step) ≡ total → Fails (fault_of fault) total
still_fails faults.OutOfMemory said step total fails is = tt
still_fails (faults.Code code) said step total fails is = sym is ∙ ap (λ (r : Result TypedRdn Code). r >>= step) fails

pub loop-rdn-preserved : goal.loop-rdn-preserved
unfolding rdns_from
loop-rdn-preserved c =
    let types = c.args.types.now in
    let before = c.loop-rdn.rdns.items in
    let rest = drop (c.loop-rdn.rdn-index + 1) c.args.name.now in
    let cut = first_left c.args.name.now _ c.loop-rdn.rdn-index c.rdns-rdn-items.ensures.rdns c.rdn-item.result c.loop-rdn-test.true c.rdn-item.is in
    let gives = ap (typed_rdn types) (sym c.avas.ensures.avas) ∙ c.in_ok-typed_rdn.ensures.gives in (
      ap (λ (rs : List TypedRdn). rdns_from types rs rest) c.in_ok-push.ensures.items
          ∙ sym (ap (rdns_from types before) cut ∙ ap (λ (r : Result TypedRdn Code). r >>= λ t. rdns_from types (before ++ t ∷ []) rest) gives)
          ∙ c.loop-rdn.invariant.0,
      subst (AllByRecursion (AreKnown types)) (sym c.in_ok-push.ensures.items) (all_append _ before _ c.loop-rdn.invariant.1 (c.in_ok-typed_rdn.ensures.known, tt)),
    )

pub returns-clause-gives : goal.returns-clause-gives
unfolding rdns_from
returns-clause-gives c =
    sym c.loop-rdn.invariant.0 ∙ ap (rdns_from c.args.types.now c.loop-rdn.rdns.items) (none_left c.args.name.now _ c.loop-rdn.rdn-index c.rdns-rdn-items.ensures.rdns c.loop-rdn-test.false)

pub returns-in_err-typed_rdn-clause-known : goal.returns-in_err-typed_rdn-clause-known
returns-in_err-typed_rdn-clause-known c = IfOk-from_err _ _ c.from_residual-in_err-typed_rdn.ensures.0

pub returns-in_err-push-clause-known : goal.returns-in_err-push-clause-known
returns-in_err-push-clause-known c = IfOk-from_err _ _ c.from_residual-in_err-push.ensures.0

pub returns-in_err-rdns-clause-known : goal.returns-in_err-rdns-clause-known
returns-in_err-rdns-clause-known c = IfOk-from_err _ _ c.from_residual.ensures.0

pub returns-in_err-push-clause-gives : goal.returns-in_err-push-clause-gives
returns-in_err-push-clause-gives c = gives_nothing _ c.from_residual-in_err-push.result _ c.from_residual-in_err-push.ensures.1

pub returns-in_err-rdns-clause-gives : goal.returns-in_err-rdns-clause-gives
returns-in_err-rdns-clause-gives c = gives_nothing _ c.from_residual.result _ c.from_residual.ensures.1

pub loop-rdn-init : goal.loop-rdn-init
loop-rdn-init c = grind (arith, common_steps)

pub returns-in_err-typed_rdn-clause-gives : goal.returns-in_err-typed_rdn-clause-gives
unfolding rdns_from
returns-in_err-typed_rdn-clause-gives c =
    let types = c.args.types.now in
    let before = c.loop-rdn.rdns.items in
    let rest = drop (c.loop-rdn.rdn-index + 1) c.args.name.now in
    let cut = first_left c.args.name.now _ c.loop-rdn.rdn-index c.rdns-rdn-items.ensures.rdns c.rdn-item.result c.loop-rdn-test.true c.rdn-item.is in
    let step = λ (r : TypedRdn). rdns_from types (before ++ r ∷ []) rest in
    let so_far = sym (ap (rdns_from types before) cut ∙ ap (λ (r : names.Rdn). typed_rdn types r >>= step) (sym c.avas.ensures.avas))
    ∙ c.loop-rdn.invariant.0 in
    handed_on _ c.from_residual-in_err-typed_rdn.result _ _ c.from_residual-in_err-typed_rdn.ensures.1
    (still_fails c.in_err-typed_rdn.field-0.0 _ step _ c.in_err-typed_rdn.ensures.gives so_far)

use Rattle.std.proofs.Common.{ℕ, ◌<◌, ◌+◌, List, [], ◌∷◌, length, map, drop, sym, ap, subst, ◌∙◌, Bor}
use Rattle.std.proofs.lemmas.Result.{err_from_is_err_and, IfOk-from_err}
use Rattle.std.specs.List.{AllByRecursion}
use Rattle.base.specs.Answers.{each}
use Rattle.base.proofs.Each.{with_front, nothing_front, goes_on, ends, is_done}
use Rattle.paths.proofs.Unpacked.{all_append}
use Rattle.checks.specs.Gives.{unknown_in}
use Rattle.checks.specs.TypeNames.{type_named}
use Rattle.checks.proofs.type_names.each_named.Goals as goal

abbrev text : Bor (List ℕ) → List ℕ
text n = n.now

pub loop-name-init : goal.loop-name-init
loop-name-init c =
    let read = type_named c.args.conf.now.types in
    record {
      read = ap (λ (front : List ℕ). with_front front (each read (map text c.args.names.now))) c.in_ok-named.ensures.items ∙ nothing_front (each read (map text c.args.names.now));
      known = subst (AllByRecursion (λ t. t < length c.args.conf.now.types)) (sym c.in_ok-named.ensures.items) tt;
    }

pub loop-name-preserved : goal.loop-name-preserved
loop-name-preserved c =
    let read = type_named c.args.conf.now.types in
    record {
      read =
          ap (λ (front : List ℕ). with_front front (each read (map text (drop (c.loop-name.name-index + 1) c.args.names.now)))) c.in_ok-push.ensures.items
          ∙ goes_on read text c.args.names.now c.loop-name.name-index _ c.loop-name.named.items c.in_ok-type_named.field-0 (each read (map text c.args.names.now)) c.loop-name-test.true
          c.in_ok-type_named.ensures.gives c.loop-name.invariant.read;
      known =
          subst (AllByRecursion (λ t. t < length c.args.conf.now.types)) (sym c.in_ok-push.ensures.items)
          (all_append (λ t. t < length c.args.conf.now.types) c.loop-name.named.items (c.in_ok-type_named.field-0 ∷ []) c.loop-name.invariant.known (c.in_ok-type_named.ensures.known, tt));
    }

pub returns-in_err-type_named-clause-gives : goal.returns-in_err-type_named-clause-gives
returns-in_err-type_named-clause-gives c =
    let read = type_named c.args.conf.now.types in
    let p = err_from_is_err_and c.from_residual-in_err-type_named.result c.from_residual-in_err-type_named.ensures.1 in
    rw (p.1, p.2)
    (ends read text c.args.names.now c.loop-name.name-index _ (unknown_in c.in_err-type_named.field-0.0) c.loop-name.named.items (each read (map text c.args.names.now)) c.loop-name-test.true
    c.in_err-type_named.ensures.gives c.loop-name.invariant.read)

pub returns-clause-gives : goal.returns-clause-gives
returns-clause-gives c =
    let read = type_named c.args.conf.now.types in
    is_done read text c.args.names.now c.loop-name.name-index c.loop-name.named.items (each read (map text c.args.names.now)) c.loop-name-test.false c.loop-name.invariant.read

pub returns-in_err-type_named-clause-known : goal.returns-in_err-type_named-clause-known
returns-in_err-type_named-clause-known c = IfOk-from_err _ _ c.from_residual-in_err-type_named.ensures.0

pub returns-in_err-push-clause-known : goal.returns-in_err-push-clause-known
returns-in_err-push-clause-known c = IfOk-from_err _ _ c.from_residual-in_err-push.ensures.0

pub returns-in_err-named-clause-known : goal.returns-in_err-named-clause-known
returns-in_err-named-clause-known c = IfOk-from_err _ _ c.from_residual.ensures.0

use Rattle.std.proofs.Common.{◌≡◌, ℕ, ◌+◌, ◌<◌, ◌++◌, ◌∷◌, [], ◌∙◌, List, Option, Some, length, sym, ap, subst}
use Rattle.std.proofs.lemmas.Result.{IfOk-from_err}
use Rattle.std.specs.Prelude.{is_some}
use Rattle.std.specs.BTreeMap.{get, is_at}
use Rattle.std.specs.Cmp.Lexicographic.{slice_cmp}
use Rattle.std.specs.Map.{lookup}
use Rattle.std.specs.Option.{SomeIff}
use Rattle.std.specs.Ordering.{nat_cmp}
use Rattle.std.proofs.lemmas.List.{length-append}
use Rattle.values.specs.Values.{Value}
use Rattle.entries.specs.inner.ValuesDrafts.{left_from, AreLeft, KeepsPlaces}
use Rattle.entries.proofs.LeftFrom.{pushed_last, left_pushed, are_still_left}
use Rattle.entries.proofs.values_draft.push_last.Goals as goal

one_more : (o : Option ℕ) (place count : ℕ) (old new : List Value) (v : Value) → SomeIff o (place + 1 < 18446744073709551616) (place + 1) → o ≡ Some count → place ≡ length old → new ≡ old ++ v ∷ [] → count ≡ length new
one_more o place count old new v added is places put =
    (subst (λ (r : Option ℕ). SomeIff r (place + 1 < 18446744073709551616) (place + 1)) is added).1
    ∙ ap (λ n. n + 1) places ∙ sym (length-append old (v ∷ [])) ∙ ap length (sym put)

pub returns-clause-values : goal.returns-clause-values
returns-clause-values c =
    ap (left_from c.insert.new.self 0) c.in_ok-push.ensures.ok
    ∙ pushed_last c.args.places.now.since c.insert.new.self c.in_ok-key.key c.args.places.now.count c.in_ok-insert.ensures.updates.0 (sym c.contains_key.ensures ∙ c.if-contains_key.false)
    c.args.values.now c.args.value (sym (c.in_ok-key.ensures ∙ c.norm.ensures)) (sym c.requires.count)

pub returns-clause-places : goal.returns-clause-places
returns-clause-places c =
    let fresh = sym c.contains_key.ensures ∙ c.if-contains_key.false in
    let same_key = sym (c.in_ok-key.ensures ∙ c.norm.ensures) in
    record {
      left =
          subst (AreLeft c.insert.new.self) (sym c.in_ok-push.ensures.ok)
          (left_pushed c.args.places.now.since c.insert.new.self c.in_ok-key.key c.args.places.now.count c.in_ok-insert.ensures.updates.0 fresh c.args.values.now c.args.value same_key (sym c.requires.count) c.requires.left);
      count = one_more _ c.args.places.now.count c.in_ok-count.count c.args.values.now c.push.new.self c.args.value c.checked_add.ensures c.in_ok-count.ensures.ok_part c.requires.count c.in_ok-push.ensures.ok;
      all = λ t.
          ap (left_from c.insert.new.self 0) c.in_ok-push.ensures.ok
          ∙ pushed_last c.args.places.now.since c.insert.new.self c.in_ok-key.key c.args.places.now.count c.in_ok-insert.ensures.updates.0 fresh c.args.values.now c.args.value same_key (sym c.requires.count)
          ∙ ap (λ (vs : List Value). vs ++ c.args.value ∷ []) (c.requires.all t) ∙ sym c.in_ok-push.ensures.ok;
    }

pub returns-in_err-insert-clause-places : goal.returns-in_err-insert-clause-places
returns-in_err-insert-clause-places c = record {
  left =
      subst (AreLeft c.insert.new.self) (sym c.in_ok-push.ensures.ok)
      (are_still_left c.args.places.now.since c.insert.new.self (λ q. ap (lookup (is_at (slice_cmp nat_cmp q))) c.in_err-insert.ensures.err) c.args.value
      (ap (λ (q : List ℕ). is_some (get (slice_cmp nat_cmp) c.args.places.now.since q)) (sym (c.in_ok-key.ensures ∙ c.norm.ensures)) ∙ sym c.contains_key.ensures ∙ c.if-contains_key.false) c.args.values.now c.requires.left);
  count = one_more _ c.args.places.now.count c.in_ok-count.count c.args.values.now c.push.new.self c.args.value c.checked_add.ensures c.in_ok-count.ensures.ok_part c.requires.count c.in_ok-push.ensures.ok;
  all = λ never. absurd cc;
}

pub returns-in_err-push-clause-places : goal.returns-in_err-push-clause-places
returns-in_err-push-clause-places c = subst (KeepsPlaces c.args.places.now) (sym c.in_err-push.ensures.err) c.requires

pub returns-in_err-insert-clause-is_new : goal.returns-in_err-insert-clause-is_new
returns-in_err-insert-clause-is_new c = IfOk-from_err _ _ c.from_residual-in_err-insert.ensures.0

pub returns-in_err-insert-clause-values : goal.returns-in_err-insert-clause-values
returns-in_err-insert-clause-values c = IfOk-from_err _ _ c.from_residual-in_err-insert.ensures.0

pub returns-in_err-push-clause-is_new : goal.returns-in_err-push-clause-is_new
returns-in_err-push-clause-is_new c = IfOk-from_err _ _ c.from_residual-in_err-push.ensures.0

pub returns-in_err-push-clause-values : goal.returns-in_err-push-clause-values
returns-in_err-push-clause-values c = IfOk-from_err _ _ c.from_residual-in_err-push.ensures.0

pub returns-in_err-key-clause-is_new : goal.returns-in_err-key-clause-is_new
returns-in_err-key-clause-is_new c = IfOk-from_err _ _ c.from_residual-in_err-key.ensures.0

pub returns-in_err-key-clause-values : goal.returns-in_err-key-clause-values
returns-in_err-key-clause-values c = IfOk-from_err _ _ c.from_residual-in_err-key.ensures.0

pub returns-in_err-count-clause-is_new : goal.returns-in_err-count-clause-is_new
returns-in_err-count-clause-is_new c = IfOk-from_err _ _ c.from_residual.ensures.0

pub returns-in_err-count-clause-values : goal.returns-in_err-count-clause-values
returns-in_err-count-clause-values c = IfOk-from_err _ _ c.from_residual.ensures.0

use Rattle.std.proofs.Common.{List, ℕ, Ok, length, sym, ap, ◌∙◌, arith}
use Rattle.std.proofs.lemmas.Result.{err_from_is_err_and}
use Rattle.ldif.specs.Gives.{fault_of}
use Rattle.base.specs.Answers.{each}
use Rattle.ldif.specs.Reading.{value_under}
use Rattle.base.proofs.Each.{with_front, nothing_front, on_cons, ends_cons, done_nil}
use Rattle.ldif.proofs.modify.values_under.Goals as goal

pub walk-init : goal.walk-init
walk-init c = record {
  read = ap (λ (front : List (List ℕ)). with_front front (each (value_under c.args.attr.now) c.args.lines)) c.in_ok-values.ensures.items ∙ nothing_front _;
  room = omega (arith, c.in_ok-values.ensures.len, c.in_ok-values.ensures.capacity, c.len.ensures);
}

pub walk-preserved : goal.walk-preserved
walk-preserved c = record {
  read =
      ap (λ (front : List (List ℕ)). with_front front (each (value_under c.args.attr.now) c.in-Some.after)) c.push_reserved.ensures.items
      ∙ on_cons (value_under c.args.attr.now) c.walk.rest c.in-Some.line.now c.in-Some.after c.walk.values.items c.in_ok-value_under.field-0 _ c.in-Some.ensures c.in_ok-value_under.ensures c.walk.invariant.read;
  room = omega (arith, c.walk.invariant.room, c.push_reserved.ensures.len, c.push_reserved.ensures.capacity, ap length c.in-Some.ensures);
}

pub returns-in_err-value_under : goal.returns-in_err-value_under
returns-in_err-value_under c =
    let p = err_from_is_err_and c.from_residual-in_err-value_under.result c.from_residual-in_err-value_under.ensures.1 in
    rw (p.1, p.2) (ends_cons (value_under c.args.attr.now) c.walk.rest c.in-Some.line.now c.in-Some.after (fault_of c.in_err-value_under.field-0.0) c.walk.values.items _ c.in-Some.ensures c.in_err-value_under.ensures c.walk.invariant.read)

pub returns : goal.returns
returns c = done_nil (value_under c.args.attr.now) c.walk.rest c.walk.values.items _ c.in_default.ensures c.walk.invariant.read ∙ ap (λ (xs : List (List ℕ)). Ok xs) (sym c.from_vec.ensures)

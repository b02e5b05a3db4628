use Rattle.std.proofs.Common.{List, Ok, length, sym, ap, ◌∙◌, arith}
use Rattle.std.proofs.lemmas.Result.{err_from_is_err_and}
use Rattle.ldif.specs.Gives.{fault_of}
use Rattle.base.specs.Answers.{each}
use Rattle.ldif.specs.Attrs.{Attr}
use Rattle.ldif.specs.Reading.{attr_line}
use Rattle.base.proofs.Each.{with_front, nothing_front, on_cons, ends_cons, done_nil}
use Rattle.ldif.proofs.attributes.attr_lines.Goals as goal

pub walk-init : goal.walk-init
walk-init c = record {
  read = ap (λ (front : List Attr). with_front front (each (attr_line c.args.content) c.args.lines)) c.in_ok-attrs.ensures.items ∙ nothing_front _;
  room = omega (arith, c.in_ok-attrs.ensures.len, c.in_ok-attrs.ensures.capacity, c.len.ensures);
}

pub walk-preserved : goal.walk-preserved
walk-preserved c = record {
  read =
      ap (λ (front : List Attr). with_front front (each (attr_line c.args.content) c.in-Some.after)) c.push_reserved.ensures.items
      ∙ on_cons (attr_line c.args.content) c.walk.rest c.in-Some.line.now c.in-Some.after c.walk.attrs.items c.in_ok-attr_line.field-0 _ c.in-Some.ensures c.in_ok-attr_line.ensures c.walk.invariant.read;
  room = omega (arith, c.walk.invariant.room, c.push_reserved.ensures.len, c.push_reserved.ensures.capacity, ap length c.in-Some.ensures);
}

pub returns-in_err-attr_line : goal.returns-in_err-attr_line
returns-in_err-attr_line c =
    let p = err_from_is_err_and c.from_residual-in_err-attr_line.result c.from_residual-in_err-attr_line.ensures.1 in
    rw (p.1, p.2) (ends_cons (attr_line c.args.content) c.walk.rest c.in-Some.line.now c.in-Some.after (fault_of c.in_err-attr_line.field-0.0) c.walk.attrs.items _ c.in-Some.ensures c.in_err-attr_line.ensures c.walk.invariant.read)

pub returns : goal.returns
returns c = done_nil (attr_line c.args.content) c.walk.rest c.walk.attrs.items _ c.in_default.ensures c.walk.invariant.read ∙ ap (λ (xs : List Attr). Ok xs) (sym c.from_vec.ensures)

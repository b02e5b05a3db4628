use Rattle.std.proofs.Common.{not, eqb, length}
use Rattle.std.proofs.lemmas.Bool.{and_parts}
use Rattle.std.proofs.lemmas.Result.{err_from_is_err_and, IfOk-from_err}
use Rattle.std.specs.List.{list_all}
use Rattle.dn.specs.Gives.{fault_of}
use Rattle.dn.specs.Names.{is_ava}
use Rattle.dn.specs.Reading.{ava_of}
use Rattle.dn.specs.inner.Cuts.{avas_behind, avas_on}
use Rattle.dn.specs.NameFaults.{is_separator}
use Rattle.dn.proofs.Loop.{onto_is, avas_go_on, avas_end_at, avas_done, rdn_push, less_is_left, no_plus}
use Rattle.dn.proofs.read.push_avas.Goals as goal

pub loop-more-init : goal.loop-more-init
loop-more-init c = record { same = onto_is c.args.avas.now.items (avas_behind c.args.text.now); good = c.requires.good }

pub returns-in_err-ava-clause-ok : goal.returns-in_err-ava-clause-ok
returns-in_err-ava-clause-ok c = IfOk-from_err _ _ c.from_residual.ensures.0

pub returns-in_err-ava-clause-err : goal.returns-in_err-ava-clause-err
returns-in_err-ava-clause-err c =
    let p = err_from_is_err_and c.from_residual.result c.from_residual.ensures.1 in
    rw (p.1, p.2) (avas_end_at c.loop-more.avas.items c.loop-more.rest.now (avas_on c.args.avas.now.items c.args.text.now) c.loop-more.invariant.same c.in-Some.more.now c.in-Some.ensures.some (fault_of c.in_err-ava.field-0.0) c.in_err-ava.ensures.exact)

pub loop-more-smaller : goal.loop-more-smaller
loop-more-smaller c = less_is_left is_separator ava_of c.in-Some.more.now c.in_ok-ava.ava 43 c.in_ok-ava.behind.now c.loop-more.rest.now c.in_ok-ava.ensures.exact c.in-Some.ensures.some

pub loop-more-preserved : goal.loop-more-preserved
loop-more-preserved c =
    let front = c.loop-more.avas.items in
    record {
      same = avas_go_on front c.loop-more.rest.now (avas_on c.args.avas.now.items c.args.text.now) c.loop-more.invariant.same c.in-Some.more.now c.in-Some.ensures.some c.in_ok-ava.ava c.in_ok-ava.behind.now c.push.new.self.items c.in_ok-ava.ensures.exact c.in_ok-push.ensures.items;
      good =
          let all = (and_parts (not (eqb (length front) 0)) (list_all is_ava front) c.loop-more.invariant.good).1 in
          rdn_push front c.in_ok-ava.ava c.push.new.self.items c.in_ok-push.ensures.items all c.in_ok-ava.ensures.good;
    }

pub returns-clause-ok : goal.returns-clause-ok
returns-clause-ok c = avas_done c.loop-more.avas.items c.loop-more.rest.now (avas_on c.args.avas.now.items c.args.text.now) c.loop-more.invariant.same (no_plus c.loop-more.rest.now c.in_default.ensures.none)

use Rattle.std.proofs.Common.{◌-◌, ◌≤◌, length, drop, arith}
use Rattle.std.proofs.lemmas.List.{length-take, length-drop}
use Rattle.device.proofs.Taken.{took_more, take_next}
use Rattle.device.proofs.sink.push_all.Goals as goal

pub pushes-preserved : goal.pushes-preserved
pushes-preserved g c =
    let bs = c.args.bytes.now in
    let at = c.pushes.at in
    let n = c.in_ok-at.field-0 in
    let le : n ≤ length bs - at = omega (arith, c.in_ok-at.ensures.bound, length-take (length bs - at) (drop at bs), length-drop at bs) in
    record {
      within = omega (arith, le, c.pushes-test.true);
      took = took_more (g.W.Sink.written c.args.sink.now) (g.W.Sink.written c.pushes.sink) (g.W.Sink.written c.push.new.self) _ _ _ c.pushes.invariant.took c.in_ok-at.ensures.took (take_next bs at n (length bs - at) le);
    }

use Rattle.std.proofs.Common.{◌≡◌, ◌-◌, ◌+◌, ◌<◌, true, sym, ◌∙◌, rules, arith, slice_index}
use Rattle.sentences.specs.Cuts.{goes_on}
use Rattle.sentences.proofs.Cut.{near_down}
use Rattle.sentences.proofs.shown.front.Goals as goal

pub loop-passed-preserved : goal.loop-passed-preserved
loop-passed-preserved c =
    let more : 4 - (c.loop-passed._passed + 1) ≡ 4 - c.loop-passed._passed - 1 = omega arith in
    let some : 0 < 4 - c.loop-passed._passed = omega arith in
    let on : goes_on (slice_index c.args.bytes.now c.loop-passed.place) ≡ true = search rules in
    record {
      bounded = omega arith;
      same = rw (more, c.saturating_sub-place.ensures) (sym (near_down (4 - c.loop-passed._passed) c.loop-passed.place c.args.bytes.now c.args.most some on) ∙ c.loop-passed.invariant.same);
    }

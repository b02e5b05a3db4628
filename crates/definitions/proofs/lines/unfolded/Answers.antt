use Rattle.std.proofs.Common.{[], ◌+◌, length, refl}
use Rattle.std.specs.Prelude.{◌==◌}
use Rattle.definitions.proofs.Glued.{goes_on, is_done}
use Rattle.definitions.proofs.lines.unfolded.Goals as goal

pub loop-i-preserved : goal.loop-i-preserved
loop-i-preserved c =
    goes_on (λ x. x.now) c.args.stretches.now c.loop-i.i c.loop-i.lines.items _ c.loop-i.invariant (record { ref_ptr = (0, 0); now = [] }) c.add_line.new.lines.items c.line_of-text.result.now (c.loop-i.i + 1 == length c.args.stretches.now)
    c.loop-i-test.true refl c.line_of-text.ensures c.in_ok-add_line.ensures

pub returns : goal.returns
returns c = is_done (λ x. x.now) c.args.stretches.now c.loop-i.i c.loop-i.lines.items _ c.loop-i.invariant c.loop-i-test.false

use Rattle.std.proofs.Common.{inl, inr, sym, arith}
use Rattle.paths.specs.Packed.{unpack}
use Rattle.paths.proofs.PackedPaths.{parent_cut}
use Rattle.paths.proofs.path.parent_len.Goals as goal

pub returns-else-bytes-end-ne-STEP_END-clause-cut : goal.returns-else-bytes-end-ne-STEP_END-clause-cut
returns-else-bytes-end-ne-STEP_END-clause-cut c =
    parent_cut c.args.bytes.now (unpack c.args.bytes.now) c.loop-end.end (sym c.requires) c.loop-end.invariant.bound c.loop-end.invariant.none (inr c.if-bytes-end-ne-STEP_END.false)

pub returns-after-loop-end-clause-cut : goal.returns-after-loop-end-clause-cut
returns-after-loop-end-clause-cut c =
    parent_cut c.args.bytes.now (unpack c.args.bytes.now) c.loop-end.end (sym c.requires) c.loop-end.invariant.bound c.loop-end.invariant.none (inl (omega arith))

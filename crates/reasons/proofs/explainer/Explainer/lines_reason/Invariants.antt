use Rattle.std.proofs.Common.{take, drop}
use Rattle.reasons.specs.Flaws.{HasFlaw, line_checks}
use Rattle.reasons.specs.inner.Found.{Leaves}
use Rattle.reasons.specs.inner.Lines.{AreSeen}
use Rattle.reasons.proofs.explainer.Explainer.lines_reason.Given as goal

abbrev pub invariant-loop-index : goal.invariant-loop-index
invariant-loop-index l = record {
  seen : AreSeen l.self.conf.now.types (take l.index l.lines) l.seen;
  left : Leaves (HasFlaw l.self.conf.now l.self.mode l.self.tree.now.entries l.self.asked.now) (line_checks 0 l.lines) (line_checks l.index (drop l.index l.lines));
}

use Rattle.std.proofs.Common.{◌≡◌, false}
use Rattle.filter.specs.Truths.{and_of, or_of, is_false, is_true}
use Rattle.filter.specs.Prepared.{filter_test, prepared_view}
use Rattle.filter.proofs.Truths.{lesser, greater}
use Rattle.filter.proofs.PreparedOperands.{from_operand}
use Rattle.filter.proofs.prepared_filter.PreparedFilter.+truth_of.Given as goal

abbrev pub decreases-truth_of : goal.decreases-truth_of
decreases-truth_of l = goal.size-truth_of l

abbrev pub invariant-loop-operand : goal.invariant-loop-operand
invariant-loop-operand l =
    record {
      open_yet : is_false l.least ≡ false;
      left : filter_test l.entry.attrs (prepared_view l.self) ≡ lesser l.least (and_of (from_operand l.entry.attrs l.operand-items l.operand-index));
    }

abbrev pub invariant-loop-operand-2 : goal.invariant-loop-operand-2
invariant-loop-operand-2 l =
    record {
      open_yet : is_true l.greatest ≡ false;
      left : filter_test l.entry.attrs (prepared_view l.self) ≡ greater l.greatest (or_of (from_operand l.entry.attrs l.operand-items l.operand-index));
    }

use Rattle.std.proofs.Common.{◌≡◌, ◌≤◌, ◌+◌, drop}
use Rattle.filter_text.specs.inner.Depth.{deep_from}
use Rattle.filter_text.proofs.depth.deep_from.Given as goal

abbrev pub invariant-loop-place : goal.invariant-loop-place
invariant-loop-place l =
    record {
      opened : l.opened ≤ l.place + 1;
      closed : l.closed ≤ l.place;
      left : deep_from 512 0 l.before 0 l.text ≡ deep_from 512 l.place l.opened l.closed (drop l.place l.text);
    }

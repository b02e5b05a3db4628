use Rattle.std.proofs.Common.{◌≡◌, ◌<◌, ℕ, length}
use Rattle.schema.specs.inner.Settled.{settled_at, IsSettled}
use Rattle.schema.proofs.settled.settle.Given as goal

abbrev pub invariant-loop-c : goal.invariant-loop-c
invariant-loop-c l = record {
  sized : length l.settled.items ≡ l.c;
  each : (c : ℕ) → c < l.c → IsSettled l.classes c (settled_at l.settled.items c);
}

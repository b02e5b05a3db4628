use Rattle.std.proofs.Common.{◌≡◌, false, take}
use Rattle.std.specs.List.{list_any}
use Rattle.reasons.specs.inner.Lines.{has_norm_of}
use Rattle.reasons.proofs.seen_lines.place_in.Given as goal

abbrev pub invariant-loop-place : goal.invariant-loop-place
invariant-loop-place l = list_any (has_norm_of l.t l.norm) (take l.place l.values) ≡ false

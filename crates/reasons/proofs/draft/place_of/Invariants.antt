use Rattle.std.proofs.Common.{◌≡◌, false, take}
use Rattle.reasons.specs.inner.Drafts.{has_place}
use Rattle.reasons.proofs.draft.place_of.Given as goal

abbrev pub invariant-loop-place : goal.invariant-loop-place
invariant-loop-place l = has_place l.t (take l.place l.attrs) ≡ false

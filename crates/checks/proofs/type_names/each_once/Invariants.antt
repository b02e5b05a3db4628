use Rattle.std.proofs.Common.{◌≡◌, drop}
use Rattle.std.specs.Prelude.{fold}
use Rattle.checks.specs.TypeNames.{put_once, each_once}
use Rattle.checks.proofs.type_names.each_once.Given as goal

abbrev pub invariant-loop-t : goal.invariant-loop-t
invariant-loop-t l = fold put_once l.once.items (drop l.t-index l.types) ≡ each_once l.fn.types

use Rattle.std.proofs.Common.{◌≡◌, ◌&&◌, drop}
use Rattle.std.specs.List.{list_all}
use Rattle.ldif.specs.Writing.{is_safe_byte}
use Rattle.ldif.proofs.write.are_safe.Given as goal

abbrev pub invariant-loop-b : goal.invariant-loop-b
invariant-loop-b l = (l.safe && list_all is_safe_byte (drop l.b-index l.value)) ≡ list_all is_safe_byte l.value

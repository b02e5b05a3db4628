use Rattle.std.proofs.Common.{◌≡◌, ◌++◌, drop}
use Rattle.std.specs.List.{flat_map}
use Rattle.checks.specs.Reports.{name_byte}
use Rattle.checks.proofs.file_names.shown_name.Given as goal

abbrev pub invariant-loop-byte : goal.invariant-loop-byte
invariant-loop-byte l = l.shown.items ++ flat_map name_byte (drop l.byte-index l.name) ≡ flat_map name_byte l.fn.name

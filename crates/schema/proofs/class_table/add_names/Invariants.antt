use Rattle.std.proofs.Common.{◌≡◌, ◌++◌, map, take}
use Rattle.values.specs.Tables.{named}
use Rattle.schema.proofs.class_table.add_names.Given as goal

abbrev pub invariant-loop-name : goal.invariant-loop-name
invariant-loop-name l = l.numbers ≡ l.initial.numbers ++ map (named l.number) (take l.name-index l.names)

use Rattle.std.proofs.Common.{◌≡◌, drop}
use Rattle.base.specs.Answers.{each}
use Rattle.base.proofs.Each.{with_front}
use Rattle.dir_conf.specs.NamesInLines.{type_named}
use Rattle.dir_conf.proofs.class_lines.types_named.Given as goal

abbrev pub invariant-loop-name : goal.invariant-loop-name
invariant-loop-name l = with_front l.numbers.items (each (type_named l.types l.line) (drop l.name-index l.names)) ≡ each (type_named l.types l.line) l.names

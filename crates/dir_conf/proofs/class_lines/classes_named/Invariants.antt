use Rattle.std.proofs.Common.{◌≡◌, drop}
use Rattle.base.specs.Answers.{each}
use Rattle.base.proofs.Each.{with_front}
use Rattle.dir_conf.specs.Configurations.{class_named}
use Rattle.dir_conf.proofs.class_lines.classes_named.Given as goal

abbrev pub invariant-loop-name : goal.invariant-loop-name
invariant-loop-name l = with_front l.numbers.items (each (class_named l.classes l.line) (drop l.name-index l.names)) ≡ each (class_named l.classes l.line) l.names

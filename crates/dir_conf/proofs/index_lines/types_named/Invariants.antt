use Rattle.std.proofs.Common.{◌≡◌, ◌<◌, length, map, drop}
use Rattle.std.specs.List.{AllByRecursion}
use Rattle.base.specs.Answers.{each}
use Rattle.base.proofs.Each.{with_front}
use Rattle.dir_conf.specs.NamesInLines.{type_named}
use Rattle.dir_conf.proofs.index_lines.types_named.Given as goal

abbrev pub invariant-loop-name : goal.invariant-loop-name
invariant-loop-name l = record {
  read : with_front l.named.items (each (type_named l.types l.line) (map (λ n. n.now) (drop l.name-index l.names))) ≡ each (type_named l.types l.line) (map (λ n. n.now) l.names);
  known : AllByRecursion (λ t. t < length l.types) l.named.items;
}

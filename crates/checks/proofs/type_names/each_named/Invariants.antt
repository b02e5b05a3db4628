use Rattle.std.proofs.Common.{◌≡◌, ◌<◌, length, map, drop}
use Rattle.std.specs.List.{AllByRecursion}
use Rattle.base.specs.Answers.{each}
use Rattle.base.proofs.Each.{with_front}
use Rattle.checks.specs.TypeNames.{type_named}
use Rattle.checks.proofs.type_names.each_named.Given as goal

abbrev pub invariant-loop-name : goal.invariant-loop-name
invariant-loop-name l = record {
  read : with_front l.named.items (each (type_named l.conf.types) (map (λ n. n.now) (drop l.name-index l.names))) ≡ each (type_named l.conf.types) (map (λ n. n.now) l.names);
  known : AllByRecursion (λ t. t < length l.conf.types) l.named.items;
}

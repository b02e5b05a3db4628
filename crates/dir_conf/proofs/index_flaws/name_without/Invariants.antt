use Rattle.std.proofs.Common.{◌≡◌, map, drop}
use Rattle.std.specs.List.{find}
use Rattle.values.specs.Types.{type_of}
use Rattle.dir_conf.specs.FaultyLines.{lacks}
use Rattle.dir_conf.proofs.index_flaws.name_without.Given as goal

abbrev pub invariant-loop-name : goal.invariant-loop-name
invariant-loop-name l =
    find (λ n. lacks l.types l.kind (type_of l.types n)) (map (λ n. n.now) (drop l.name-index l.names)) ≡ find (λ n. lacks l.types l.kind (type_of l.types n)) (map (λ n. n.now) l.names)

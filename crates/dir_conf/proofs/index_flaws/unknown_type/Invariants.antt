use Rattle.std.proofs.Common.{◌≡◌, map, drop}
use Rattle.dir_conf.specs.Configurations.{is_type}
use Rattle.dir_conf.specs.inner.FoundFlaws.{missing}
use Rattle.dir_conf.proofs.index_flaws.unknown_type.Given as goal

abbrev pub invariant-loop-name : goal.invariant-loop-name
invariant-loop-name l = missing (is_type l.types) (map (λ n. n.now) (drop l.name-index l.names)) ≡ missing (is_type l.types) (map (λ n. n.now) l.names)

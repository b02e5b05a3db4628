use Rattle.std.proofs.Common.{◌≡◌, drop}
use Rattle.dir_conf.specs.inner.FoundFlaws.{twin}
use Rattle.dir_conf.proofs.type_flaws.twin.Given as goal

abbrev pub invariant-loop-name : goal.invariant-loop-name
invariant-loop-name l = record {
  rest : l.rest ≡ drop l.name-index l.names;
  left : twin (drop l.name-index l.names) ≡ twin l.names;
}

use Rattle.std.proofs.Common.{◌≡◌, map, drop}
use Rattle.dir_conf.specs.FaultyLines.{is_some_kind}
use Rattle.dir_conf.specs.inner.FoundFlaws.{missing}
use Rattle.dir_conf.proofs.index_flaws.unknown_kind.Given as goal

abbrev pub invariant-loop-word : goal.invariant-loop-word
invariant-loop-word l = missing is_some_kind (map (λ w. w.now) (drop l.word-index l.words)) ≡ missing is_some_kind (map (λ w. w.now) l.words)

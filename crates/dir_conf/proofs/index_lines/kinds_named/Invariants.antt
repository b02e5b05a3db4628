use Rattle.std.proofs.Common.{◌≡◌, map, drop}
use Rattle.base.specs.Answers.{each}
use Rattle.base.proofs.Each.{with_front}
use Rattle.dir_conf.specs.IndexLines.{kind_named}
use Rattle.dir_conf.proofs.index_lines.kinds_named.Given as goal

abbrev pub invariant-loop-word : goal.invariant-loop-word
invariant-loop-word l = with_front l.kinds.items (each (kind_named l.line) (map (λ w. w.now) (drop l.word-index l.words))) ≡ each (kind_named l.line) (map (λ w. w.now) l.words)

use Rattle.std.proofs.Common.{◌≡◌, drop, map}
use Rattle.std.specs.List.{list_any}
use Rattle.databases.specs.Selections.{asks_for}
use Rattle.databases.proofs.selection.is_any_asking.Given as goal

abbrev pub invariant-loop-word : goal.invariant-loop-word
invariant-loop-word l = list_any (asks_for l.conf.types l.t) (map (λ w. w.now) (drop l.word-index l.words)) ≡ list_any (asks_for l.conf.types l.t) (map (λ w. w.now) l.words)

use Rattle.std.proofs.Common.{◌≡◌, ◌+◌, count_by}
use Rattle.paths.specs.Paths.{is_below}
use Rattle.sentences.specs.Missing.{count_below}
use Rattle.sentences.proofs.record_words.Refused.count_below.Given as goal

abbrev pub invariant-loop-found : goal.invariant-loop-found
invariant-loop-found l = l.below + count_by (λ e. is_below l.path e.0) l.found-iterator ≡ count_below l.self.tree.now.entries l.path

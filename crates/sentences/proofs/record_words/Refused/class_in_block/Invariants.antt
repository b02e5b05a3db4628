use Rattle.std.proofs.Common.{◌≡◌, ◌&&◌, not, drop}
use Rattle.std.specs.List.{list_any}
use Rattle.sentences.specs.ClassWords.{names_no_class, takes_away}
use Rattle.sentences.proofs.Firsts.{first_by}
use Rattle.sentences.proofs.record_words.Refused.class_in_block.Given as goal

abbrev pub invariant-loop-value : goal.invariant-loop-value
invariant-loop-value l =
    first_by (λ v. names_no_class l.self.conf.now l.block.attr v && not (list_any (takes_away l.self.conf.now v) l.later)) (drop l.value-index l.values)
    ≡ first_by (λ v. names_no_class l.self.conf.now l.block.attr v && not (list_any (takes_away l.self.conf.now v) l.later)) l.values

use Rattle.std.proofs.Common.{◌≡◌, drop}
use Rattle.sentences.specs.ClassWords.{names_no_class}
use Rattle.sentences.proofs.Firsts.{first_by}
use Rattle.sentences.proofs.record_words.Refused.class_in_lines.Given as goal

abbrev pub invariant-loop-line : goal.invariant-loop-line
invariant-loop-line l =
    first_by (λ line. names_no_class l.self.conf.now line.name line.value) (drop l.line-index l.lines)
    ≡ first_by (λ line. names_no_class l.self.conf.now line.name line.value) l.lines

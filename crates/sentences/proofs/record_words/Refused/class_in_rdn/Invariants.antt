use Rattle.std.proofs.Common.{◌≡◌, drop}
use Rattle.sentences.specs.ClassWords.{names_no_class}
use Rattle.sentences.proofs.Firsts.{first_by}
use Rattle.sentences.proofs.record_words.Refused.class_in_rdn.Given as goal

abbrev pub invariant-loop-ava : goal.invariant-loop-ava
invariant-loop-ava l =
    first_by (λ p. names_no_class l.self.conf.now p.0 p.1) (drop l.ava-index l.avas) ≡ first_by (λ p. names_no_class l.self.conf.now p.0 p.1) l.avas

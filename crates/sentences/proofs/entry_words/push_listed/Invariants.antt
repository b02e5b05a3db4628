use Rattle.std.proofs.Common.{◌≡◌, ◌++◌, take, map}
use Rattle.std.specs.String.{string_bytes}
use Rattle.sentences.specs.ClassWords.{listed}
use Rattle.sentences.specs.PartWords.{type_words}
use Rattle.sentences.proofs.entry_words.push_listed.Given as goal

abbrev pub invariant-loop-place : goal.invariant-loop-place
invariant-loop-place l = string_bytes l.words.text ≡ string_bytes l.initial.words.text ++ listed (map (type_words l.conf) (take l.place l.types))

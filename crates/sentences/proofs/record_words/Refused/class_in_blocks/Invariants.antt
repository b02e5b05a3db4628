use Rattle.std.proofs.Common.{◌≡◌, drop}
use Rattle.std.specs.List.{slice_get}
use Rattle.sentences.specs.ClassWords.{blocks_classes}
use Rattle.sentences.proofs.record_words.Refused.class_in_blocks.Given as goal

abbrev pub invariant-loop-place : goal.invariant-loop-place
invariant-loop-place l =
    slice_get (blocks_classes l.self.conf.now (drop l.place l.blocks)) 0 ≡ slice_get (blocks_classes l.self.conf.now l.blocks) 0

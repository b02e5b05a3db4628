use Rattle.std.proofs.Common.{◌≡◌, ◌&&◌, drop}
use Rattle.std.specs.List.{list_all}
use Rattle.sentences.specs.Shown.{is_plain}
use Rattle.sentences.proofs.shown.are_plain.Given as goal

abbrev pub invariant-loop-byte : goal.invariant-loop-byte
invariant-loop-byte l = (l.plain && list_all (is_plain l.form) (drop l.byte-index l.bytes)) ≡ list_all (is_plain l.form) l.bytes

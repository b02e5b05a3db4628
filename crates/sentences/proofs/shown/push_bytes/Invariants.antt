use Rattle.std.proofs.Common.{◌≡◌, ◌++◌, map, drop}
use Rattle.std.specs.String.{string_bytes}
use Rattle.sentences.specs.Cuts.{fitting}
use Rattle.sentences.specs.Shown.{shown_byte}
use Rattle.sentences.proofs.shown.push_bytes.Given as goal

abbrev pub invariant-loop-byte : goal.invariant-loop-byte
invariant-loop-byte l =
    string_bytes l.out.text ++ fitting l.room (map (shown_byte l.form) (drop l.byte-index l.bytes)) l.end
    ≡ string_bytes l.initial.out.text ++ fitting l.most (map (shown_byte l.form) l.bytes) l.end

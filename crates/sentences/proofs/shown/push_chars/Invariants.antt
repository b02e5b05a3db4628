use Rattle.std.proofs.Common.{◌≡◌, ◌++◌, map, drop, length}
use Rattle.std.specs.Str.{chars}
use Rattle.std.specs.String.{string_bytes}
use Rattle.sentences.specs.Cuts.{fitting}
use Rattle.sentences.specs.Shown.{shown_char}
use Rattle.sentences.proofs.shown.push_chars.Given as goal

abbrev pub invariant-loop-c : goal.invariant-loop-c
invariant-loop-c l =
    string_bytes l.out.text ++ fitting l.room (map (shown_char l.form) (drop (length l.yielded) (chars l.text))) l.end
    ≡ string_bytes l.initial.out.text ++ fitting l.most (map (shown_char l.form) (chars l.text)) l.end

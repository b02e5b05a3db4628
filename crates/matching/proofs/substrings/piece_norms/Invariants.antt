use Rattle.std.proofs.Common.{◌≡◌, ◌++◌, ◌||◌, drop, map}
use Rattle.std.specs.Prelude.{nat_lt}
use Rattle.matching.specs.Substrings.{piece_norms}
use Rattle.matching.proofs.substrings.piece_norms.Given as goal

abbrev pub invariant-loop-i : goal.invariant-loop-i
invariant-loop-i l =
    l.pieces.items ++ piece_norms l.family (l.front || nat_lt 0 l.i) l.back (map (λ text. text.now) (drop l.i l.texts))
    ≡ piece_norms l.family l.front l.back (map (λ text. text.now) l.texts)

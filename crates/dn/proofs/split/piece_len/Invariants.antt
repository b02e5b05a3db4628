use Rattle.std.proofs.Common.{◌≡◌, ◌++◌, false, take, drop}
use Rattle.dn.specs.inner.Cuts.{piece, behind}
use Rattle.dn.specs.NameFaults.{is_separator}
use Rattle.dn.proofs.split.piece_len.Given as goal

abbrev pub invariant-loop-i : goal.invariant-loop-i
invariant-loop-i l = record {
  piece : piece is_separator false l.text ≡ take l.i l.text ++ piece is_separator l.escaped (drop l.i l.text);
  behind : behind is_separator false l.text ≡ behind is_separator l.escaped (drop l.i l.text);
}

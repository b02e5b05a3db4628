use Rattle.std.proofs.Common.{◌≡◌, ◌++◌, length}
use Rattle.ldif_lines.specs.Folding.{folded_line, folded_to}
use Rattle.base.specs.Extends.{Extends}
use Rattle.ldif.proofs.write.put_folded.Given as goal

abbrev pub invariant-pieces : goal.invariant-pieces
invariant-pieces l = record {
  put : l.out.items ++ folded_to l.fn.width 0 l.rest ≡ l.fn.out.items ++ folded_line l.fn.width l.text;
  kept : Extends l.fn.out.items l.out.items;
}

abbrev pub decreases-pieces : goal.decreases-pieces
decreases-pieces l = length l.rest

use Rattle.std.proofs.Common.{◌≡◌, true, length}
use Rattle.dn.specs.Names.{is_rdn}
use Rattle.dn.specs.inner.Cuts.{avas_behind, avas_on}
use Rattle.base.proofs.Each.{onto}
use Rattle.dn.proofs.read.push_avas.Given as goal

abbrev pub invariant-loop-more : goal.invariant-loop-more
invariant-loop-more l = record {
  same : onto l.avas.items (avas_behind l.rest) ≡ avas_on l.fn.avas.items l.text;
  good : is_rdn l.avas.items ≡ true;
}

abbrev pub decreases-loop-more : goal.decreases-loop-more
decreases-loop-more l = length l.rest

use Rattle.std.proofs.Common.{◌≡◌, ◌≤◌, drop, length}
use Rattle.dn.specs.Reading.{Plain, octets_from, value_from}
use Rattle.dn.specs.inner.Drafts.{IsInRange}
use Rattle.dn.specs.inner.Octets.{state_seen}
use Rattle.dn.proofs.Drafts.{finished}
use Rattle.dn.proofs.value.put_octets.Given as goal

abbrev pub invariant-loop-byte : goal.invariant-loop-byte
invariant-loop-byte l = record {
  same : finished l.draft.bytes.items l.draft.kept (octets_from (state_seen l.state) (drop l.byte-index l.text)) ≡ value_from (octets_from Plain l.text);
  within : l.draft.kept ≤ length l.draft.bytes.items;
  in_range : IsInRange (state_seen l.state);
}

use Rattle.std.proofs.Common.{◌≡◌, drop}
use Rattle.std.specs.List.{AllByRecursion}
use Rattle.schema.specs.GoodRdns.{IsAva}
use Rattle.entries.specs.StoredEntries.{attributes_of}
use Rattle.entries.specs.Modifies.{has_rdn}
use Rattle.entries.proofs.rdn_values.has_rdn.Given as goal

abbrev pub invariant-loop-ava : goal.invariant-loop-ava
invariant-loop-ava l = record {
  left : AllByRecursion (IsAva l.conf.types) (drop l.ava-index l.ava-items);
  rest : has_rdn l.conf.types (drop l.ava-index l.ava-items) (attributes_of l.attrs.entries) ≡ has_rdn l.conf.types l.rdn (attributes_of l.attrs.entries);
}

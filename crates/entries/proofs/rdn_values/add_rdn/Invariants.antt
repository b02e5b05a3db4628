use Rattle.std.proofs.Common.{◌≡◌, drop, take}
use Rattle.std.specs.List.{AllByRecursion}
use Rattle.schema.specs.GoodRdns.{IsAva}
use Rattle.entries.specs.Entries.{with_rdn}
use Rattle.entries.specs.StoredEntries.{attributes_of, IsMade}
use Rattle.entries.proofs.rdn_values.add_rdn.Given as goal

abbrev pub invariant-loop-ava : goal.invariant-loop-ava
invariant-loop-ava l = record {
  made : IsMade l.conf.types l.attrs.entries;
  left : AllByRecursion (IsAva l.conf.types) (drop l.ava-index l.ava-items);
  rest : with_rdn l.conf.types (drop l.ava-index l.ava-items) (attributes_of l.attrs.entries) ≡ with_rdn l.conf.types l.rdn (attributes_of l.fn.attrs.entries);
  begun : attributes_of l.attrs.entries ≡ with_rdn l.conf.types (take l.ava-index l.ava-items) (attributes_of l.fn.attrs.entries);
}

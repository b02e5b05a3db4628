use Rattle.std.proofs.Common.{◌≡◌, drop}
use Rattle.std.specs.List.{AllByRecursion}
use Rattle.schema.specs.GoodRdns.{IsAva}
use Rattle.entries.specs.Modifies.{without_rdn}
use Rattle.entries.specs.StoredEntries.{attributes_of, IsMade}
use Rattle.entries.proofs.renames.remove_rdn.Given as goal

abbrev pub invariant-loop-ava : goal.invariant-loop-ava
invariant-loop-ava l = record {
  made : IsMade l.conf.types l.attrs.entries;
  left : AllByRecursion (IsAva l.conf.types) (drop l.ava-index l.ava-items);
  rest : without_rdn l.conf.types l.new (drop l.ava-index l.ava-items) (attributes_of l.attrs.entries) ≡ without_rdn l.conf.types l.new l.old (attributes_of l.fn.attrs.entries);
}

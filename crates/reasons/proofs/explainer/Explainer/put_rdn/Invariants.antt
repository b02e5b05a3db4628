use Rattle.std.proofs.Common.{◌≡◌, drop}
use Rattle.std.specs.List.{AllByRecursion}
use Rattle.schema.specs.GoodRdns.{IsAva}
use Rattle.entries.specs.Entries.{with_rdn}
use Rattle.entries.specs.StoredEntries.{attributes_of, IsMade}
use Rattle.reasons.proofs.explainer.Explainer.put_rdn.Given as goal

abbrev pub invariant-loop-ava : goal.invariant-loop-ava
invariant-loop-ava l = record {
  made : IsMade l.self.conf.now.types l.attrs.items;
  left : AllByRecursion (IsAva l.self.conf.now.types) (drop l.ava-index l.ava-items);
  rest : with_rdn l.self.conf.now.types (drop l.ava-index l.ava-items) (attributes_of l.attrs.items) ≡ with_rdn l.self.conf.now.types l.rdn (attributes_of l.fn.attrs.items);
}

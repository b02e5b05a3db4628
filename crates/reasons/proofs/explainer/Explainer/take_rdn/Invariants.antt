use Rattle.std.proofs.Common.{◌≡◌, drop}
use Rattle.std.specs.List.{AllByRecursion}
use Rattle.schema.specs.GoodRdns.{IsAva}
use Rattle.entries.specs.Modifies.{without_rdn}
use Rattle.entries.specs.StoredEntries.{attributes_of, IsMade}
use Rattle.reasons.proofs.explainer.Explainer.take_rdn.Given as goal

abbrev pub invariant-loop-ava : goal.invariant-loop-ava
invariant-loop-ava l = record {
  made : IsMade l.self.conf.now.types l.attrs.items;
  left : AllByRecursion (IsAva l.self.conf.now.types) (drop l.ava-index l.ava-items);
  rest : without_rdn l.self.conf.now.types l.new (drop l.ava-index l.ava-items) (attributes_of l.attrs.items) ≡ without_rdn l.self.conf.now.types l.new l.old (attributes_of l.fn.attrs.items);
}

use Rattle.std.proofs.Common.{Option, [], map, drop, sym, subst}
use Rattle.std.specs.Borrow.{Bor}
use Rattle.entries.specs.StoredEntries.{Entry}
use Rattle.index_keys.specs.EntryKeys.{gives_key}
use Rattle.index.specs.KeyChanges.{content_in}
use Rattle.index.specs.inner.KeyLists.{AreKeys}
use Rattle.index.specs.inner.SlotTests.{norms_in}
use Rattle.index.proofs.Distinct.{no_keys}
use Rattle.index.proofs.Fronts.{none_behind}
use Rattle.index.proofs.distinct_keys.keys_behind.Goals as goal

pub returns-in-None : goal.returns-in-None
returns-in-None c =
    subst (λ (o : Option (Bor Entry)). AreKeys (gives_key c.args.slot.now.kind (drop c.args.front (norms_in c.args.conf.now.types (content_in o) c.args.slot.now.type_id))) (map (λ k. k.now) c.new.result.items)) (sym c.in-None.is)
    (no_keys (λ k. k.now) (gives_key c.args.slot.now.kind (drop c.args.front [])) (none_behind c.args.slot.now.kind c.args.front) c.new.result.items c.new.ensures.items)

use Rattle.std.proofs.Common.{◌&&◌, Option, [], map, sym, subst, ap}
use Rattle.std.specs.List.{list_any}
use Rattle.std.specs.Str.{bytes_eq}
use Rattle.std.specs.Borrow.{Bor}
use Rattle.entries.specs.StoredEntries.{Entry}
use Rattle.index_keys.specs.EntryKeys.{gives_key}
use Rattle.index.specs.KeyChanges.{content_in}
use Rattle.index.specs.inner.KeyLists.{AreKeys}
use Rattle.index.specs.inner.SlotTests.{norms_in}
use Rattle.index.proofs.Distinct.{no_keys}
use Rattle.index.proofs.Fronts.{gives_none}
use Rattle.index.proofs.distinct_keys.keys_among.Goals as goal

pub returns-in-None : goal.returns-in-None
returns-in-None c =
    subst (λ (o : Option (Bor Entry)). AreKeys (λ q. gives_key c.args.slot.now.kind (norms_in c.args.conf.now.types (content_in o) c.args.slot.now.type_id) q && list_any (λ k. bytes_eq k.now q) c.args.others.now) (map (λ k. k.now) c.new.result.items)) (sym c.in-None.is)
    (no_keys (λ k. k.now) (λ q. gives_key c.args.slot.now.kind [] q && list_any (λ k. bytes_eq k.now q) c.args.others.now) (λ q. ap (λ b. b && list_any (λ k. bytes_eq k.now q) c.args.others.now) (gives_none c.args.slot.now.kind q)) c.new.result.items c.new.ensures.items)

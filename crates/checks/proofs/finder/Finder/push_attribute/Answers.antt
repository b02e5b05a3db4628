use Rattle.std.proofs.Common.{sym, ◌∙◌}
use Rattle.entries.specs.StoredEntries.{raws}
use Rattle.checks.specs.EntryValues.{attribute_values}
use Rattle.checks.specs.References.{is_dangling, is_looked_at, names_no_entry}
use Rattle.checks.proofs.Kept.{none_put, none_kept}
use Rattle.checks.proofs.finder.Finder.push_attribute.Goals as goal

pub returns-then-not-is_looked_at : goal.returns-then-not-is_looked_at
returns-then-not-is_looked_at c =
    let self = c.args.self.now in
    let conf = self.conf.now in
    let d = self.tree.now.entries in
    let p = c.args.path.now in
    let vs = raws c.args.values.now in
    none_put (is_dangling conf d self.named.now) c.args.found.now.items (attribute_values p (c.args.t, vs))
    (none_kept (is_looked_at conf.types self.named.now) (names_no_entry conf d) p c.args.t (sym c.is_looked_at.ensures ∙ c.if-not-is_looked_at.true) vs)

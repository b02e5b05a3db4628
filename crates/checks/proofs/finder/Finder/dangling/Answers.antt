use Rattle.std.proofs.Common.{◌++◌, List, filter, sym, ap, subst, ◌∙◌}
use Rattle.std.specs.List.{flat_map, AllByRecursion}
use Rattle.paths.specs.Paths.{Path}
use Rattle.schema.specs.Conf.{Conf}
use Rattle.entries.specs.Entries.{EntryContent}
use Rattle.entries.specs.StoredEntries.{Entry, IsMade}
use Rattle.tree.specs.Trees.{seen_entries}
use Rattle.checks.specs.declared.entry_value.EntryValue.{EntryValue}
use Rattle.checks.specs.EntryValues.{entry_values}
use Rattle.checks.specs.References.{is_dangling}
use Rattle.checks.proofs.Kept.{all_seen}
use Rattle.checks.proofs.finder.Finder.dangling.Goals as goal

pub loop-path-init : goal.loop-path-init
loop-path-init c =
    let self = c.args.self.now in
    let conf : Conf = self.conf.now in
    let d = self.tree.now.entries in
    let kept : List (Path × EntryContent) → List EntryValue = λ es. filter (is_dangling conf d self.named.now) (flat_map entry_values es) in
    let items : List (Path × Entry) = c.range-path-items.result in
    let gives = c.into_iter-path-iterator.ensures.into_iter_gives in
    record {
      made = subst (AllByRecursion (λ (e : Path × Entry). IsMade conf.types e.1.attrs)) (sym gives)
          (subst (λ (k : Conf). AllByRecursion (λ (e : Path × Entry). IsMade k.types e.1.attrs) items) self.same_conf c.range-path-items.ensures.made);
      so_far =
          ap (λ (xs : List EntryValue). xs ++ kept (seen_entries c.into_iter-path-iterator.result)) c.new-found.ensures.items
          ∙ ap (λ (es : List (Path × Entry)). kept (seen_entries es)) gives
          ∙ ap kept (all_seen d items c.root-root.result c.root-root.ensures c.range-path-items.ensures.entries);
    }

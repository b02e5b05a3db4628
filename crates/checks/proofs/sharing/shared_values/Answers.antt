use Rattle.std.proofs.Common.{◌++◌, List, sym, ap, subst, ◌∙◌}
use Rattle.std.specs.List.{flat_map, AllByRecursion}
use Rattle.std.specs.Option.{option_copied}
use Rattle.std.specs.FinMap as finite
use Rattle.paths.specs.Paths.{Path}
use Rattle.entries.specs.Entries.{EntryContent}
use Rattle.entries.specs.StoredEntries.{Entry, IsMade}
use Rattle.tree.specs.Trees.{seen_entries}
use Rattle.checks.specs.declared.shared_value.SharedValue.{SharedValue}
use Rattle.checks.specs.Sharing.{shared_at}
use Rattle.checks.proofs.Kept.{all_seen}
use Rattle.checks.proofs.Sharings.{entry_told, entry_untold, none_shared}
use Rattle.checks.proofs.sharing.shared_values.Goals as goal

pub returns-then-not-some_share : goal.returns-then-not-some_share
returns-then-not-some_share c =
    let tree = c.args.tree.now in
    let known = c.in_ok-holders.ensures in
    c.new-found.ensures.items
    ∙ sym (none_shared tree.conf.types (finite.entries tree.entries) c.args.t c.in_ok-holders.holders known (sym c.some_share.ensures ∙ c.if-not-some_share.true) (finite.entries tree.entries))

pub loop-path-init : goal.loop-path-init
loop-path-init c =
    let types = c.args.tree.now.conf.types in
    let d = c.args.tree.now.entries in
    let told : List (Path × EntryContent) → List SharedValue = λ es. flat_map (shared_at types (finite.entries d) c.args.t) es in
    let items : List (Path × Entry) = c.range-path-items.result in
    let gives = c.into_iter-path-iterator.ensures.into_iter_gives in
    record {
      made = subst (AllByRecursion (λ (e : Path × Entry). IsMade types e.1.attrs)) (sym gives) c.range-path-items.ensures.made;
      so_far =
          ap (λ (xs : List SharedValue). xs ++ told (seen_entries c.into_iter-path-iterator.result)) c.new-found.ensures.items
          ∙ ap (λ (es : List (Path × Entry)). told (seen_entries es)) gives
          ∙ ap told (all_seen d items c.root-root.result c.root-root.ensures c.range-path-items.ensures.entries);
    }

pub loop-path-preserved-in-Continue-branch-2 : goal.loop-path-preserved-in-Continue-branch-2
loop-path-preserved-in-Continue-branch-2 c =
    let types = c.args.tree.now.conf.types in
    let t = c.args.t in
    let steps = c.in-Some.ensures.steps in
    let made = subst (AllByRecursion (λ (e : Path × Entry). IsMade types e.1.attrs)) steps c.loop-path.invariant.made in
    record {
      made = made.1;
      so_far =
          entry_told types (finite.entries c.args.tree.now.entries) t c.in_ok-holders.holders c.in_ok-holders.ensures c.in-Some.path.now c.in-Some.entry.now c.loop-path.path-iterator c.next.new.self steps c.loop-path.found.items
          c.push_shared.new.found.items c.in-Some-values.values.now made.0 (ap option_copied (sym c.in-Some-values.is) ∙ c.values.ensures) c.in_ok-push_shared.ensures
          ∙ c.loop-path.invariant.so_far;
    }

pub loop-path-preserved : goal.loop-path-preserved
loop-path-preserved c =
    let types = c.args.tree.now.conf.types in
    let steps = c.in-Some.ensures.steps in
    record {
      made = (subst (AllByRecursion (λ (e : Path × Entry). IsMade types e.1.attrs)) steps c.loop-path.invariant.made).1;
      so_far =
          entry_untold types (finite.entries c.args.tree.now.entries) c.args.t c.in_ok-holders.holders c.in_ok-holders.ensures c.in-Some.path.now c.in-Some.entry.now c.loop-path.path-iterator c.next.new.self steps c.loop-path.found.items
          c.in_default.ensures
          ∙ c.loop-path.invariant.so_far;
    }

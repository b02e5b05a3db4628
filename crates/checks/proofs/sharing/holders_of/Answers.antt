use Rattle.std.proofs.Common.{◌++◌, List, ℕ, filter, map, sym, ap, subst, ◌∙◌}
use Rattle.std.specs.List.{AllByRecursion}
use Rattle.std.specs.Map.{lookup}
use Rattle.std.specs.Option.{option_copied}
use Rattle.std.specs.Ordering.{nat_cmp, is_eq}
use Rattle.std.specs.Cmp.Lexicographic.{slice_cmp}
use Rattle.paths.specs.Paths.{Path}
use Rattle.schema.specs.Values.{norm_at}
use Rattle.entries.specs.Entries.{EntryContent, IsAttribute}
use Rattle.entries.specs.StoredEntries.{Entry, IsMade, attributes_of}
use Rattle.checks.specs.Sharing.{path_of, has_value}
use Rattle.checks.specs.inner.Holders.{HoldersByNorm, paths_in}
use Rattle.checks.proofs.Kept.{all_seen}
use Rattle.checks.proofs.Holding.{held, all_attributes, lent_attributes, are_distinct, entry_held, entry_passed}
use Rattle.checks.proofs.sharing.holders_of.Goals as goal

pub loop-path-init : goal.loop-path-init
loop-path-init c =
    let conf = c.args.tree.now.conf in
    let d = c.args.tree.now.entries in
    let t = c.args.t in
    let items : List (Path × Entry) = c.range-path-items.result in
    let gives = c.into_iter-path-iterator.ensures.into_iter_gives in
    let seen = all_seen d items c.args.root.now c.requires c.range-path-items.ensures.entries in
    let m : HoldersByNorm = c.new-holders.result in
    record {
      made = subst (AllByRecursion (λ (e : Path × Entry). IsMade conf.types e.1.attrs)) (sym gives) c.range-path-items.ensures.made;
      good = subst (AllByRecursion (λ (e : Path × Entry). AllByRecursion (IsAttribute conf.types) (attributes_of e.1.attrs))) (sym gives)
          (lent_attributes conf.types items (subst (AllByRecursion (λ (e : Path × EntryContent). AllByRecursion (IsAttribute conf.types) e.1.attrs)) (sym seen) (all_attributes conf d c.entries_are_a_directory.ensures)));
      so_far = λ v.
          ap (λ (es : List (List ℕ × List Path)). paths_in (lookup (λ k. is_eq (slice_cmp nat_cmp (norm_at conf.types t v) k)) es) ++ held conf.types t v c.into_iter-path-iterator.result) c.new-holders.ensures.empty
          ∙ ap (held conf.types t v) gives
          ∙ ap (λ (es : List (Path × EntryContent)). map path_of (filter (has_value conf.types t v) es)) seen;
    }

pub add_holder_of_values-requires : goal.add_holder_of_values-requires
add_holder_of_values-requires c =
    let types = c.args.tree.now.conf.types in
    let made = subst (AllByRecursion (λ (e : Path × Entry). IsMade types e.1.attrs)) c.in-Some.ensures.steps c.loop-path.invariant.made in
    let good = subst (AllByRecursion (λ (e : Path × Entry). AllByRecursion (IsAttribute types) (attributes_of e.1.attrs))) c.in-Some.ensures.steps c.loop-path.invariant.good in
    are_distinct types c.args.t c.in-Some-values.values.now c.in-Some.entry.now.attrs made.0 good.0 (ap option_copied (sym c.in-Some-values.is) ∙ c.values.ensures)

pub loop-path-preserved-in-Continue-1 : goal.loop-path-preserved-in-Continue-1
loop-path-preserved-in-Continue-1 c =
    let types = c.args.tree.now.conf.types in
    let t = c.args.t in
    let all = c.loop-path.path-iterator in
    let rest = c.next.new.self in
    let p = c.in-Some.path.now in
    let e = c.in-Some.entry.now in
    let steps = c.in-Some.ensures.steps in
    let made = subst (AllByRecursion (λ (e : Path × Entry). IsMade types e.1.attrs)) steps c.loop-path.invariant.made in
    let good = subst (AllByRecursion (λ (e : Path × Entry). AllByRecursion (IsAttribute types) (attributes_of e.1.attrs))) steps c.loop-path.invariant.good in
    record {
      made = made.1;
      good = good.1;
      so_far = λ v. entry_held types t p e all rest steps made.0 c.loop-path.holders c.add_holder_of_values.new.holders c.in-Some-values.values.now (ap option_copied (sym c.in-Some-values.is) ∙ c.values.ensures) c.in_ok-add_holder_of_values.ensures v
          ∙ c.loop-path.invariant.so_far v;
    }

pub loop-path-preserved : goal.loop-path-preserved
loop-path-preserved c =
    let types = c.args.tree.now.conf.types in
    let steps = c.in-Some.ensures.steps in
    let made = subst (AllByRecursion (λ (e : Path × Entry). IsMade types e.1.attrs)) steps c.loop-path.invariant.made in
    let good = subst (AllByRecursion (λ (e : Path × Entry). AllByRecursion (IsAttribute types) (attributes_of e.1.attrs))) steps c.loop-path.invariant.good in
    record {
      made = made.1;
      good = good.1;
      so_far = λ v. entry_passed types c.args.t c.in-Some.path.now c.in-Some.entry.now c.loop-path.path-iterator c.next.new.self steps made.0 c.loop-path.holders c.in_default.ensures v
          ∙ c.loop-path.invariant.so_far v;
    }

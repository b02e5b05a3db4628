use Rattle.std.proofs.Common.{List, refl, sym, ap, subst, ◌∙◌}
use Rattle.std.specs.List.{AllByRecursion}
use Rattle.std.proofs.lemmas.Result.{err_from_is_err_and}
use Rattle.paths.specs.Paths.{Path}
use Rattle.schema.specs.Conf.{Conf}
use Rattle.entries.specs.Gives.{fault_of}
use Rattle.entries.specs.StoredEntries.{Entry, IsMade}
use Rattle.tree.specs.Trees.{seen_entries}
use Rattle.suffixes.specs.MovedDirectories.{Move, move_by, moved_directory}
use Rattle.suffixes.specs.inner.Walks.{IsThere}
use Rattle.suffixes.proofs.Walks.{walked, walked_there, begins_so, goes_on, stops, ends}
use Rattle.suffixes.proofs.directories.Mover.directory.Goals as goal

pub loop-found-init : goal.loop-found-init
loop-found-init g c =
    let self = c.args.self.now in
    let d = self.tree.now.entries in
    let m : Move = move_by self.values.conf.now self.new.now self.values.name.now d in
    let items : List (Path × Entry) = c.range-found-items.result in
    let root : Path = c.root-root.result in
    let gives = c.into_iter-found-iterator.ensures.into_iter_gives in
    record {
      names = c.new-names.ensures ∙ c.new-lent.ensures.tree;
      conf = c.new-out.ensures.same_conf;
      there = subst (AllByRecursion (IsThere d)) (sym gives) (walked_there d items root c.root-root.ensures c.range-found-items.ensures.entries);
      made = subst (AllByRecursion (λ (e : Path × Entry). IsMade self.values.conf.now.types e.1.attrs)) (sym gives)
          (subst (λ (k : Conf). AllByRecursion (λ (e : Path × Entry). IsMade k.types e.1.attrs) items) self.same_conf c.range-found-items.ensures.made);
      so_far = begins_so m (moved_directory m) c.new-out.result.entries c.into_iter-found-iterator.result c.new-out.ensures.empty
          (ap (λ (es : List (Path × Entry)). seen_entries es) gives ∙ walked d items root c.root-root.ensures c.range-found-items.ensures.entries) refl;
    }

pub loop-found-preserved : goal.loop-found-preserved
loop-found-preserved g c =
    let self = c.args.self.now in
    let d = self.tree.now.entries in
    let m : Move = move_by self.values.conf.now self.new.now self.values.name.now d in
    let found : Path × Entry = (c.in-Some.found.0.now, c.in-Some.found.1.now) in
    let left : List (Path × Entry) = c.next.new.self in
    let steps = c.in-Some.ensures.steps in
    record {
      names = c.in_ok-add_moved.ensures.names;
      conf = c.in_ok-add_moved.ensures.same_conf ∙ c.loop-found.invariant.conf;
      there = (subst (AllByRecursion (IsThere d)) steps c.loop-found.invariant.there).1;
      made = (subst (AllByRecursion (λ (e : Path × Entry). IsMade self.values.conf.now.types e.1.attrs)) steps c.loop-found.invariant.made).1;
      so_far = goes_on m (moved_directory m) c.loop-found.out.entries c.loop-found.found-iterator found left steps c.loop-found.invariant.so_far c.add_moved.new.out.entries c.in_ok-add_moved.ensures.gives;
    }

pub returns-in_err-add_moved-clause-gives : goal.returns-in_err-add_moved-clause-gives
returns-in_err-add_moved-clause-gives g c =
    let self = c.args.self.now in
    let m : Move = move_by self.values.conf.now self.new.now self.values.name.now self.tree.now.entries in
    let found : Path × Entry = (c.in-Some.found.0.now, c.in-Some.found.1.now) in
    let p = err_from_is_err_and c.from_residual.result c.from_residual.ensures.1 in
    rw (p.1, p.2) (stops m (moved_directory m) c.loop-found.out.entries c.loop-found.found-iterator found c.next.new.self c.in-Some.ensures.steps c.loop-found.invariant.so_far
    (fault_of c.in_err-add_moved.field-0.0) c.in_err-add_moved.ensures.gives)

pub returns-clause-gives : goal.returns-clause-gives
returns-clause-gives g c =
    let self = c.args.self.now in
    let m : Move = move_by self.values.conf.now self.new.now self.values.name.now self.tree.now.entries in
    ends m (moved_directory m) c.loop-found.out.entries c.loop-found.found-iterator c.in-None.ensures.steps.0 c.loop-found.invariant.so_far

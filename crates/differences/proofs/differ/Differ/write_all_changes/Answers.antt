use Rattle.std.proofs.Common.{◌≡◌, ◌++◌, [], ◌∷◌, List, ℕ, refl, sym, ap, ◌∙◌, subst}
use Rattle.std.specs.Prelude.{◌||◌, Ok}
use Rattle.std.specs.List.{AllByRecursion}
use Rattle.std.specs.FinMap as finite
use Rattle.std.proofs.lemmas.List.{append-nil}
use Rattle.std.proofs.lemmas.Result.{err_from_is_err_and}
use Rattle.ldif.specs.declared.record.Record.{Record}
use Rattle.ldif.specs.Written.{SoFar}
use Rattle.paths.specs.Paths.{Path}
use Rattle.schema.specs.Conf.{Conf}
use Rattle.entries.specs.StoredEntries.{Entry, IsMade}
use Rattle.tree.specs.Trees.{seen_entries}
use Rattle.databases.specs.inner.Dumps.{IsThere}
use Rattle.databases.proofs.Pieces as pieces
use Rattle.differences.specs.Differences.{Extent, is_some_change}
use Rattle.differences.specs.inner.Walks.{changes_text, extent_in, changes_in, all_changes_in, ahead_in}
use Rattle.differences.proofs.Walked.{all_seen, lent_there, ahead_is, text_next, text_end, some_so_far}
use Rattle.differences.proofs.differ.Differ.write_all_changes.Goals as goal

pub loop-found-init : goal.loop-found-init
loop-found-init g c =
    let conf = c.args.self.now.conf.now in
    let extent : Extent = extent_in c.args.self.now in
    let a = c.args.self.now.before.now.entries in
    let b = c.args.self.now.after.now.entries in
    let items : List (Path × Entry) = c.range-found-items.result in
    let gives = c.into_iter-found-iterator.ensures.into_iter_gives in
    let are : seen_entries items ≡ finite.entries b = all_seen b items c.root-root.result c.root-root.ensures c.range-found-items.ensures.entries in
    let whole : all_changes_in c.args.self.now c.into_iter-found-iterator.result ≡ ahead_in c.args.self.now = ap (all_changes_in c.args.self.now) gives ∙ sym (ahead_is conf extent a b items are) in
    record {
      failures = refl;
      names = c.new-names.ensures ∙ c.new-lent.ensures.tree;
      made = subst (AllByRecursion (λ (e : Path × Entry). IsMade conf.types e.1.attrs)) (sym gives) (subst (λ (k : Conf). AllByRecursion (λ (e : Path × Entry). IsMade k.types e.1.attrs) items) c.args.self.now.after_conf c.range-found-items.ensures.made);
      there = subst (AllByRecursion (IsThere b)) (sym gives) (lent_there b items c.root-root.result c.root-root.ensures c.range-found-items.ensures.entries);
      some = ap is_some_change whole;
      so_far = pieces.nothing_yet (g.W.Sink.written c.args.sink.now) (c.args.text.now.items ++ changes_text (ahead_in c.args.self.now)) _ (ap (λ (rs : List Record). c.args.text.now.items ++ changes_text rs) whole);
    }

pub loop-found-preserved : goal.loop-found-preserved
loop-found-preserved g c =
    let conf = c.args.self.now.conf.now in
    let extent : Extent = extent_in c.args.self.now in
    let a = c.args.self.now.before.now.entries in
    let b = c.args.self.now.after.now.entries in
    let left : List (Path × Entry) = c.next.new.self in
    let text : List ℕ = c.loop-found.text.items in
    let found : Path × Entry = (c.in-Some.found.0.now, c.in-Some.found.1.now) in
    let steps : c.loop-found.found-iterator ≡ found ∷ left = c.in-Some.ensures.steps in
    let rs : List Record = changes_in c.args.self.now found in
    let next = text_next conf extent a b text c.loop-found.found-iterator found left steps in
    record {
      failures = c.in_ok-some.ensures.writes.written.failed ∙ c.loop-found.invariant.failures;
      names = c.in_ok-some.ensures.names ∙ c.loop-found.invariant.names;
      made = (subst (AllByRecursion (λ (e : Path × Entry). IsMade conf.types e.1.attrs)) steps c.loop-found.invariant.made).1;
      there = (subst (AllByRecursion (IsThere b)) steps c.loop-found.invariant.there).1;
      some = some_so_far c.loop-found.some _ rs (all_changes_in c.args.self.now left) _ c.in_ok-some.ensures.some
          (ap (λ (es : List (Path × Entry)). c.loop-found.some || is_some_change (all_changes_in c.args.self.now es)) (sym steps) ∙ c.loop-found.invariant.some);
      so_far = pieces.goes_further (g.W.Sink.written c.args.sink.now) (g.W.Sink.written c.loop-found.sink) _
          (c.args.text.now.items ++ changes_text (ahead_in c.args.self.now)) (text ++ changes_text (all_changes_in c.args.self.now c.loop-found.found-iterator)) c.loop-found.invariant.so_far
          (text ++ changes_text rs) (changes_text (all_changes_in c.args.self.now left)) _ next c.in_ok-some.ensures.writes;
    }

pub returns-in_err-some-clause-writes : goal.returns-in_err-some-clause-writes
returns-in_err-some-clause-writes g c =
    let p = err_from_is_err_and c.from_residual.result c.from_residual.ensures.1 in
    let conf = c.args.self.now.conf.now in
    let extent : Extent = extent_in c.args.self.now in
    let a = c.args.self.now.before.now.entries in
    let b = c.args.self.now.after.now.entries in
    let left : List (Path × Entry) = c.next.new.self in
    let text : List ℕ = c.loop-found.text.items in
    let found : Path × Entry = (c.in-Some.found.0.now, c.in-Some.found.1.now) in
    let steps : c.loop-found.found-iterator ≡ found ∷ left = c.in-Some.ensures.steps in
    let rs : List Record = changes_in c.args.self.now found in
    let next = text_next conf extent a b text c.loop-found.found-iterator found left steps in
    rw (p.1, p.2) (pieces.stops (g.W.Sink.written c.args.sink.now) (g.W.Sink.written c.loop-found.sink) _
    (c.args.text.now.items ++ changes_text (ahead_in c.args.self.now)) (text ++ changes_text (all_changes_in c.args.self.now c.loop-found.found-iterator)) c.loop-found.invariant.so_far
    c.in_err-some.field-0.0 (text ++ changes_text rs) (changes_text (all_changes_in c.args.self.now left)) next c.in_err-some.ensures.writes)

pub returns-in_err-pass_on-clause-writes : goal.returns-in_err-pass_on-clause-writes
returns-in_err-pass_on-clause-writes g c =
    let p = err_from_is_err_and c.from_residual-in_err-pass_on.result c.from_residual-in_err-pass_on.ensures.1 in
    let conf = c.args.self.now.conf.now in
    let extent : Extent = extent_in c.args.self.now in
    let a = c.args.self.now.before.now.entries in
    let b = c.args.self.now.after.now.entries in
    let text : List ℕ = c.loop-found.text.items in
    let none = text_end conf extent a b text c.loop-found.found-iterator c.in-None.ensures.steps.0 in
    rw (p.1, p.2) (pieces.stops (g.W.Sink.written c.args.sink.now) (g.W.Sink.written c.loop-found.sink) _
    (c.args.text.now.items ++ changes_text (ahead_in c.args.self.now)) text
    (subst (SoFar (g.W.Sink.written c.args.sink.now) (g.W.Sink.written c.loop-found.sink) (c.args.text.now.items ++ changes_text (ahead_in c.args.self.now))) none c.loop-found.invariant.so_far)
    c.in_err-pass_on.field-0.0 text [] (sym (append-nil text)) c.in_err-pass_on.ensures.writes)

pub returns-clause-writes : goal.returns-clause-writes
returns-clause-writes g c =
    let conf = c.args.self.now.conf.now in
    let extent : Extent = extent_in c.args.self.now in
    let a = c.args.self.now.before.now.entries in
    let b = c.args.self.now.after.now.entries in
    let text : List ℕ = c.loop-found.text.items in
    let none = text_end conf extent a b text c.loop-found.found-iterator c.in-None.ensures.steps.0 in
    pieces.ends (g.W.Sink.written c.args.sink.now) (g.W.Sink.written c.loop-found.sink) (g.W.Sink.written c.pass_on.new.sink)
    (c.args.text.now.items ++ changes_text (ahead_in c.args.self.now)) text
    (subst (SoFar (g.W.Sink.written c.args.sink.now) (g.W.Sink.written c.loop-found.sink) (c.args.text.now.items ++ changes_text (ahead_in c.args.self.now))) none c.loop-found.invariant.so_far)
    (Ok tt) c.in_ok-pass_on.ensures.writes

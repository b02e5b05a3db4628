use Rattle.std.proofs.Common.{arith, ◌≡◌, ℕ, List, [], ◌++◌, filter, None, refl, sym, ap, ◌∙◌, subst, append_assoc}
use Rattle.std.proofs.lemmas.Grind.{common_steps}
use Rattle.std.specs.Prelude.{Result, Ok, Err, OnOk}
use Rattle.ldif.specs.declared.write.WriteFault.{WriteFault}
use Rattle.std.specs.FinMap as finite
use Rattle.std.specs.List.{AllByRecursion}
use Rattle.std.proofs.lemmas.List.{append-nil}
use Rattle.std.proofs.lemmas.Result.{err_from_is_err_and}
use Rattle.paths.specs.Paths.{Path, begins}
use Rattle.tree.specs.Directories.{IsDirectory}
use Rattle.entries.specs.StoredEntries.{Entry}
use Rattle.tree.specs.Trees.{Tree, seen_entries}
use Rattle.databases.specs.Runs.{dump_to}
use Rattle.ldif.specs.Written.{SoFar}
use Rattle.databases.specs.Selections.{Selection}
use Rattle.databases.specs.inner.Dumps.{IsThere, entry_text, entries_text}
use Rattle.databases.proofs.DumpText.{dump_is, all_in}
use Rattle.databases.proofs.Pieces as pieces
use Rattle.databases.proofs.dump.Printer.write_dump.Goals as goal

-- what was heard and what is to come are the whole
heard_on : (taken text m before entry left whole : List ℕ) → taken ++ text ≡ m ++ (before ++ entry) → m ++ ((before ++ entry) ++ left) ≡ whole → taken ++ (text ++ left) ≡ whole
heard_on taken text m before entry left whole is all =
    sym (append_assoc taken text left) ∙ ap (λ (bs : List ℕ). bs ++ left) is ∙ append_assoc m (before ++ entry) left ∙ all

-- whatever the answer is
on_ok : {P : Type 0} (answer : Result (Unit {0}) WriteFault) → P → OnOk answer P
on_ok (Ok u) so = so
on_ok (Err e) so = tt

pub loop-found-init : goal.loop-found-init
loop-found-init g c =
    let width = c.args.self.now.width in
    let d : Tree = c.args.self.now.tree.now in
    let items : List (Path × Entry) = c.range-found-items.result in
    let root : Path = c.root-root.result in
    let seen : seen_entries items ≡ filter (λ e. begins root e.0) (finite.entries d.entries) = c.range-found-items.ensures.entries in
    let is : IsDirectory d.conf d.entries = c.entries_are_a_directory.ensures in
    let whole : c.new-text.result.items ++ entries_text width d.conf d.entries None c.into_iter-found-iterator.result ≡ dump_to width d.conf d.entries =
    ap (λ (bs : List ℕ). bs ++ entries_text width d.conf d.entries None c.into_iter-found-iterator.result) c.new-text.ensures.items
    ∙ sym (dump_is width d.conf d.entries items root c.root-root.ensures seen ∙ ap (entries_text width d.conf d.entries None) (sym c.into_iter-found-iterator.ensures.into_iter_gives)) in
    record {
      failures = refl;
      names = c.names-names.ensures;
      there = subst (AllByRecursion (IsThere d.entries)) (sym c.into_iter-found-iterator.ensures.into_iter_gives) (all_in width d.conf d.entries items root c.root-root.ensures seen c.order_of_paths.ensures.total is);
      so_far = pieces.nothing_yet (g.W.Sink.written c.args.sink.now) (dump_to width d.conf d.entries) _ whole;
      heard = λ m h. (m, h, ap (λ (bs : List ℕ). m ++ bs) whole);
    }

pub loop-found-preserved : goal.loop-found-preserved
loop-found-preserved g c =
    let width = c.args.self.now.width in
    let d : Tree = c.args.self.now.tree.now in
    let left : List (Path × Entry) = c.next.new.self in
    let text : List ℕ = c.loop-found.text.items in
    let found : Path × Entry = (c.in-Some.found.0.now, c.in-Some.found.1.now) in
    let entry : List ℕ = entry_text width d.conf d.entries c.all.result found in
    let next : text ++ entries_text width d.conf d.entries None c.loop-found.found-iterator ≡ (text ++ entry) ++ entries_text width d.conf d.entries None left =
    ap (λ (es : List (Path × Entry)). text ++ entries_text width d.conf d.entries None es) c.in-Some.ensures.steps
    ∙ sym (append_assoc text (entry_text width d.conf d.entries None found) (entries_text width d.conf d.entries None left))
    ∙ ap (λ (s : Selection). (text ++ entry_text width d.conf d.entries s found) ++ entries_text width d.conf d.entries None left) (sym c.all.ensures) in
    record {
      failures = c.in_ok-write_entry.ensures.writes.written.failed ∙ c.loop-found.invariant.failures;
      names = c.in_ok-write_entry.ensures.names;
      there = (subst (AllByRecursion (IsThere d.entries)) c.in-Some.ensures.steps c.loop-found.invariant.there).1;
      so_far = pieces.goes_further (g.W.Sink.written c.args.sink.now) (g.W.Sink.written c.loop-found.sink) _
          (dump_to width d.conf d.entries) (text ++ entries_text width d.conf d.entries None c.loop-found.found-iterator) c.loop-found.invariant.so_far
          (text ++ entry) (entries_text width d.conf d.entries None left) _ next c.in_ok-write_entry.ensures.writes;
      heard = λ m h.
          let before = c.loop-found.invariant.heard m h in
          let after = c.in_ok-write_entry.ensures.heard before.0 before.1 in (
            after.0,
            after.1,
            heard_on after.0 _ before.0 text _ (entries_text width d.conf d.entries None left) _ after.2
                (ap (λ (bs : List ℕ). before.0 ++ bs) (sym next) ∙ before.2),
          );
    }

pub returns-in_err-write_entry-clause-writes : goal.returns-in_err-write_entry-clause-writes
returns-in_err-write_entry-clause-writes g c =
    let p = err_from_is_err_and c.from_residual.result c.from_residual.ensures.1 in
    let width = c.args.self.now.width in
    let d : Tree = c.args.self.now.tree.now in
    let left : List (Path × Entry) = c.next.new.self in
    let text : List ℕ = c.loop-found.text.items in
    let found : Path × Entry = (c.in-Some.found.0.now, c.in-Some.found.1.now) in
    let entry : List ℕ = entry_text width d.conf d.entries c.all.result found in
    let next : text ++ entries_text width d.conf d.entries None c.loop-found.found-iterator ≡ (text ++ entry) ++ entries_text width d.conf d.entries None left =
    ap (λ (es : List (Path × Entry)). text ++ entries_text width d.conf d.entries None es) c.in-Some.ensures.steps
    ∙ sym (append_assoc text (entry_text width d.conf d.entries None found) (entries_text width d.conf d.entries None left))
    ∙ ap (λ (s : Selection). (text ++ entry_text width d.conf d.entries s found) ++ entries_text width d.conf d.entries None left) (sym c.all.ensures) in
    rw (p.1, p.2) (pieces.stops (g.W.Sink.written c.args.sink.now) (g.W.Sink.written c.loop-found.sink) _
    (dump_to width d.conf d.entries) (text ++ entries_text width d.conf d.entries None c.loop-found.found-iterator) c.loop-found.invariant.so_far
    c.in_err-write_entry.field-0.0 (text ++ entry) (entries_text width d.conf d.entries None left) next c.in_err-write_entry.ensures.writes)

-- no entry is to come
none_left : (width : ℕ) (d : Tree) (text : List ℕ) (all : List (Path × Entry)) → all ≡ [] → text ++ entries_text width d.conf d.entries None all ≡ text
none_left width d text all steps = ap (λ (es : List (Path × Entry)). text ++ entries_text width d.conf d.entries None es) steps ∙ append-nil text

pub returns-clause-writes : goal.returns-clause-writes
returns-clause-writes g c =
    let width = c.args.self.now.width in
    let d : Tree = c.args.self.now.tree.now in
    let text : List ℕ = c.loop-found.text.items in
    pieces.ends (g.W.Sink.written c.args.sink.now) (g.W.Sink.written c.loop-found.sink) (g.W.Sink.written c.pass_on_heard.new.sink)
    (dump_to width d.conf d.entries) text (subst (SoFar (g.W.Sink.written c.args.sink.now) (g.W.Sink.written c.loop-found.sink) (dump_to width d.conf d.entries)) (none_left width d text c.loop-found.found-iterator c.in-None.ensures.steps.0) c.loop-found.invariant.so_far)
    c.pass_on_heard.result c.pass_on_heard.ensures.writes

pub returns-clause-heard : goal.returns-clause-heard
returns-clause-heard g c = on_ok c.pass_on_heard.result (λ m h.
    let width = c.args.self.now.width in
    let d : Tree = c.args.self.now.tree.now in
    let text : List ℕ = c.loop-found.text.items in
    let before = c.loop-found.invariant.heard m h in
    let whole = ap (λ (bs : List ℕ). before.0 ++ bs) (sym (none_left width d text c.loop-found.found-iterator c.in-None.ensures.steps.0)) ∙ before.2 in
    subst (g.L.Listener.heard c.pass_on_heard.new.listener) whole (c.pass_on_heard.ensures.heard before.0 before.1))

pub loop-found-preserved-in_ok-write_entry : goal.loop-found-preserved-in_ok-write_entry
loop-found-preserved-in_ok-write_entry g c = grind (arith, common_steps)

use Rattle.std.proofs.Common.{◌++◌, ◌+◌, List, ℕ, drop, map, reverse, ◌∙◌}
use Rattle.std.proofs.lemmas.Result.{err_from_is_err_and}
use Rattle.databases.proofs.Pieces as pieces
use Rattle.differences.specs.Comments.{change_text}
use Rattle.differences.specs.Differences.{removing}
use Rattle.differences.specs.inner.Walks.{changes_text, removals, lent_paths}
use Rattle.differences.proofs.Walked.{removal_next}
use Rattle.differences.proofs.differ.Differ.write_removals.Goals as goal

pub returns-in_err-write_removal : goal.returns-in_err-write_removal
returns-in_err-write_removal g c =
    let p = err_from_is_err_and c.from_residual.result c.from_residual.ensures.1 in
    let conf = c.args.self.now.conf.now in
    let a = c.args.self.now.before.now.entries in
    let ps = c.args.paths.now in
    let text : List ℕ = c.loop-i.text.items in
    let path = c.index-paths-paths.result in
    rw (p.1, p.2) (pieces.stops (g.W.Sink.written c.args.sink.now) (g.W.Sink.written c.loop-i.sink) _
    (c.args.text.now.items ++ changes_text (removals conf a (lent_paths ps))) (text ++ changes_text (map (removing conf a) (drop c.loop-i.i (reverse (lent_paths ps))))) c.loop-i.invariant.so_far
    c.in_err-write_removal.field-0.0 (text ++ change_text (removing conf a path.now)) (changes_text (map (removing conf a) (drop (c.loop-i.i + 1) (reverse (lent_paths ps)))))
    (removal_next conf a text ps c.loop-i.i path c.loop-i-test.true c.index-paths-paths.is) c.in_err-write_removal.ensures)

pub loop-i-preserved : goal.loop-i-preserved
loop-i-preserved g c =
    let conf = c.args.self.now.conf.now in
    let a = c.args.self.now.before.now.entries in
    let ps = c.args.paths.now in
    let text : List ℕ = c.loop-i.text.items in
    let path = c.index-paths-paths.result in
    record {
      failures = c.in_ok-write_removal.ensures.written.failed ∙ c.loop-i.invariant.failures;
      so_far = pieces.goes_further (g.W.Sink.written c.args.sink.now) (g.W.Sink.written c.loop-i.sink) _
          (c.args.text.now.items ++ changes_text (removals conf a (lent_paths ps))) (text ++ changes_text (map (removing conf a) (drop c.loop-i.i (reverse (lent_paths ps))))) c.loop-i.invariant.so_far
          (text ++ change_text (removing conf a path.now)) (changes_text (map (removing conf a) (drop (c.loop-i.i + 1) (reverse (lent_paths ps))))) _
          (removal_next conf a text ps c.loop-i.i path c.loop-i-test.true c.index-paths-paths.is) c.in_ok-write_removal.ensures;
    }

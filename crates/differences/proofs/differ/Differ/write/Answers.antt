use Rattle.std.proofs.Common.{◌≡◌, Bool, true, not, length, ◌++◌, [], List, ℕ, sym, ap, ◌∙◌, subst}
use Rattle.std.specs.Prelude.{Ok, ◌||◌, ◌==◌}
use Rattle.std.specs.Borrow.{Bor}
use Rattle.std.specs.List.{All}
use Rattle.std.specs.FinMap as finite
use Rattle.std.proofs.lemmas.List.{append-nil}
use Rattle.std.proofs.lemmas.Result.{err_from_is_err_and}
use Rattle.ldif.specs.Written.{SoFar}
use Rattle.paths.specs.Paths.{Path}
use Rattle.databases.proofs.Pieces as pieces
use Rattle.differences.specs.Differences.{Extent}
use Rattle.differences.specs.inner.Walks.{changes_text, extent_in, ahead_in, gone_in, written_in, removals, lent_paths}
use Rattle.differences.proofs.Walked.{wants_memory_end, paths_there, whole_is, differs_is}
use Rattle.differences.proofs.differ.Differ.write.Goals as goal

pub returns-in_err-gone-clause-writes : goal.returns-in_err-gone-clause-writes
returns-in_err-gone-clause-writes g c = wants_memory_end c.from_residual.result c.from_residual.ensures.1 (g.W.Sink.written c.args.sink.now) _

pub write_removals-requires-clause-there : goal.write_removals-requires-clause-there
write_removals-requires-clause-there g c =
    let a = c.args.self.now.before.now.entries in
    subst (All (λ (p : Bor Path). finite.contains_key a p.now ≡ true)) (sym c.as_slice.ensures.value) (paths_there (extent_in c.args.self.now) a c.args.self.now.after.now.entries c.in_ok-gone.gone.items c.in_ok-gone.ensures)

pub returns-in_err-write_removals-clause-writes : goal.returns-in_err-write_removals-clause-writes
returns-in_err-write_removals-clause-writes g c =
    let p = err_from_is_err_and c.from_residual-in_err-write_removals.result c.from_residual-in_err-write_removals.ensures.1 in
    let conf = c.args.self.now.conf.now in
    let extent : Extent = extent_in c.args.self.now in
    let a = c.args.self.now.before.now.entries in
    let b = c.args.self.now.after.now.entries in
    let gone : lent_paths c.as_slice.result.now ≡ gone_in c.args.self.now = ap lent_paths c.as_slice.ensures.value ∙ c.in_ok-gone.ensures in
    let ahead : List ℕ = changes_text (ahead_in c.args.self.now) in
    let first : List ℕ = c.new-text.result.items ++ changes_text (removals conf a (lent_paths c.as_slice.result.now)) in
    let whole = whole_is conf extent a b c.new-text.result.items c.as_slice.result.now c.new-text.ensures.items gone in
    let start = g.W.Sink.written c.args.sink.now in
    rw (p.1, p.2) (pieces.stops start start _ (written_in c.args.self.now) (written_in c.args.self.now) (pieces.begins start (written_in c.args.self.now))
    c.in_err-write_removals.field-0.0 first ahead whole c.in_err-write_removals.ensures)

pub returns-in_err-some-clause-writes : goal.returns-in_err-some-clause-writes
returns-in_err-some-clause-writes g c =
    let p = err_from_is_err_and c.from_residual-in_err-some.result c.from_residual-in_err-some.ensures.1 in
    let conf = c.args.self.now.conf.now in
    let extent : Extent = extent_in c.args.self.now in
    let a = c.args.self.now.before.now.entries in
    let b = c.args.self.now.after.now.entries in
    let gone : lent_paths c.as_slice.result.now ≡ gone_in c.args.self.now = ap lent_paths c.as_slice.ensures.value ∙ c.in_ok-gone.ensures in
    let ahead : List ℕ = changes_text (ahead_in c.args.self.now) in
    let first : List ℕ = c.new-text.result.items ++ changes_text (removals conf a (lent_paths c.as_slice.result.now)) in
    let whole = whole_is conf extent a b c.new-text.result.items c.as_slice.result.now c.new-text.ensures.items gone in
    let start = g.W.Sink.written c.args.sink.now in
    let mid = g.W.Sink.written c.write_removals.new.sink in
    let text : List ℕ = c.write_removals.new.text.items in
    let so_far : SoFar start mid (written_in c.args.self.now) (text ++ ahead) =
    pieces.goes_further start start mid (written_in c.args.self.now) (written_in c.args.self.now) (pieces.begins start (written_in c.args.self.now)) first ahead text whole c.in_ok-write_removals.ensures in
    rw (p.1, p.2) (pieces.stops start mid _ (written_in c.args.self.now) (text ++ ahead) so_far
    c.in_err-some.field-0.0 (text ++ ahead) [] (sym (append-nil (text ++ ahead))) c.in_err-some.ensures.writes)

pub returns-clause-writes : goal.returns-clause-writes
returns-clause-writes g c =
    let conf = c.args.self.now.conf.now in
    let extent : Extent = extent_in c.args.self.now in
    let a = c.args.self.now.before.now.entries in
    let b = c.args.self.now.after.now.entries in
    let gone : lent_paths c.as_slice.result.now ≡ gone_in c.args.self.now = ap lent_paths c.as_slice.ensures.value ∙ c.in_ok-gone.ensures in
    let ahead : List ℕ = changes_text (ahead_in c.args.self.now) in
    let first : List ℕ = c.new-text.result.items ++ changes_text (removals conf a (lent_paths c.as_slice.result.now)) in
    let whole = whole_is conf extent a b c.new-text.result.items c.as_slice.result.now c.new-text.ensures.items gone in
    let start = g.W.Sink.written c.args.sink.now in
    let mid = g.W.Sink.written c.write_removals.new.sink in
    let text : List ℕ = c.write_removals.new.text.items in
    let so_far : SoFar start mid (written_in c.args.self.now) (text ++ ahead) =
    pieces.goes_further start start mid (written_in c.args.self.now) (written_in c.args.self.now) (pieces.begins start (written_in c.args.self.now)) first ahead text whole c.in_ok-write_removals.ensures in
    pieces.ends start mid _ (written_in c.args.self.now) (text ++ ahead) so_far (Ok tt) c.in_ok-some.ensures.writes

pub returns-clause-differs : goal.returns-clause-differs
returns-clause-differs g c =
    let conf = c.args.self.now.conf.now in
    let extent : Extent = extent_in c.args.self.now in
    let a = c.args.self.now.before.now.entries in
    let b = c.args.self.now.after.now.entries in
    ap (λ (b : Bool). not b || c.in_ok-some.some)
    (c.is_empty.ensures ∙ ap (λ n. n == 0) (sym c.as_slice.ensures.len ∙ ap length c.as_slice.ensures.value))
    ∙ differs_is conf extent a b c.in_ok-gone.gone.items c.in_ok-some.some c.in_ok-gone.ensures c.in_ok-some.ensures.some

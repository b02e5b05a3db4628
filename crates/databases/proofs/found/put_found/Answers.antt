use Rattle.std.proofs.Common.{◌≡◌, ℕ, List, ◌∷◌, ◌++◌, map, Option, Some, refl, sym, ap, ◌∙◌, subst}
use Rattle.std.proofs.lemmas.Result.{err_from_is_err_and}
use Rattle.tree.specs.Trees.{Tree}
use Rattle.databases.specs.Walks.{Walk, Lent, seen}
use Rattle.ldif.specs.Written.{SoFar}
use Rattle.databases.specs.Found.{AreThere, found_text, up_to, goes_past}
use Rattle.databases.specs.inner.Dumps.{entry_text}
use Rattle.databases.specs.inner.Found.{one_fewer}
use Rattle.databases.proofs.FoundText.{past_more, past_nothing, past_at_once, used_up, some_left, goes_on, none_left, none_may}
use Rattle.databases.proofs.Pieces as pieces
use Rattle.databases.proofs.found.put_found.Goals as goal

pub loop-found-init : goal.loop-found-init
loop-found-init g c =
    let width = c.args.printer.now.width in
    let d : Tree = c.args.printer.now.tree.now in
    let s = c.args.selection.now in
    let limit = c.args.limit in
    let text : List ℕ = c.args.text.now.items in
    let iter : Walk = c.into_iter-found-iterator.result in
    let same : iter ≡ c.args.hits = c.into_iter-found-iterator.ensures.into_iter_gives in
    record {
      failures = refl;
      names = c.requires.names;
      there = subst (λ (w : Walk). AreThere d.entries (map seen w.to_come)) (sym same) c.requires.there;
      past = ap (λ (w : Walk). goes_past limit w.to_come) same;
      so_far = pieces.nothing_yet (g.W.Sink.written c.args.sink.now) _ _ (ap (λ (w : Walk). text ++ found_text width d.conf d.entries s (up_to limit (map seen w.to_come))) same);
    }

pub loop-found-preserved : goal.loop-found-preserved
loop-found-preserved g c =
    let width = c.args.printer.now.width in
    let d : Tree = c.args.printer.now.tree.now in
    let s = c.args.selection.now in
    let left : Option ℕ = c.loop-found.left in
    let fewer : Option ℕ = c.one_fewer-left.result in
    let old : Walk = c.loop-found.found-iterator in
    let new : Walk = c.next.new.self in
    let found : Lent = record { tested = new.tested; path = c.in-Some.found.0.now; entry = c.in-Some.found.1.now } in
    let steps : old.to_come ≡ found ∷ new.to_come = c.in-Some.ensures.steps.lends in
    let some = some_left left (sym c.is_used_up.ensures ∙ c.if-is_used_up.false) in
    let text : List ℕ = c.loop-found.text.items in
    let entry : List ℕ = entry_text width d.conf d.entries s (found.path, found.entry) in
    let more : List ℕ = found_text width d.conf d.entries s (up_to fewer (map seen new.to_come)) in
    let next : text ++ found_text width d.conf d.entries s (up_to left (map seen old.to_come)) ≡ (text ++ entry) ++ more =
    goes_on width d.conf d.entries s left fewer found old.to_come new.to_come text steps some c.one_fewer-left.ensures in
    record {
      failures = c.in_ok-write_entry.ensures.writes.written.failed ∙ c.loop-found.invariant.failures;
      names = c.in_ok-write_entry.ensures.names;
      there = (subst (λ (ls : List Lent). AreThere d.entries (map seen ls)) steps c.loop-found.invariant.there).1;
      past = ap (λ (l : Option ℕ). goes_past l new.to_come) c.one_fewer-left.ensures ∙ sym (past_more left found new.to_come some) ∙ ap (goes_past left) (sym steps) ∙ c.loop-found.invariant.past;
      so_far = pieces.goes_further (g.W.Sink.written c.args.sink.now) (g.W.Sink.written c.loop-found.sink) _ _
          (text ++ found_text width d.conf d.entries s (up_to left (map seen old.to_come))) c.loop-found.invariant.so_far
          (text ++ entry) more _ next c.in_ok-write_entry.ensures.writes;
    }

pub returns-in_err-write_entry : goal.returns-in_err-write_entry
returns-in_err-write_entry g c =
    let p = err_from_is_err_and c.from_residual.result c.from_residual.ensures.1 in
    let width = c.args.printer.now.width in
    let d : Tree = c.args.printer.now.tree.now in
    let s = c.args.selection.now in
    let left : Option ℕ = c.loop-found.left in
    let old : Walk = c.loop-found.found-iterator in
    let new : Walk = c.next.new.self in
    let found : Lent = record { tested = new.tested; path = c.in-Some.found.0.now; entry = c.in-Some.found.1.now } in
    let steps : old.to_come ≡ found ∷ new.to_come = c.in-Some.ensures.steps.lends in
    let some = some_left left (sym c.is_used_up.ensures ∙ c.if-is_used_up.false) in
    let text : List ℕ = c.loop-found.text.items in
    let entry : List ℕ = entry_text width d.conf d.entries s (found.path, found.entry) in
    let more : List ℕ = found_text width d.conf d.entries s (up_to (one_fewer left) (map seen new.to_come)) in
    let next : text ++ found_text width d.conf d.entries s (up_to left (map seen old.to_come)) ≡ (text ++ entry) ++ more =
    goes_on width d.conf d.entries s left (one_fewer left) found old.to_come new.to_come text steps some refl in
    rw (p.1, p.2) (pieces.stops (g.W.Sink.written c.args.sink.now) (g.W.Sink.written c.loop-found.sink) _ _
    (text ++ found_text width d.conf d.entries s (up_to left (map seen old.to_come))) c.loop-found.invariant.so_far
    c.in_err-write_entry.field-0.0 (text ++ entry) more next c.in_err-write_entry.ensures.writes)

pub returns-then-is_used_up : goal.returns-then-is_used_up
returns-then-is_used_up g c =
    let width = c.args.printer.now.width in
    let d : Tree = c.args.printer.now.tree.now in
    let s = c.args.selection.now in
    let left : Option ℕ = c.loop-found.left in
    let old : Walk = c.loop-found.found-iterator in
    let new : Walk = c.next.new.self in
    let found : Lent = record { tested = new.tested; path = c.in-Some.found.0.now; entry = c.in-Some.found.1.now } in
    let steps : old.to_come ≡ found ∷ new.to_come = c.in-Some.ensures.steps.lends in
    let over : left ≡ Some 0 = used_up left (sym c.is_used_up.ensures ∙ c.if-is_used_up.true) in
    record {
      past_is = sym (past_at_once found new.to_come) ∙ ap (λ (l : Option ℕ). goes_past l (found ∷ new.to_come)) (sym over) ∙ ap (goes_past left) (sym steps) ∙ c.loop-found.invariant.past;
      so_far = subst (SoFar (g.W.Sink.written c.args.sink.now) (g.W.Sink.written c.loop-found.sink) _) (none_may width d.conf d.entries s left old.to_come c.loop-found.text.items over) c.loop-found.invariant.so_far;
    }

pub returns : goal.returns
returns g c =
    let width = c.args.printer.now.width in
    let d : Tree = c.args.printer.now.tree.now in
    let s = c.args.selection.now in
    let left : Option ℕ = c.loop-found.left in
    let none = c.in-None.ensures.steps.lends.0 in
    record {
      past_is = sym (past_nothing Lent left) ∙ ap (goes_past left) (sym none) ∙ c.loop-found.invariant.past;
      so_far = subst (SoFar (g.W.Sink.written c.args.sink.now) (g.W.Sink.written c.loop-found.sink) _) (none_left width d.conf d.entries s left c.loop-found.found-iterator.to_come c.loop-found.text.items none) c.loop-found.invariant.so_far;
    }

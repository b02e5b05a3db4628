use Rattle.std.proofs.Common.{◌≡◌, ℕ, List, ◌++◌, sym, subst}
use Rattle.std.proofs.lemmas.Result.{err_from_is_err_and}
use Rattle.schema.specs.Conf.{Conf}
use Rattle.tree.specs.Directories.{Entries}
use Rattle.index_text.specs.IndexTexts.{ended, end_line}
use Rattle.ldif.specs.Written.{SoFar}
use Rattle.tree.specs.Trees.{Tree}
use Rattle.databases.specs.IndexTexts.{index_text, first_line, slots_lines}
use Rattle.databases.proofs.Pieces.{wants_memory, ends}
use Rattle.databases.proofs.WrittenLines.{longer, stopped_early, in_parts}
use Rattle.directory.proofs.directory.Directory.index_text_with.Goals as goal

pub returns-in_err-text : goal.returns-in_err-text
returns-in_err-text g c = wants_memory c.from_residual.result c.from_residual.ensures.1 (g.W.Sink.written c.args.sink.now) (index_text c.args.self.now.conf c.args.self.now.entries)

pub returns-in_err-ranks : goal.returns-in_err-ranks
returns-in_err-ranks g c = wants_memory c.from_residual-in_err-ranks.result c.from_residual-in_err-ranks.ensures.1 (g.W.Sink.written c.args.sink.now) (index_text c.args.self.now.conf c.args.self.now.entries)

pub returns-in_err-write_slots : goal.returns-in_err-write_slots
returns-in_err-write_slots g c =
    let p = err_from_is_err_and c.from_residual-in_err-write_slots.result c.from_residual-in_err-write_slots.ensures.1 in
    let conf : Conf = c.args.self.now.conf in
    let d : Entries = c.args.self.now.entries in
    let start : List ℕ = c.in_ok-text.text.items in
    rw (p.1, p.2) (stopped_early (g.W.Sink.written c.args.sink.now) (g.W.Sink.written c.write_slots.new.sink) (start ++ slots_lines conf d conf.slots) (ended end_line) (index_text conf d) (in_parts conf d start (subst (λ (t : Tree). c.in_ok-text.text.items ≡ first_line t.conf t.entries) c.database.ensures c.in_ok-text.ensures)) c.in_err-write_slots.field-0.0 c.in_err-write_slots.ensures)

pub returns-in_err-put_end : goal.returns-in_err-put_end
returns-in_err-put_end g c =
    let p = err_from_is_err_and c.from_residual-in_err-put_end.result c.from_residual-in_err-put_end.ensures.1 in
    let conf : Conf = c.args.self.now.conf in
    let d : Entries = c.args.self.now.entries in
    let start : List ℕ = c.in_ok-text.text.items in
    rw (p.1, p.2) (record {
      rest = c.write_slots.new.text.items ++ ended end_line;
      so_far = longer (g.W.Sink.written c.args.sink.now) (g.W.Sink.written c.write_slots.new.sink) (start ++ slots_lines conf d conf.slots) c.write_slots.new.text.items (ended end_line) (index_text conf d) (in_parts conf d start (subst (λ (t : Tree). c.in_ok-text.text.items ≡ first_line t.conf t.entries) c.database.ensures c.in_ok-text.ensures)) c.in_ok-write_slots.ensures;
    })

pub returns : goal.returns
returns g c =
    let conf : Conf = c.args.self.now.conf in
    let d : Entries = c.args.self.now.entries in
    let start : List ℕ = c.in_ok-text.text.items in
    let last : c.put_end.new.out.items ≡ c.write_slots.new.text.items ++ ended end_line = c.in_ok-put_end.ensures.put in
    ends (g.W.Sink.written c.args.sink.now) (g.W.Sink.written c.write_slots.new.sink) (g.W.Sink.written c.pass_on.new.sink) (index_text conf d) c.put_end.new.out.items
    (subst (SoFar (g.W.Sink.written c.args.sink.now) (g.W.Sink.written c.write_slots.new.sink) (index_text conf d)) (sym last)
    (longer (g.W.Sink.written c.args.sink.now) (g.W.Sink.written c.write_slots.new.sink) (start ++ slots_lines conf d conf.slots) c.write_slots.new.text.items (ended end_line) (index_text conf d) (in_parts conf d start (subst (λ (t : Tree). c.in_ok-text.text.items ≡ first_line t.conf t.entries) c.database.ensures c.in_ok-text.ensures)) c.in_ok-write_slots.ensures))
    c.pass_on.result c.pass_on.ensures.writes

use Rattle.std.proofs.Common.{ℕ, ◌<◌, ◌-◌, ◌^◌, refl, sym, subst}
use Rattle.std.specs.Prelude.{Ok}
use Rattle.commands.specs.Worlds.{World}
use Rattle.commands.specs.inner.Views.{run_of}
use Rattle.commands.proofs.Running.{dry_stores, stores, not_stored}
use Rattle.commands.proofs.changes.run_and_store.Goals as goal

pub returns-then-task-clause-ends : goal.returns-then-task-clause-ends
returns-then-task-clause-ends g c = λ w.
    let run = run_of c.args.database.now c.run_records.new.database (Ok c.in_ok-tally.tally) in
    let mid : World = record w { files = g.F.Folder.files c.args.folder.now; input = g.S.Source.seen c.run_records.new.input; messages = g.E.Sink.written c.run_records.new.err } in
    record { run = run; tally = c.in_ok-tally.tally; answer_is = refl; mid = mid; runs = c.in_ok-tally.ensures.ran w; stores = dry_stores c.args.task.now run mid c.if-task.true; status = c.of_tally.ensures }

pub returns-in-Ok-clause-ends : goal.returns-in-Ok-clause-ends
returns-in-Ok-clause-ends g c = λ w.
    let run = run_of c.args.database.now c.run_records.new.database (Ok c.in_ok-tally.tally) in
    let mid : World = record w { files = g.F.Folder.files c.args.folder.now; input = g.S.Source.seen c.run_records.new.input; messages = g.E.Sink.written c.run_records.new.err } in
    record {
      run = run;
      tally = c.in_ok-tally.tally;
      answer_is = refl;
      mid = mid;
      runs = c.in_ok-tally.ensures.ran w;
      stores = stores c.args.task.now run mid (g.F.Folder.files c.store_database.new.folder) c.run_records.new.database.conf c.if-task.false c.run_records.ensures.same_conf c.in-Ok.ensures.ok;
      status = c.of_tally-in-Ok.ensures;
    }

pub returns-in-Err-clause-ends : goal.returns-in-Err-clause-ends
returns-in-Err-clause-ends g c =
    λ w.
    let run = run_of c.args.database.now c.run_records.new.database (Ok c.in_ok-tally.tally) in
    let mid : World = record w { files = g.F.Folder.files c.args.folder.now; input = g.S.Source.seen c.run_records.new.input; messages = g.E.Sink.written c.run_records.new.err } in
    let w₁ : World = record w { files = g.F.Folder.files c.args.folder.now; input = g.S.Source.seen c.args.input.now; messages = g.E.Sink.written c.args.err.now } in
    let w₂ : World = record mid { files = g.F.Folder.files c.store_database.new.folder } in
    not_stored c.args.task.now run c.in_ok-tally.tally w₁ mid w₂ _ _ refl (c.in_ok-tally.ensures.ran w) c.if-task.false c.run_records.ensures.same_conf c.in-Err.ensures.err refl

pub returns-in-Err-clause-can_report : goal.returns-in-Err-clause-can_report
returns-in-Err-clause-can_report g c =
    let runs = c.in_ok-tally.ensures.ran (record { files = g.F.Folder.files c.args.folder.now; lock = g.F.Folder.locking c.args.folder.now; input = g.S.Source.seen c.args.input.now; output = g.E.Sink.written c.args.err.now; messages = g.E.Sink.written c.args.err.now }) in
    subst (λ (n : ℕ). n < 2 ^ 64 - 1) (sym runs.ran.failures.1) c.requires.err

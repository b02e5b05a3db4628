use Rattle.std.proofs.Common.{ℕ, List, refl, subst, inl, inr}
use Rattle.std.specs.Option.{option_copied}
use Rattle.device.specs.Device.{Took, Broke}
use Rattle.commands.specs.Sorting.{SortStops}
use Rattle.commands.specs.Worlds.{World, source_world}
use Rattle.commands.proofs.SourcesRead.{same_files}
use Rattle.commands.proofs.Stopping.{stopped}
use Rattle.commands.proofs.sort.sort.Goals as goal

pub returns-in-Ok-print_text : goal.returns-in-Ok-print_text
returns-in-Ok-print_text g c = λ w.
    let before : World = record w { output = g.O.Sink.written c.args.out.now } in
    let read : World = source_world before g.F.Folder.files g.S.Source.seen c.args.folder.now c.read_in_order.new.input in
    record {
      sorted = c.in-Ok.sorted.items;
      mid = read;
      reads = c.in-Ok.ensures.reads before;
      printed = record {
        took = subst (λ (text : List ℕ). Took (g.O.Sink.written c.args.out.now) (g.O.Sink.written c.print_text.new.out) text) c.as_slice.ensures.value c.in-Ok-print_text.ensures.printed;
        stays = refl;
      };
      done = c.in-Ok-print_text.ensures.done;
    }

pub returns-in-Ok : goal.returns-in-Ok
returns-in-Ok g c = λ w.
    let before : World = record w { output = g.O.Sink.written c.args.out.now } in
    let read : World = source_world before g.F.Folder.files g.S.Source.seen c.args.folder.now c.read_in_order.new.input in
    stopped (SortStops c.args.asked.now) _ _ _ (inr (record {
      sorted = c.in-Ok.sorted.items;
      mid = read;
      reads = c.in-Ok.ensures.reads before;
      why = c.in-Err-print_text.ensures.why;
      broke = subst (λ (text : List ℕ). Broke (g.O.Sink.written c.args.out.now) (g.O.Sink.written c.print_text.new.out) text) c.as_slice.ensures.value c.in-Err-print_text.ensures.broke;
      only = record { stored = refl; stays = refl };
    })) refl

pub returns : goal.returns
returns g c = λ w.
    let before : World = record w { output = g.O.Sink.written c.args.out.now } in
    let start : World = source_world before g.F.Folder.files g.S.Source.seen c.args.folder.now c.args.input.now in
    let read : World = source_world before g.F.Folder.files g.S.Source.seen c.args.folder.now c.read_in_order.new.input in
    let stays = c.in-Err.ensures.stays before in
    stopped (SortStops c.args.asked.now) start read _ (inl (record { why = c.in-Err.ensures.fails; stored = refl; stays = stays }))
    (same_files (option_copied c.args.asked.now.file) start read stays)

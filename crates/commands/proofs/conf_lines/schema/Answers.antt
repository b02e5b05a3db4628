use Rattle.std.proofs.Common.{ℕ, List, refl, subst, inl, inr}
use Rattle.std.proofs.lemmas.Result.{err_from_is_err_and}
use Rattle.std.specs.Option.{option_copied}
use Rattle.device.specs.Device.{Took, Broke}
use Rattle.commands.specs.Schemas.{IsTransferredFor, FailsToTransfer, SchemaStops}
use Rattle.commands.specs.Worlds.{World, source_world}
use Rattle.commands.proofs.SourcesRead.{same_files}
use Rattle.commands.proofs.Stopping.{stopped}
use Rattle.commands.proofs.conf_lines.schema.Goals as goal

pub returns-in_err-conf : goal.returns-in_err-conf
returns-in_err-conf g c =
    let p = err_from_is_err_and c.from_residual.result c.from_residual.ensures.1 in
    rw (p.1, p.2) (λ w. stopped (SchemaStops c.args.asked.now) _ _ _ (inl (record { why = c.in_err-conf.ensures.err; at_once = record { stored = refl; world = refl } })) refl)

pub returns-in_err-source : goal.returns-in_err-source
returns-in_err-source g c =
    let p = err_from_is_err_and c.from_residual-in_err-source.result c.from_residual-in_err-source.ensures.1 in
    rw (p.1, p.2) (λ w.
    let before : World = record w { output = g.O.Sink.written c.args.out.now } in
    let start : World = source_world before g.F.Folder.files g.S.Source.seen c.args.folder.now c.args.input.now in
    let read : World = source_world before g.F.Folder.files g.S.Source.seen c.args.folder.now c.read_text.new.input in
    let stays = c.in_err-source.ensures.stays before in
    stopped (SchemaStops c.args.asked.now) start read _ (inr (inl (record { why = c.in_err-source.ensures.fails; stored = refl; stays = stays })))
    (same_files (option_copied c.args.asked.now.file) start read stays))

pub returns-in_err-transfer : goal.returns-in_err-transfer
returns-in_err-transfer g c =
    let p = err_from_is_err_and c.from_residual-in_err-transfer.result c.from_residual-in_err-transfer.ensures.1 in
    rw (p.1, p.2) (λ w.
    let before : World = record w { output = g.O.Sink.written c.args.out.now } in
    let start : World = source_world before g.F.Folder.files g.S.Source.seen c.args.folder.now c.args.input.now in
    let read : World = source_world before g.F.Folder.files g.S.Source.seen c.args.folder.now c.read_text.new.input in
    stopped (SchemaStops c.args.asked.now) start read _ (inr (inr (inl (record {
      conf = c.in_ok-conf.conf.items;
      conf_is = c.in_ok-conf.ensures.ok;
      source = c.in_ok-source.source.items;
      reads = c.in_ok-source.ensures.reads before;
      why = subst (λ (conf : List ℕ). FailsToTransfer conf c.in_err-transfer.field-0.0) c.as_slice-2.ensures.value c.in_err-transfer.ensures.err;
      stored = refl;
    })))) refl)

pub returns-in-Ok : goal.returns-in-Ok
returns-in-Ok g c = λ w.
    let before : World = record w { output = g.O.Sink.written c.args.out.now } in
    let read : World = source_world before g.F.Folder.files g.S.Source.seen c.args.folder.now c.read_text.new.input in
    let t = c.in_ok-transfer.transfer in
    record {
      conf = c.in_ok-conf.conf.items;
      source = c.in_ok-source.source.items;
      transfer = t;
      mid = read;
      conf_is = c.in_ok-conf.ensures.ok;
      reads = c.in_ok-source.ensures.reads before;
      transferred = subst (λ (s : List ℕ). IsTransferredFor s c.in_ok-conf.conf.items t) c.as_slice.ensures.value
          (subst (λ (conf : List ℕ). IsTransferredFor c.as_slice.result.now conf t) c.as_slice-2.ensures.value c.in_ok-transfer.ensures.ok);
      printed = record { took = subst (λ (text : List ℕ). Took (g.O.Sink.written c.args.out.now) (g.O.Sink.written c.print_text.new.out) text) c.as_slice-3.ensures.value c.in-Ok.ensures.printed; stays = refl };
      status = c.status_of_transfer.ensures;
    }

pub returns : goal.returns
returns g c = λ w.
    let before : World = record w { output = g.O.Sink.written c.args.out.now } in
    let read : World = source_world before g.F.Folder.files g.S.Source.seen c.args.folder.now c.read_text.new.input in
    let t = c.in_ok-transfer.transfer in
    stopped (SchemaStops c.args.asked.now) _ _ _ (inr (inr (inr (record {
      conf = c.in_ok-conf.conf.items;
      source = c.in_ok-source.source.items;
      transfer = t;
      mid = read;
      conf_is = c.in_ok-conf.ensures.ok;
      reads = c.in_ok-source.ensures.reads before;
      transferred = subst (λ (s : List ℕ). IsTransferredFor s c.in_ok-conf.conf.items t) c.as_slice.ensures.value
          (subst (λ (conf : List ℕ). IsTransferredFor c.as_slice.result.now conf t) c.as_slice-2.ensures.value c.in_ok-transfer.ensures.ok);
      why = c.in-Err.ensures.why;
      broke = subst (λ (text : List ℕ). Broke (g.O.Sink.written c.args.out.now) (g.O.Sink.written c.print_text.new.out) text) c.as_slice-3.ensures.value c.in-Err.ensures.broke;
      only = record { stored = refl; stays = refl };
    })))) refl

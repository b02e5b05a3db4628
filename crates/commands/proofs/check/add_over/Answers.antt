use Rattle.std.proofs.Common.{ℕ, List, Option, Bor, refl, sym, subst}
use Rattle.std.specs.Option.{option_copied}
use Rattle.std.proofs.lemmas.Result.{IfOk-weaker}
use Rattle.commands.specs.Checks.{AddsOver, FailsOver}
use Rattle.commands.specs.Worlds.{World, source_world}
use Rattle.commands.proofs.Stopping.{of_faults}
use Rattle.commands.proofs.check.add_over.Goals as goal

pub returns-in-Some-clause-adds : goal.returns-in-Some-clause-adds
returns-in-Some-clause-adds g c =
    let d = c.args.database.now in
    let new = c.add_file.new.database.entries in
    IfOk-weaker c.add_file.result _ _
    (λ told adds w.
    let start : World = source_world w g.F.Folder.files g.S.Source.seen c.args.folder.now c.args.input.now in
    let end : World = source_world w g.F.Folder.files g.S.Source.seen c.args.folder.now c.add_file.new.input in
    subst (λ (file : Option (Bor (List ℕ))). AddsOver (option_copied file) d.conf d.entries new told.items start end) (sym c.in-Some.is) (adds w))
    c.add_file.ensures.adds

pub returns-in-Some-clause-fails : goal.returns-in-Some-clause-fails
returns-in-Some-clause-fails g c =
    of_faults c.add_file.result
    (λ fault fails w.
    let start : World = source_world w g.F.Folder.files g.S.Source.seen c.args.folder.now c.args.input.now in
    let end : World = source_world w g.F.Folder.files g.S.Source.seen c.args.folder.now c.add_file.new.input in
    subst (λ (file : Option (Bor (List ℕ))). FailsOver (option_copied file) fault start end) (sym c.in-Some.is) (record { why = fails; stays = c.add_file.ensures.stays w }))
    c.add_file.ensures.err

pub returns-in-None-clause-adds : goal.returns-in-None-clause-adds
returns-in-None-clause-adds g c = λ w.
    let d = c.args.database.now in
    let start : World = source_world w g.F.Folder.files g.S.Source.seen c.args.folder.now c.args.input.now in
    subst (λ (file : Option (Bor (List ℕ))). AddsOver (option_copied file) d.conf d.entries d.entries c.new.result.items start start) (sym c.in-None.is)
    (refl, c.new.ensures.items, refl)

use Rattle.std.proofs.Common.{List, ℕ, Option, sym, subst, Bor}
use Rattle.std.specs.Prelude.{OnOk, IfErr}
use Rattle.std.specs.Option.{option_copied}
use Rattle.commands.specs.Prints.{IsTextUnder, HasPut}
use Rattle.commands.specs.Queries.{HasBegun, PrintsPartly}
use Rattle.commands.specs.Worlds.{put_world}
use Rattle.commands.specs.inner.Views.{basis_of}
use Rattle.commands.proofs.Ends.{refused_so}
use Rattle.commands.proofs.Stopping.{of_faults}
use Rattle.commands.proofs.slapcat.put_text.Goals as goal

abbrev Suffix : Type 0
Suffix = Option (Bor (List ℕ))

pub returns-in-Some-clause-put : goal.returns-in-Some-clause-put
returns-in-Some-clause-put g c = λ w.
    let asked = c.args.asked.now in
    subst (λ (o : Suffix). OnOk c.put_moved.result (HasPut (IsTextUnder (option_copied o) asked (basis_of c.args.filter.now c.args.database.now)) asked.db.now (option_copied asked.file)
    (put_world w g.F.Folder.files g.O.Sink.written c.args.folder.now c.args.out.now) (put_world w g.F.Folder.files g.O.Sink.written c.put_moved.new.folder c.put_moved.new.out))) (sym c.in-Some.is) (c.put_moved.ensures.put w)

pub returns-in-Some-clause-fault : goal.returns-in-Some-clause-fault
returns-in-Some-clause-fault g c =
    let d = c.args.database.now in
    of_faults c.put_moved.result (refused_so c.args.asked.now d.conf d.entries c.in-Some.name c.in-Some.is) c.put_moved.ensures.fault

pub returns-in-Some-clause-partly : goal.returns-in-Some-clause-partly
returns-in-Some-clause-partly g c =
    let asked = c.args.asked.now in
    subst (λ (o : Suffix). IfErr c.put_moved.result (PrintsPartly (HasBegun (IsTextUnder (option_copied o) asked (basis_of c.args.filter.now c.args.database.now)) (option_copied asked.file))
    (g.O.Sink.written c.args.out.now) (g.O.Sink.written c.put_moved.new.out))) (sym c.in-Some.is) c.put_moved.ensures.partly

pub returns-in-None-clause-put : goal.returns-in-None-clause-put
returns-in-None-clause-put g c = λ w.
    let asked = c.args.asked.now in
    subst (λ (o : Suffix). OnOk c.put_entries.result (HasPut (IsTextUnder (option_copied o) asked (basis_of c.args.filter.now c.args.database.now)) asked.db.now (option_copied asked.file)
    (put_world w g.F.Folder.files g.O.Sink.written c.args.folder.now c.args.out.now) (put_world w g.F.Folder.files g.O.Sink.written c.put_entries.new.folder c.put_entries.new.out))) (sym c.in-None.is) (c.put_entries.ensures.put w)

pub returns-in-None-clause-partly : goal.returns-in-None-clause-partly
returns-in-None-clause-partly g c =
    let asked = c.args.asked.now in
    subst (λ (o : Suffix). IfErr c.put_entries.result (PrintsPartly (HasBegun (IsTextUnder (option_copied o) asked (basis_of c.args.filter.now c.args.database.now)) (option_copied asked.file))
    (g.O.Sink.written c.args.out.now) (g.O.Sink.written c.put_entries.new.out))) (sym c.in-None.is) c.put_entries.ensures.partly

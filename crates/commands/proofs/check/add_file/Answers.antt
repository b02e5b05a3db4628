use Rattle.std.proofs.Common.{◌≡◌, ◌∙◌, ℕ, List, Option, None, Some, IfErr, refl, sym, ap, subst}
use Rattle.std.proofs.lemmas.Result.{IfOk-weaker}
use Rattle.commands.specs.Failures.{FailsToRead}
use Rattle.commands.specs.Lists.{list_source}
use Rattle.commands.specs.Texts.{ReadsAtMost}
use Rattle.commands.specs.Worlds.{World, source_world}
use Rattle.commands.proofs.Checked.{from_input, from_file, input_name, own_name}
use Rattle.commands.proofs.SourcesRead.{named}
use Rattle.commands.proofs.check.add_file.Goals as goal

pub returns-then-eq-clause-adds : goal.returns-then-eq-clause-adds
returns-then-eq-clause-adds g c =
    let d = c.args.database.now in
    IfOk-weaker c.add_records.result _ _
    (λ told adds w. from_input c.args.name.now d.conf d.entries c.add_records.new.database.entries told.items
    (source_world w g.F.Folder.files g.S.Source.seen c.args.folder.now c.args.input.now) c.eq.result c.eq.ensures c.if-eq.true (g.S.Source.seen c.add_records.new.source) adds)
    c.add_records.ensures.adds

pub returns-then-eq-clause-err : goal.returns-then-eq-clause-err
returns-then-eq-clause-err g c =
    subst (λ (n : List ℕ). IfErr c.add_records.result (FailsToRead n)) (input_name c.args.name.now c.eq.result c.eq.ensures c.if-eq.true) c.add_records.ensures.err

pub returns-in-Ok-clause-adds : goal.returns-in-Ok-clause-adds
returns-in-Ok-clause-adds g c =
    let d = c.args.database.now in
    IfOk-weaker c.add_records-in-Ok.result _ _
    (λ told adds w. from_file c.args.name.now d.conf d.entries c.add_records-in-Ok.new.database.entries told.items
    (source_world w g.F.Folder.files g.S.Source.seen c.args.folder.now c.args.input.now) c.eq.result c.eq.ensures c.if-eq.false
    (g.F.In.Source.seen c.in-Ok.source).left c.in-Ok.ensures.finds adds)
    c.add_records-in-Ok.ensures.adds

pub returns-in-Ok-clause-err : goal.returns-in-Ok-clause-err
returns-in-Ok-clause-err g c =
    subst (λ (n : List ℕ). IfErr c.add_records-in-Ok.result (FailsToRead n)) (own_name c.args.name.now c.eq.result c.eq.ensures c.if-eq.false) c.add_records-in-Ok.ensures.err

pub returns-in-Err-clause-err : goal.returns-in-Err-clause-err
returns-in-Err-clause-err g c =
    subst (λ (n : List ℕ). FailsToRead n c.in-Err.fault) (own_name c.args.name.now c.eq.result c.eq.ensures c.if-eq.false) c.in-Err.ensures.err

pub returns-then-eq-clause-stays : goal.returns-then-eq-clause-stays
returns-then-eq-clause-stays g c =
    let none : list_source c.args.name.now ≡ None = ap (named c.args.name.now) (sym c.eq.ensures ∙ c.if-eq.true) in
    subst (λ (o : Option (List ℕ)). (w : World) → ReadsAtMost o
    (source_world w g.F.Folder.files g.S.Source.seen c.args.folder.now c.args.input.now)
    (source_world w g.F.Folder.files g.S.Source.seen c.args.folder.now c.add_records.new.source)) (sym none) (λ w. refl)

pub returns-in-Ok-clause-stays : goal.returns-in-Ok-clause-stays
returns-in-Ok-clause-stays g c =
    let some : list_source c.args.name.now ≡ Some c.args.name.now = ap (named c.args.name.now) (sym c.eq.ensures ∙ c.if-eq.false) in
    subst (λ (o : Option (List ℕ)). (w : World) → ReadsAtMost o
    (source_world w g.F.Folder.files g.S.Source.seen c.args.folder.now c.args.input.now)
    (source_world w g.F.Folder.files g.S.Source.seen c.args.folder.now c.args.input.now)) (sym some) (λ w. refl)

pub returns-in-Err-clause-stays : goal.returns-in-Err-clause-stays
returns-in-Err-clause-stays g c =
    let some : list_source c.args.name.now ≡ Some c.args.name.now = ap (named c.args.name.now) (sym c.eq.ensures ∙ c.if-eq.false) in
    subst (λ (o : Option (List ℕ)). (w : World) → ReadsAtMost o
    (source_world w g.F.Folder.files g.S.Source.seen c.args.folder.now c.args.input.now)
    (source_world w g.F.Folder.files g.S.Source.seen c.args.folder.now c.args.input.now)) (sym some) (λ w. refl)

use Rattle.std.proofs.Common.{ℕ, List, Option, Bor, refl, sym, subst}
use Rattle.std.specs.Option.{option_copied}
use Rattle.std.proofs.lemmas.Result.{IfOk-weaker}
use Rattle.commands.specs.Texts.{ReadsAtMost, ReadsText}
use Rattle.commands.specs.Worlds.{World, source_world}
use Rattle.commands.proofs.SourcesRead.{nothing_read}
use Rattle.commands.proofs.sort.read_text.Goals as goal

pub returns-in-None-clause-reads : goal.returns-in-None-clause-reads
returns-in-None-clause-reads g c =
    IfOk-weaker c.contents.result _ _
    (λ text bytes w.
    let start : World = source_world w g.F.Folder.files g.S.Source.seen c.args.folder.now c.args.input.now in
    let end : World = source_world w g.F.Folder.files g.S.Source.seen c.args.folder.now c.contents.new.source in
    subst (λ (file : Option (Bor (List ℕ))). ReadsText (option_copied file) text.items start end) (sym c.in-None.is)
    (record { source = g.S.Source.seen c.args.input.now; source' = g.S.Source.seen c.contents.new.source; source_is = (refl, refl); text_is = bytes; stays = refl }))
    c.contents.ensures.bytes

pub returns-in-Ok-clause-reads : goal.returns-in-Ok-clause-reads
returns-in-Ok-clause-reads g c =
    let source = g.F.In.Source.seen c.in-Ok.source in
    IfOk-weaker c.contents-in-Ok.result _ _
    (λ text bytes w.
    let start : World = source_world w g.F.Folder.files g.S.Source.seen c.args.folder.now c.args.input.now in
    subst (λ (file : Option (Bor (List ℕ))). ReadsText (option_copied file) text.items start start) (sym c.in-Some.is)
    (record { source = source; source' = source; source_is = (c.in-Ok.ensures.finds, refl); text_is = bytes; stays = refl }))
    c.contents-in-Ok.ensures.bytes

pub returns-in-None-clause-stays : goal.returns-in-None-clause-stays
returns-in-None-clause-stays g c = λ w.
    let start : World = source_world w g.F.Folder.files g.S.Source.seen c.args.folder.now c.args.input.now in
    let end : World = source_world w g.F.Folder.files g.S.Source.seen c.args.folder.now c.contents.new.source in
    subst (λ (file : Option (Bor (List ℕ))). ReadsAtMost (option_copied file) start end) (sym c.in-None.is) refl

pub returns-in-Ok-clause-stays : goal.returns-in-Ok-clause-stays
returns-in-Ok-clause-stays g c = λ w. nothing_read (option_copied c.args.file) (source_world w g.F.Folder.files g.S.Source.seen c.args.folder.now c.args.input.now)

pub returns-in-Err-clause-stays : goal.returns-in-Err-clause-stays
returns-in-Err-clause-stays g c = λ w. nothing_read (option_copied c.args.file) (source_world w g.F.Folder.files g.S.Source.seen c.args.folder.now c.args.input.now)

use Rattle.std.proofs.Common.{◌≡◌, ◌∙◌, ℕ, List, Option, Some, None, IfErr, sym, ap, subst}
use Rattle.std.specs.Prelude.{IfOk}
use Rattle.commands.specs.Changes.{source_name}
use Rattle.commands.specs.Failures.{FailsToRead}
use Rattle.commands.specs.Lists.{list_source}
use Rattle.commands.specs.Texts.{ReadsAtMost, ReadsText}
use Rattle.commands.specs.Worlds.{World, source_world}
use Rattle.commands.proofs.SourcesRead.{named}
use Rattle.commands.proofs.listing.read_list.Goals as goal

pub returns-then-eq-clause-reads : goal.returns-then-eq-clause-reads
returns-then-eq-clause-reads g c =
    let none : list_source c.args.name.now ≡ None = ap (named c.args.name.now) (sym c.eq.ensures ∙ c.if-eq.true) in
    subst (λ (o : Option (List ℕ)). IfOk c.read_text.result (λ text. (w : World) → ReadsText o text.items
    (source_world w g.F.Folder.files g.S.Source.seen c.args.folder.now c.args.input.now)
    (source_world w g.F.Folder.files g.S.Source.seen c.args.folder.now c.read_text.new.input))) (sym none) c.read_text.ensures.reads

pub returns-clause-reads : goal.returns-clause-reads
returns-clause-reads g c =
    let some : list_source c.args.name.now ≡ Some c.args.name.now = ap (named c.args.name.now) (sym c.eq.ensures ∙ c.if-eq.false) in
    subst (λ (o : Option (List ℕ)). IfOk c.read_text-2.result (λ text. (w : World) → ReadsText o text.items
    (source_world w g.F.Folder.files g.S.Source.seen c.args.folder.now c.args.input.now)
    (source_world w g.F.Folder.files g.S.Source.seen c.args.folder.now c.read_text-2.new.input))) (sym some) c.read_text-2.ensures.reads

pub returns-then-eq-clause-fails : goal.returns-then-eq-clause-fails
returns-then-eq-clause-fails g c =
    let none : list_source c.args.name.now ≡ None = ap (named c.args.name.now) (sym c.eq.ensures ∙ c.if-eq.true) in
    subst (λ (o : Option (List ℕ)). IfErr c.read_text.result (FailsToRead (source_name o))) (sym none) c.read_text.ensures.fails

pub returns-clause-fails : goal.returns-clause-fails
returns-clause-fails g c =
    let some : list_source c.args.name.now ≡ Some c.args.name.now = ap (named c.args.name.now) (sym c.eq.ensures ∙ c.if-eq.false) in
    subst (λ (o : Option (List ℕ)). IfErr c.read_text-2.result (FailsToRead (source_name o))) (sym some) c.read_text-2.ensures.fails

pub returns-then-eq-clause-stays : goal.returns-then-eq-clause-stays
returns-then-eq-clause-stays g c =
    let none : list_source c.args.name.now ≡ None = ap (named c.args.name.now) (sym c.eq.ensures ∙ c.if-eq.true) in
    subst (λ (o : Option (List ℕ)). (w : World) → ReadsAtMost o
    (source_world w g.F.Folder.files g.S.Source.seen c.args.folder.now c.args.input.now)
    (source_world w g.F.Folder.files g.S.Source.seen c.args.folder.now c.read_text.new.input)) (sym none) c.read_text.ensures.stays

pub returns-clause-stays : goal.returns-clause-stays
returns-clause-stays g c =
    let some : list_source c.args.name.now ≡ Some c.args.name.now = ap (named c.args.name.now) (sym c.eq.ensures ∙ c.if-eq.false) in
    subst (λ (o : Option (List ℕ)). (w : World) → ReadsAtMost o
    (source_world w g.F.Folder.files g.S.Source.seen c.args.folder.now c.args.input.now)
    (source_world w g.F.Folder.files g.S.Source.seen c.args.folder.now c.read_text-2.new.input)) (sym some) c.read_text-2.ensures.stays

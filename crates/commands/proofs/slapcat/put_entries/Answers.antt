use Rattle.std.proofs.Common.{◌≡◌, Bool, true, refl, sym, ap, subst, ◌∙◌, inl, inr}
use Rattle.std.specs.Prelude.{OnOk, is_none, not, IfErr, false, ◌&&◌, codes}
use Rattle.std.specs.Option.{option_copied}
use Rattle.std.proofs.lemmas.Bool.{and_from}
use Rattle.std.proofs.lemmas.Result.{on_ok_weaker}
use Rattle.commands.specs.Prints.{cat_wanted, IsCatText, IsExcerpt, HasPut, is_whole}
use Rattle.commands.specs.Worlds.{World}
use Rattle.commands.specs.inner.Views.{basis_of}
use Rattle.commands.specs.Queries.{LacksBase, IsRefusedWith, target_of, HasBegun, PrintsPartly}
use Rattle.commands.proofs.Ends.{excerpt_by, text_begun}
use Rattle.commands.proofs.Stopping.{of_faults, refuses_more, refused_prints}
use Rattle.commands.proofs.slapcat.put_entries.Goals as goal
use Rattle.commands.proofs.slapcat.put_entries.Goals.{else-is_none-via-then-is_none+else-is_none-2, else-is_none-via-else-is_none}

pub returns-then-is_none-2-clause-put : goal.returns-then-is_none-2-clause-put
returns-then-is_none-2-clause-put g c = λ w.
    let asked = c.args.asked.now in
    let w₁ : World = record w { files = g.F.Folder.files c.args.folder.now; output = g.O.Sink.written c.args.out.now } in
    let w₂ : World = record w { files = g.F.Folder.files c.put.new.folder; output = g.O.Sink.written c.put.new.out } in
    let no_filter : is_none asked.filter ≡ true = ap not c.is_none.ensures ∙ ap (λ b. not (not b)) c.if-is_none.true in
    let no_base : is_none asked.base ≡ true = ap not c.is_none-then-is_none.ensures ∙ ap (λ b. not (not b)) c.if-is_none-2.true in
    subst (λ (whole : Bool). OnOk c.put.result (HasPut (IsCatText whole asked (basis_of c.args.filter.now c.args.database.now)) asked.db.now (option_copied asked.file) w₁ w₂)) (sym (and_from _ _ no_filter no_base))
    (on_ok_weaker c.put.result (λ put. record { text = _; is = refl; put = put }) (c.put.ensures.put w))

pub returns-then-is_none-2-clause-fault : goal.returns-then-is_none-2-clause-fault
returns-then-is_none-2-clause-fault g c = of_faults c.put.result (λ f fails. inr fails) c.put.ensures.err

pub returns-in-Ok-clause-put : goal.returns-in-Ok-clause-put
returns-in-Ok-clause-put g c = λ w.
    let asked = c.args.asked.now in
    let w₁ : World = record w { files = g.F.Folder.files c.args.folder.now; output = g.O.Sink.written c.args.out.now } in
    let w₂ : World = record w { files = g.F.Folder.files c.put-in-Ok.new.folder; output = g.O.Sink.written c.put-in-Ok.new.out } in
    let not_whole : is_whole asked ≡ false = elim c.else-is_none.branch [
      | else-is_none-via-then-is_none+else-is_none-2 w ↦
          ap (λ b. b && is_none asked.base) (ap not c.is_none.ensures ∙ ap (λ b. not (not b)) w.if-is_none.true) ∙ ap not w.is_none-then-is_none.ensures ∙ ap (λ b. not (not b)) w.if-is_none-2.false
      | else-is_none-via-else-is_none w ↦ ap (λ b. b && is_none asked.base) (ap not c.is_none.ensures ∙ ap (λ b. not (not b)) w.if-is_none.false)
    ] in
    subst (λ (whole : Bool). OnOk c.put-in-Ok.result (HasPut (IsCatText whole asked (basis_of c.args.filter.now c.args.database.now)) asked.db.now (option_copied asked.file) w₁ w₂)) (sym not_whole)
    (on_ok_weaker c.put-in-Ok.result
    (λ put. record { text = _; is = excerpt_by asked c.args.filter.now c.args.database.now c.in-Ok.query c.in-Ok.ensures.base c.in-Ok.ensures.there c.in-Ok.ensures.found; put = put })
    (c.put-in-Ok.ensures.put w))

pub returns-in-Ok-clause-fault : goal.returns-in-Ok-clause-fault
returns-in-Ok-clause-fault g c = of_faults c.put-in-Ok.result (λ f fails. inr fails) c.put-in-Ok.ensures.err

pub returns-in-Ok-clause-partly : goal.returns-in-Ok-clause-partly
returns-in-Ok-clause-partly g c =
    let asked = c.args.asked.now in
    let not_whole : is_whole asked ≡ false = elim c.else-is_none.branch [
      | else-is_none-via-then-is_none+else-is_none-2 w ↦
          ap (λ b. b && is_none asked.base) (ap not c.is_none.ensures ∙ ap (λ b. not (not b)) w.if-is_none.true) ∙ ap not w.is_none-then-is_none.ensures ∙ ap (λ b. not (not b)) w.if-is_none-2.false
      | else-is_none-via-else-is_none w ↦ ap (λ b. b && is_none asked.base) (ap not c.is_none.ensures ∙ ap (λ b. not (not b)) w.if-is_none.false)
    ] in
    subst (λ (whole : Bool). IfErr c.put-in-Ok.result (PrintsPartly (HasBegun (IsCatText whole asked (basis_of c.args.filter.now c.args.database.now)) (option_copied asked.file)) (g.O.Sink.written c.args.out.now) (g.O.Sink.written c.put-in-Ok.new.out))) (sym not_whole)
    (text_begun (IsExcerpt asked (basis_of c.args.filter.now c.args.database.now)) (option_copied asked.file) _
    (excerpt_by asked c.args.filter.now c.args.database.now c.in-Ok.query c.in-Ok.ensures.base c.in-Ok.ensures.there c.in-Ok.ensures.found)
    c.put-in-Ok.result (target_of (option_copied asked.file)) _ _ c.put-in-Ok.ensures.err c.put-in-Ok.ensures.begins)

pub returns-in-Err-clause-fault : goal.returns-in-Err-clause-fault
returns-in-Err-clause-fault g c =
    let asked = c.args.asked.now in
    let d = c.args.database.now in
    inl (refuses_more (codes "slapcat") (LacksBase (cat_wanted asked) d.conf d.entries) (IsRefusedWith (cat_wanted asked) d.conf d.entries) (λ code lacks. inl lacks) c.in-Err.fault c.in-Err.ensures.fault)

pub returns-in-Err-clause-partly : goal.returns-in-Err-clause-partly
returns-in-Err-clause-partly g c =
    let asked = c.args.asked.now in
    let d = c.args.database.now in
    refused_prints (HasBegun (IsCatText (is_whole asked) asked (basis_of c.args.filter.now d)) (option_copied asked.file)) _ _ refl
    (codes "slapcat") (LacksBase (cat_wanted asked) d.conf d.entries) c.in-Err.fault c.in-Err.ensures.fault

use Rattle.std.proofs.Common.{ℕ, List, ◌∷◌, not, refl, sym, ap, ◌∙◌}
use Rattle.std.proofs.lemmas.Slice.Eq.{bytes_eq-Decides}
use Rattle.std.proofs.lemmas.Bool.{not-true, not-false}
use Rattle.std.specs.Str.{bytes_eq}
use Rattle.index_text.specs.IndexTexts.{end_line}
use Rattle.stored_index.proofs.DraftSteps.{fails, end_stops, behind_end}
use Rattle.stored_index.proofs.draft.Draft.read_end.Goals as goal

pub returns-then-ne-clause-err : goal.returns-then-ne-clause-err
returns-then-ne-clause-err c w goes next more =
    let differs = sym (ap (λ (word : List ℕ). not (bytes_eq c.args.line.now word)) c.as_slice.ensures) ∙ sym c.ne.ensures ∙ c.if-ne.true in
    fails c.not_due.result _ (w (c.args.line.now ∷ next ∷ more)) c.not_due.ensures
    (end_stops w c.args.self.now goes c.args.line.now c.requires.place c.requires.row c.requires.due (not-true _ differs) next more)

pub returns-clause-ok : goal.returns-clause-ok
returns-clause-ok c = record {
  given = refl;
  due = λ known. known;
  goes = λ w goes.
      let same = sym (ap (λ (word : List ℕ). not (bytes_eq c.args.line.now word)) c.as_slice.ensures) ∙ sym c.ne.ensures ∙ c.if-ne.false in
      behind_end w c.args.self.now goes c.args.line.now c.close_slot.new.kept
      c.in_ok-close_slot.ensures.slots c.in_ok-close_slot.ensures.rows c.in_ok-close_slot.ensures.word c.requires.place c.requires.row c.requires.due
      ((bytes_eq-Decides c.args.line.now end_line).0 (not-false _ same));
}

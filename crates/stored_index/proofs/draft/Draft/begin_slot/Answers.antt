use Rattle.std.proofs.Common.{◌∷◌, Option, refl, sym, ap, ◌∙◌}
use Rattle.schema.specs.declared.slots.Slot.{Slot}
use Rattle.stored_index.specs.SlotLines.{is_slot}
use Rattle.stored_index.proofs.DraftSteps.{known_due, fails, slot_stops, behind_slot}
use Rattle.stored_index.proofs.draft.Draft.begin_slot.Goals as goal

pub returns-then-not-is_slot-clause-err : goal.returns-then-not-is_slot-clause-err
returns-then-not-is_slot-clause-err c w goes next more =
    fails c.not_due.result _ (w (c.args.line.now ∷ next ∷ more)) c.not_due.ensures
    (slot_stops w c.args.self.now goes c.args.line.now c.requires.place c.requires.row c.args.due c.args.later c.requires.due
    (sym (ap (λ (s : Option Slot). is_slot c.args.due s) c.in_ok-slot_in.ensures) ∙ sym c.is_slot.ensures ∙ c.if-not-is_slot.true) next more)

pub returns-clause-ok : goal.returns-clause-ok
returns-clause-ok c = record {
  given = refl;
  due = λ known. (known_due c.args.self.now.given.conf.now.types c.args.self.now.due.now (c.args.due ∷ c.args.later.now) c.requires.due known).1;
  goes = λ w goes.
      behind_slot w c.args.self.now goes c.args.line.now c.close_slot.new.kept
      c.in_ok-close_slot.ensures.slots c.in_ok-close_slot.ensures.rows c.in_ok-close_slot.ensures.word c.requires.place c.requires.row c.args.due c.args.later c.requires.due
      (sym (ap (λ (s : Option Slot). is_slot c.args.due s) c.in_ok-slot_in.ensures) ∙ sym c.is_slot.ensures ∙ c.if-not-is_slot.false);
}

-- Slots, one after the other, each with its rows.
use Rattle.std.proofs.Common.{◌≡◌, ℕ, Bool, true, cond, List, ◌∷◌, Option, None, Result, Ok, Err, sym, ap, ◌∙◌}
use Rattle.base.specs.Ascii.{line_feed}
use Rattle.memchr.specs.Find.{is_byte}
use Rattle.values.specs.declared.types.AttributeType.{AttributeType}
use Rattle.schema.specs.declared.slots.Slot.{Slot}
use Rattle.index_text.specs.IndexTexts.{Row, Rows}
use Rattle.stored_index.specs.Cuts.{parts}
use Rattle.stored_index.specs.SlotLines.{slot_in, is_slot, fault_at}
use Rattle.stored_index.specs.Reading.{rows_of, slot_rows}
use Rattle.stored_index.specs.declared.fault.IndexFaultKind.{IndexFaultKind}
use Rattle.stored_index.proofs.CutLemmas.{split_cons}

abbrev pub Found : Type 0
Found = Result (List Row × List (List ℕ)) IndexFaultKind

abbrev pub AllRows : Type 0
AllRows = Result Rows IndexFaultKind

abbrev pub all_rows : Rows → AllRows
all_rows rows = Ok rows

module _ (types : List AttributeType) (entries : ℕ) where
  module _ (before : Option Slot) (due : Slot) where
    pub opened : (line rest : List ℕ)
        → slot_rows types entries before due (line ∷ parts line_feed rest) ≡ cond (is_slot due (slot_in types line)) (rows_of None entries (parts line_feed rest)) (Err (fault_at types before line))
    opened line rest =
        let s = split_cons (is_byte line_feed) rest in
        ap (λ (ps : List (List ℕ)). slot_rows types entries before due (line ∷ ps)) s.2
        ∙ sym (ap (λ (ps : List (List ℕ)). cond (is_slot due (slot_in types line)) (rows_of None entries ps) (Err (fault_at types before line))) s.2)

    module _ (text line rest : List ℕ) (slot : Option Slot) (cut : parts line_feed text ≡ line ∷ parts line_feed rest) (is : slot ≡ slot_in types line) where
      at_line : (b : Bool) → is_slot due slot ≡ b → slot_rows types entries before due (parts line_feed text) ≡ cond b (rows_of None entries (parts line_feed rest)) (Err (fault_at types before line))
      at_line b e =
          ap (slot_rows types entries before due) cut ∙ opened line rest
          ∙ ap (λ (t : Bool). cond t (rows_of None entries (parts line_feed rest)) (Err (fault_at types before line))) (sym (ap (is_slot due) is) ∙ e)

      pub is_due : is_slot due slot ≡ true → slot_rows types entries before due (parts line_feed text) ≡ rows_of None entries (parts line_feed rest)
      is_due = at_line true

-- A text that was read is the text of what it was read as.
use Rattle.std.proofs.Common.{◌≡◌, ℕ, ◌==◌, ◌&&◌, true, List, [], ◌∷◌, ◌++◌, map, decimal, Option, Some, None, Result, Ok, Err, codes, refl, sym, ap, ◌∙◌, subst, append_assoc}
use Rattle.std.proofs.lemmas.Bool.{eqb-true, and_parts}
use Rattle.std.proofs.lemmas.Slice.Eq.{bytes_eq-Decides}
use Rattle.std.proofs.lemmas.List.Splits.{join_with_byte-slice_split}
use Rattle.std.specs.List.{flat_map, join_with_byte, AllByRecursion}
use Rattle.std.specs.Str.{bytes_eq}
use Rattle.base.specs.Ascii.{space, line_feed}
use Rattle.base.specs.Answers.{◌>>=◌}
use Rattle.base.proofs.Bound.{bind_ok, same_ok}
use Rattle.hex.specs.Hex.{encode_lower}
use Rattle.values.specs.declared.types.AttributeType.{AttributeType}
use Rattle.schema.specs.Conf.{Conf}
use Rattle.schema.specs.declared.slots.Slot.{Slot}
use Rattle.index_text.specs.IndexTexts.{Row, Rows, ended, header_line, slot_line, end_line, slot_text, index_text}
use Rattle.stored_index.specs.Cuts.{parts}
use Rattle.stored_index.specs.Words.{number_in}
use Rattle.stored_index.specs.SlotLines.{slot_in, is_slot, fault_at}
use Rattle.stored_index.specs.Reading.{HeaderContent, has_header_form, is_stamp, header_with, header_of, header_in, is_current, if_current, current_header, rows_of, is_nothing, end_of, slot_rows, slots_of, lines_in, rows_in}
use Rattle.stored_index.specs.Rows.{AreSlotRows, AreRows, slot_of}
use Rattle.stored_index.specs.declared.fault.IndexFaultKind.{IndexFaultKind}
use Rattle.stored_index.specs.declared.fault.IndexFaultKind.TheVariants.{Header, Stale}
use Rattle.stored_index.proofs.NumberLaws.{test_ok, number_writes}
use Rattle.stored_index.proofs.LineLaws.{row_lines, rows_write}
use Rattle.stored_index.proofs.SlotLaws.{due_writes}
use Rattle.stored_index.proofs.SlotLemmas.{all_rows}

abbrev pub text_of : List (List ℕ) → List ℕ
text_of lines = join_with_byte line_feed lines

abbrev ended_well : Result (Unit {0}) IndexFaultKind
ended_well = Ok tt

-- ---- the last line

nothing_left : (next : List ℕ) (more : List (List ℕ)) → is_nothing next more ≡ true → next ∷ more ≡ [] ∷ []
nothing_left [] [] e = refl
nothing_left [] (m ∷ more) e = absurd cc
nothing_left (b ∷ bs) more e = absurd cc

module _ (types : List AttributeType) where
  end_writes : (before : Option Slot) (lines : List (List ℕ)) (u : Unit {0}) → end_of types before lines ≡ Ok u → text_of lines ≡ ended end_line
  end_writes before [] u e = absurd cc
  end_writes before (line ∷ []) u e = absurd cc
  end_writes before (line ∷ next ∷ more) u e =
      let here = test_ok (bytes_eq line end_line && is_nothing next more) ended_well (fault_at types before line) u e in
      let both = and_parts (bytes_eq line end_line) (is_nothing next more) here.0 in
      ap (λ (ls : List (List ℕ)). text_of (line ∷ ls)) (nothing_left next more both.1) ∙ ap ended ((bytes_eq-Decides line end_line).0 both.0)

  -- ---- slots

  module _ (entries : ℕ) where
    pub slot_writes : (before : Option Slot) (due : Slot) (lines : List (List ℕ)) (f : List Row × List (List ℕ)) → slot_rows types entries before due lines ≡ Ok f
        → AreSlotRows entries f.0 × (text_of lines ≡ slot_text types (due, f.0) ++ text_of f.1)
    slot_writes before due [] f e = absurd cc
    slot_writes before due (line ∷ []) f e = absurd cc
    slot_writes before due (line ∷ next ∷ more) f e =
        let here = test_ok (is_slot due (slot_in types line)) (rows_of None entries (next ∷ more)) (fault_at types before line) f e in
        let rows = rows_write None entries (next ∷ more) f here.1 in (
          rows.good,
          (λ i. due_writes types line due here.0 i ++ line_feed ∷ rows.written i)
              ∙ sym (append_assoc (slot_line types due) (line_feed ∷ []) (row_lines f.0 ++ text_of f.1))
              ∙ sym (append_assoc (ended (slot_line types due)) (row_lines f.0) (text_of f.1)),
        )

    -- what lines were read as
    record WereSlots (due : List Slot) (text : List ℕ) (rows : Rows) : Type 0 where
      pub slots : map slot_of rows ≡ due
      pub each : AllByRecursion (λ s. AreSlotRows entries s.1) rows
      pub written : text ≡ flat_map (slot_text types) rows ++ ended end_line

    slots_write : (before : Option Slot) (due : List Slot) (lines : List (List ℕ)) (rows : Rows) → slots_of types entries before due lines ≡ Ok rows → WereSlots due (text_of lines) rows
    unfolding slots_of
    slots_write before [] lines rows e =
        let end = bind_ok (end_of types before lines) (λ _. all_rows []) rows e in
        subst (WereSlots [] (text_of lines)) (same_ok [] rows end.2) (record { slots = refl; each = tt; written = end_writes before lines end.0 end.1 })
    slots_write before (s ∷ due) lines rows e =
        let one = bind_ok (slot_rows types entries before s lines) (λ found. slots_of types entries (Some s) due found.1 >>= λ rest. all_rows ((s, found.0) ∷ rest)) rows e in
        let rest = bind_ok (slots_of types entries (Some s) due one.0.1) (λ rest. all_rows ((s, one.0.0) ∷ rest)) rows one.2 in
        let here = slot_writes before s lines one.0 one.1 in
        let others = slots_write (Some s) due one.0.1 rest.0 rest.1 in
        subst (WereSlots (s ∷ due) (text_of lines)) (same_ok ((s, one.0.0) ∷ rest.0) rows rest.2) (record {
          slots = ap (λ (ss : List Slot). s ∷ ss) others.slots;
          each = (here.0, others.each);
          written =
              here.1 ∙ ap (λ (t : List ℕ). slot_text types (s, one.0.0) ++ t) others.written
              ∙ sym (append_assoc (slot_text types (s, one.0.0)) (flat_map (slot_text types) rest.0) (ended end_line));
        })

-- ---- the first line

abbrev header : ℕ → List ℕ → HeaderContent
header entries stamp = record { entries = entries; stamp = stamp }

pub header_by : (count stamp : List ℕ) (r : Result ℕ IndexFaultKind) (h : HeaderContent) → number_in count ≡ r → header_with stamp r ≡ Ok h → (number_in count ≡ Ok h.entries) × (stamp ≡ h.stamp)
header_by count stamp (Ok n) h is e =
    (is ∙ ap (λ (h : HeaderContent). Ok h.entries) same, ap (λ (h : HeaderContent). h.stamp) same)
  where
    same : header n stamp ≡ h
    same = same_ok (header n stamp) h e
header_by count stamp (Err fault) h is e = absurd cc

pub words_write : (words : List (List ℕ)) (h : HeaderContent) → header_of words ≡ Ok h → join_with_byte space words ≡ codes "slapindex 1 " ++ decimal h.entries ++ space ∷ h.stamp
words_write [] h e = absurd cc
words_write (name ∷ []) h e = absurd cc
words_write (name ∷ version ∷ []) h e = absurd cc
words_write (name ∷ version ∷ count ∷ []) h e = absurd cc
words_write (name ∷ version ∷ count ∷ stamp ∷ []) h e =
    let here = test_ok (has_header_form name version stamp) (header_with stamp (number_in count)) Header h e in
    let form = and_parts (bytes_eq name (codes "slapindex")) (bytes_eq version (codes "1") && is_stamp stamp) here.0 in
    let form1 = and_parts (bytes_eq version (codes "1")) (is_stamp stamp) form.1 in
    let both = header_by count stamp (number_in count) h refl here.1 in
    let one = (bytes_eq-Decides name (codes "slapindex")).0 form.0 in
    let two = (bytes_eq-Decides version (codes "1")).0 form1.0 in
    let three = (number_writes count h.entries both.0).0 in
    λ i. one i ++ space ∷ (two i ++ space ∷ (three i ++ space ∷ both.1 i))
words_write (name ∷ version ∷ count ∷ stamp ∷ more ∷ others) h e = absurd cc

pub header_writes : (entries : ℕ) (stamp line : List ℕ) (u : Unit {0}) → current_header entries stamp line ≡ Ok u → line ≡ header_line entries stamp
unfolding header_in
header_writes entries stamp line u e =
    let header = bind_ok (header_in line) (if_current entries stamp) u e in
    let here = test_ok (is_current entries stamp header.0) ended_well Stale u header.2 in
    let both = and_parts (header.0.entries == entries) (bytes_eq header.0.stamp (encode_lower stamp)) here.0 in
    sym (join_with_byte-slice_split space line)
    ∙ words_write (parts space line) header.0 header.1
    ∙ (λ i. codes "slapindex 1 " ++ decimal (eqb-true header.0.entries entries both.0 i) ++ space ∷ (bytes_eq-Decides header.0.stamp (encode_lower stamp)).0 both.1 i)

-- ---- the whole

-- what a text was read as
pub record IsTextOf (conf : Conf) (entries : ℕ) (stamp text : List ℕ) (rows : Rows) : Type 0 where
  pub rows_fit : AreRows conf.slots entries rows
  pub written : text ≡ index_text conf.types entries stamp rows

lines_write : (conf : Conf) (entries : ℕ) (stamp : List ℕ) (lines : List (List ℕ)) (rows : Rows) → lines_in conf entries stamp lines ≡ Ok rows → IsTextOf conf entries stamp (text_of lines) rows
unfolding index_text
lines_write conf entries stamp [] rows e = absurd cc
lines_write conf entries stamp (line ∷ []) rows e = absurd cc
lines_write conf entries stamp (line ∷ next ∷ more) rows e =
    let header = bind_ok (current_header entries stamp line) (λ _. slots_of conf.types entries None conf.slots (next ∷ more)) rows e in
    let slots = slots_write conf.types entries None conf.slots (next ∷ more) rows header.2 in
    record {
      rows_fit = record { slots = slots.slots; each = slots.each };
      written =
          (λ i. header_writes entries stamp line header.0 header.1 i ++ line_feed ∷ slots.written i)
          ∙ sym (append_assoc (header_line entries stamp) (line_feed ∷ []) (flat_map (slot_text conf.types) rows ++ ended end_line))
          ∙ sym (append_assoc (ended (header_line entries stamp)) (flat_map (slot_text conf.types) rows) (ended end_line));
    }

pub text_writes : (conf : Conf) (entries : ℕ) (stamp text : List ℕ) (rows : Rows) → rows_in conf entries stamp text ≡ Ok rows → IsTextOf conf entries stamp text rows
unfolding rows_in
text_writes conf entries stamp text rows e =
    subst (λ (t : List ℕ). IsTextOf conf entries stamp t rows) (join_with_byte-slice_split line_feed text) (lines_write conf entries stamp (parts line_feed text) rows e)

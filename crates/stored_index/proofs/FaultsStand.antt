-- A text with a line at fault is refused with that fault.
use Rattle.std.proofs.Common.{◌≡◌, ℕ, ◌<◌, ◌^◌, inl, inr, ◌&&◌, Bool, true, false, cond, List, [], ◌∷◌, ◌++◌, map, Option, Some, None, Result, Ok, Err, refl, sym, ap, ◌∙◌, append_assoc}
use Rattle.std.proofs.lemmas.Bool.{and_parts, false_from_ne_true}
use Rattle.std.proofs.lemmas.Slice.Eq.{bytes_eq-Decides}
use Rattle.std.specs.List.{flat_map, AllByRecursion}
use Rattle.std.specs.List.Sorted.{IsStrictlySortedBy}
use Rattle.std.specs.Str.{bytes_eq}
use Rattle.base.specs.Ascii.{line_feed}
use Rattle.base.specs.Answers.{◌>>=◌}
use Rattle.memchr.specs.Find.{is_byte}
use Rattle.values.specs.declared.types.AttributeType.{AttributeType}
use Rattle.schema.specs.declared.slots.Slot.{Slot}
use Rattle.index_text.specs.IndexTexts.{Row, Rows, ended, slot_line, slot_text, key_line, end_line}
use Rattle.stored_index.specs.Cuts.{parts}
use Rattle.stored_index.specs.Words.{is_empty}
use Rattle.stored_index.specs.KeyLines.{row_in}
use Rattle.stored_index.specs.SlotLines.{slot_in, is_slot, is_passed, fault_by, fault_at}
use Rattle.stored_index.specs.Reading.{ends_rows, rows_of, slot_rows, slots_of}
use Rattle.stored_index.specs.Rows as good
use Rattle.stored_index.specs.Rows.{IsRow, AreSlotRows, key_of}
use Rattle.stored_index.specs.FaultyLines.{IsRowFault, IsKnown, IsSlotFault, Last, key_behind, last_behind, last_slot, IsFaultAt}
use Rattle.stored_index.specs.declared.fault.IndexFaultKind.{IndexFaultKind}
use Rattle.stored_index.specs.declared.fault.IndexFaultKind.TheVariants.{Header, Stale, Form, Order, Rank}
use Rattle.stored_index.proofs.CutLemmas.{split_cons, IsCons}
use Rattle.stored_index.proofs.EndLemmas.{end_opened}
use Rattle.stored_index.proofs.SlotLemmas.{Found}
use Rattle.stored_index.proofs.LineLaws.{found, key_cmp, row_lines, lines_of, rows_opened, lines_before, rows_go_on}
use Rattle.stored_index.proofs.OrderLaws.{AreAbove, sorted_parts}
use Rattle.stored_index.proofs.FaultWords.{not_passed, passed, rows_end, no_rows_end}
use Rattle.stored_index.proofs.RowFaults.{row_stands}
use Rattle.stored_index.proofs.RowLaws.{parts_at, parts_word, row_read}
use Rattle.stored_index.proofs.SlotLaws.{slot_writes, is_by}
use Rattle.stored_index.proofs.SlotLemmas.{AllRows, all_rows, opened, is_due}
use Rattle.stored_index.proofs.TextFaults.{slot_known}
use Rattle.stored_index.specs.inner.Named.{AreNamed}
use Rattle.stored_index.proofs.WrittenLaws.{slot_read, slot_lacks, slot_ends, is_its_own, none_above}

-- ---- rows

module _ (entries : ℕ) (few : entries < 10 ^ 10) where
  -- behind rows, what the lines behind them are read as
  rows_then : (lines : List (List ℕ)) → IsCons lines → (before : Option (List ℕ)) (rows : List Row) → AreAbove before (map key_of rows) → AllByRecursion (IsRow entries) rows → IsStrictlySortedBy key_cmp (map key_of rows)
      → rows_of before entries (map key_line rows ++ lines) ≡ (rows_of (key_behind before rows) entries lines >>= λ f. found (rows ++ f.0) f.1)
  rows_then lines some before [] above fit order = same (rows_of before entries lines)
    where
      same : (r : Found) → r ≡ (r >>= λ f. found f.0 f.1)
      same (Ok f) = refl
      same (Err k) = refl
  rows_then lines some before (row ∷ rows) above fit order =
      let left = map key_line rows ++ lines in
      let here = row_read before entries few row above.0 fit.0 in
      let others = sorted_parts row.0 (map key_of rows) order in
      rows_opened before entries (key_line row) left (lines_before rows lines some)
      ∙ ap (λ (b : Bool). cond b (found [] (key_line row ∷ left)) (row_in before entries (key_line row) >>= λ row. rows_of (Some row.0) entries left >>= λ f. found (row ∷ f.0) f.1)) (rows_go_on before entries (key_line row) row here)
      ∙ ap (λ (r : Result Row IndexFaultKind). r >>= λ row. rows_of (Some row.0) entries left >>= λ f. found (row ∷ f.0) f.1) here
      ∙ ap (λ (r : Found). r >>= λ f. found (row ∷ f.0) f.1) (rows_then lines some (Some row.0) rows others.0 fit.1 others.1)
      ∙ pushed (rows_of (key_behind (Some row.0) rows) entries lines)
    where
      pushed : (r : Found) → ((r >>= λ f. found (rows ++ f.0) f.1) >>= λ f. found (row ∷ f.0) f.1) ≡ (r >>= λ f. found ((row ∷ rows) ++ f.0) f.1)
      pushed (Ok f) = refl
      pushed (Err k) = refl

line_stands : (before : Option (List ℕ)) (entries : ℕ) (line : List ℕ) (lines : List (List ℕ)) (k : IndexFaultKind) → IsCons lines → ends_rows line ≡ false → IsRowFault before entries line k
    → rows_of before entries (line ∷ lines) ≡ Err k
line_stands before entries line lines k some other fault =
    rows_opened before entries line lines some
    ∙ ap (λ (b : Bool). cond b (found [] (line ∷ lines)) (row_in before entries line >>= λ row. rows_of (Some row.0) entries lines >>= λ f. found (row ∷ f.0) f.1)) other
    ∙ ap (λ (r : Result Row IndexFaultKind). r >>= λ row. rows_of (Some row.0) entries lines >>= λ f. found (row ∷ f.0) f.1) (row_stands before entries line k fault)

line_ends : (before : Option (List ℕ)) (entries : ℕ) (line : List ℕ) (lines : List (List ℕ)) → IsCons lines → ends_rows line ≡ true → rows_of before entries (line ∷ lines) ≡ found [] (line ∷ lines)
line_ends before entries line lines some ends =
    rows_opened before entries line lines some
    ∙ ap (λ (b : Bool). cond b (found [] (line ∷ lines)) (row_in before entries line >>= λ row. rows_of (Some row.0) entries lines >>= λ f. found (row ∷ f.0) f.1)) ends

last_stays : (before : Option (List ℕ)) (entries : ℕ) (line : List ℕ) → rows_of before entries (line ∷ []) ≡ found [] (line ∷ [])
unfolding rows_of
last_stays before entries line = refl

-- ---- the line of a slot, or the last one

module _ (types : List AttributeType) (named : AreNamed types) where
  fault_is : (before : Option Slot) (due : List Slot) (line more : List ℕ) (k : IndexFaultKind) → IsSlotFault types before due line more k → fault_at types before line ≡ k
  fault_is before due line more Header f = absurd f
  fault_is before due line more Stale f = absurd f
  fault_is before due line more Rank f = absurd f
  fault_is before due line more Order f =
      ap (fault_by before) (ap (slot_in types) f.2 ∙ slot_read types named f.0 f.1) ∙ ap (λ (b : Bool). cond b Order Form) (passed before f.0 f.3)
  fault_is before due line more Form f = by (slot_in types line) refl
    where
      by : (o : Option Slot) → slot_in types line ≡ o → fault_by before o ≡ Form
      by None is = refl
      by (Some s) is = ap (λ (b : Bool). cond b Order Form) (not_passed before s (f.slots s (slot_known types named line s is) (slot_writes types line s is)).0)

  no_end : (before : Option Slot) (line more : List ℕ) (k : IndexFaultKind) → IsSlotFault types before [] line more k → (bytes_eq line end_line && is_empty more) ≡ false
  no_end before line more Header f = absurd f
  no_end before line more Stale f = absurd f
  no_end before line more Rank f = absurd f
  no_end before line more Order f = ap (λ (l : List ℕ). bytes_eq l end_line && is_empty more) f.2
  no_end before line more Form f = false_from_ne_true (bytes_eq line end_line && is_empty more) (λ e.
      let both = and_parts (bytes_eq line end_line) (is_empty more) e in
      f.end ((bytes_eq-Decides line end_line).0 both.0) refl (nil more both.1))
    where
      nil : (bs : List ℕ) → is_empty bs ≡ true → bs ≡ []
      nil [] e = refl
      nil (b ∷ bs) e = absurd cc

  -- the next slot comes after the last one
  abbrev pub IsOpen : Option Slot → List Slot → Type 0
  IsOpen before [] = Unit {0}
  IsOpen before (d ∷ due) = is_passed before d ≡ false

  no_slot : (before : Option Slot) (d : Slot) (due : List Slot) (line more : List ℕ) (k : IndexFaultKind) → is_passed before d ≡ false → IsSlotFault types before (d ∷ due) line more k → is_slot d (slot_in types line) ≡ false
  no_slot before d due line more Header next f = absurd f
  no_slot before d due line more Stale next f = absurd f
  no_slot before d due line more Rank next f = absurd f
  no_slot before d due line more Order next f = false_from_ne_true (is_slot d (slot_in types line)) (λ e.
      let here = is_by types d (slot_in types line) e in
      let same : f.0 ≡ d = some_is f.0 d (sym (ap (slot_in types) f.2 ∙ slot_read types named f.0 f.1) ∙ here) in
      let bad : true ≡ false = sym (passed before f.0 f.3) ∙ ap (is_passed before) same ∙ next in
      cc)
    where
      some_is : (x y : Slot) → ◌≡◌ {A = Option Slot} (Some x) (Some y) → x ≡ y
      some_is x y e = cc
  no_slot before d due line more Form next f = false_from_ne_true (is_slot d (slot_in types line)) (λ e.
      let here = is_by types d (slot_in types line) e in
      (f.slots d (slot_known types named line d here) (slot_writes types line d here)).1 refl)

  module _ (entries : ℕ) where
    slot_stands : (before : Option Slot) (due : List Slot) (line more : List ℕ) (k : IndexFaultKind) → IsOpen before due → IsSlotFault types before due line more k
        → slots_of types entries before due (line ∷ parts line_feed more) ≡ Err k
    unfolding slots_of
    slot_stands before [] line more k next f =
        ap (λ (r : Result (Unit {0}) IndexFaultKind). r >>= λ _. all_rows [])
        (end_opened types before line more ∙ ap (λ (b : Bool). cond b well (Err (fault_at types before line))) (no_end before line more k f) ∙ ap (λ (k : IndexFaultKind). Err k) (fault_is before [] line more k f))
      where
        well : Result (Unit {0}) IndexFaultKind
        well = Ok tt
    slot_stands before (d ∷ due) line more k next f =
        ap (λ (r : Found). r >>= λ found. slots_of types entries (Some d) due found.1 >>= λ rest. all_rows ((d, found.0) ∷ rest))
        (opened types entries before d line more
        ∙ ap (λ (b : Bool). cond b (rows_of None entries (parts line_feed more)) (Err (fault_at types before line))) (no_slot before d due line more k next f)
        ∙ ap (λ (k : IndexFaultKind). Err k) (fault_is before (d ∷ due) line more k f))

    line_missing : (before : Option Slot) (due : List Slot) (line : List ℕ) → slots_of types entries before due (line ∷ []) ≡ Err Form
    unfolding slots_of
    line_missing before [] line = refl
    line_missing before (d ∷ due) line = refl

    -- ---- slots that are done

    module _ (few : entries < 10 ^ 10) where
      abbrev text_behind : Rows → List ℕ → List ℕ
      text_behind done rest = flat_map (slot_text types) done ++ rest

      -- the slots that are done are known, and each comes after the one before it
      abbrev pub AreOpen : Option Slot → Rows → List Slot → Type 0
      AreOpen before [] due = IsOpen before due
      AreOpen before (s ∷ done) due = IsKnown types s.0 × AreOpen (Some s.0) done due

      cut_is : (s : Slot × List Row) (done : Rows) (rest : List ℕ) → IsKnown types s.0 → parts line_feed (text_behind (s ∷ done) rest) ≡ slot_line types s.0 ∷ parts line_feed (row_lines s.1 ++ text_behind done rest)
      cut_is s done rest known =
          ap (parts line_feed)
          (append_assoc (slot_text types s) (flat_map (slot_text types) done) rest
          ∙ append_assoc (ended (slot_line types s.0)) (row_lines s.1) (text_behind done rest)
          ∙ append_assoc (slot_line types s.0) (line_feed ∷ []) (row_lines s.1 ++ text_behind done rest))
          ∙ parts_at line_feed (slot_line types s.0) (row_lines s.1 ++ text_behind done rest) refl (slot_lacks types named s.0 known)

      -- its line, and then what is behind its rows
      slot_then : (before : Option Slot) (s : Slot × List Row) (done : Rows) (rest : List ℕ) → IsKnown types s.0 → AreSlotRows entries s.1
          → slot_rows types entries before s.0 (parts line_feed (text_behind (s ∷ done) rest)) ≡ (rows_of (key_behind None s.1) entries (parts line_feed (text_behind done rest)) >>= λ f. found (s.1 ++ f.0) f.1)
      slot_then before s done rest known fit =
          is_due types entries before s.0 (text_behind (s ∷ done) rest) (slot_line types s.0) (row_lines s.1 ++ text_behind done rest) (Some s.0) (cut_is s done rest known) (sym (slot_read types named s.0 known)) (is_its_own types named s.0)
          ∙ ap (rows_of None entries) (lines_of entries few s.1 (text_behind done rest) fit.each)
          ∙ rows_then entries few (parts line_feed (text_behind done rest)) (split_cons (is_byte line_feed) (text_behind done rest)) None s.1 (none_above types named (map key_of s.1)) fit.each fit.rising

      abbrev next_slots : Slot → Rows → List Slot → Found → AllRows
      next_slots s done due r = r >>= λ f. slots_of types entries (Some s) (map good.slot_of done ++ due) f.1 >>= λ rest. all_rows ((s, f.0) ∷ rest)

      done_stands : (last : Last) (s : Slot × List Row) (done : Rows) (due : List Slot) (rest : List ℕ) (k : IndexFaultKind) → AreOpen (last_slot last) (s ∷ done) due → AllByRecursion (λ s. AreSlotRows entries s.1) (s ∷ done)
          → IsFaultAt types entries (last_behind last (s ∷ done)) due rest k
          → slots_of types entries (last_slot last) (map good.slot_of (s ∷ done) ++ due) (parts line_feed (text_behind (s ∷ done) rest)) ≡ Err k
      unfolding slots_of
      done_stands last s [] due rest k opens fit fault =
          ap (next_slots s.0 [] due) (slot_then (last_slot last) s [] rest opens.0 fit.0)
          ∙ elim fault [
            | inl short ↦
                ap (λ (ls : List (List ℕ)). next_slots s.0 [] due (rows_of (key_behind None s.1) entries ls >>= λ f. found (s.1 ++ f.0) f.1)) (parts_word line_feed rest short.0)
                ∙ ap (λ (r : Found). next_slots s.0 [] due (r >>= λ f. found (s.1 ++ f.0) f.1)) (last_stays (key_behind None s.1) entries rest)
                ∙ ap (λ (r : AllRows). r >>= λ rest. all_rows ((s.0, s.1 ++ []) ∷ rest)) (line_missing (Some s.0) due rest)
                ∙ ap (λ (k : IndexFaultKind). Err k) (sym short.1)
            | inr at ↦
                ap (λ (ls : List (List ℕ)). next_slots s.0 [] due (rows_of (key_behind None s.1) entries ls >>= λ f. found (s.1 ++ f.0) f.1)) (ap (parts line_feed) at.2 ∙ parts_at line_feed at.0 at.1 refl at.3)
                ∙ elim at.4 [
                  | inl f ↦ ap (λ (r : Found). next_slots s.0 [] due (r >>= λ f. found (s.1 ++ f.0) f.1)) (line_stands (key_behind None s.1) entries at.0 (parts line_feed at.1) k (split_cons (is_byte line_feed) at.1) (no_rows_end at.0 f.0) f.1)
                  | inr f ↦
                      ap (λ (r : Found). next_slots s.0 [] due (r >>= λ f. found (s.1 ++ f.0) f.1)) (line_ends (key_behind None s.1) entries at.0 (parts line_feed at.1) (split_cons (is_byte line_feed) at.1) (rows_end at.0 f.0))
                      ∙ ap (λ (r : AllRows). r >>= λ rest. all_rows ((s.0, s.1 ++ []) ∷ rest)) (slot_stands (Some s.0) due at.0 at.1 k opens.1 f.1)
                ]
          ]
      done_stands last s (t ∷ done) due rest k opens fit fault =
          let lines = parts line_feed (row_lines t.1 ++ text_behind done rest) in
          let cut = cut_is t done rest opens.1.0 in
          ap (next_slots s.0 (t ∷ done) due) (slot_then (last_slot last) s (t ∷ done) rest opens.0 fit.0)
          ∙ ap (λ (r : Found). next_slots s.0 (t ∷ done) due (r >>= λ f. found (s.1 ++ f.0) f.1))
          (ap (rows_of (key_behind None s.1) entries) cut
          ∙ line_ends (key_behind None s.1) entries (slot_line types t.0) lines (split_cons (is_byte line_feed) (row_lines t.1 ++ text_behind done rest)) (slot_ends types named t.0)
          ∙ sym (ap (found []) cut))
          ∙ ap (λ (r : AllRows). r >>= λ rest. all_rows ((s.0, s.1 ++ []) ∷ rest)) (done_stands (Some (s.0, key_behind None s.1)) t done due rest k opens.1 fit.1 fault)

      -- from the first line behind the header on
      pub later_stands : (done : Rows) (due : List Slot) (rest : List ℕ) (k : IndexFaultKind) → AreOpen None done due → AllByRecursion (λ s. AreSlotRows entries s.1) done
          → IsFaultAt types entries (last_behind None done) due rest k → slots_of types entries None (map good.slot_of done ++ due) (parts line_feed (text_behind done rest)) ≡ Err k
      later_stands [] due rest k opens fit fault = elim fault [
        | inl short ↦ ap (slots_of types entries None due) (parts_word line_feed rest short.0) ∙ line_missing None due rest ∙ ap (λ (k : IndexFaultKind). Err k) (sym short.1)
        | inr at ↦ ap (slots_of types entries None due) (ap (parts line_feed) at.2 ∙ parts_at line_feed at.0 at.1 refl at.3) ∙ slot_stands None due at.0 at.1 k opens at.4
      ]
      later_stands (s ∷ done) due rest k opens fit fault = done_stands None s done due rest k opens fit fault

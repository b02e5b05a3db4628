-- An index text, line by line: what the lines to come are read as, before a line and behind it.
use Rattle.std.proofs.Common.{◌≡◌, ℕ, ◌==◌, length, Bool, true, false, cond, ◌&&◌, List, [], ◌∷◌, ◌++◌, Option, Some, None, Result, Ok, Err, refl, sym, ap, ◌∙◌, append_assoc}
use Rattle.std.proofs.lemmas.List.{append-nil}
use Rattle.std.proofs.lemmas.Slice.Eq.{bytes_eq-Decides}
use Rattle.std.specs.Str.{bytes_eq}
use Rattle.base.specs.Answers.{◌>>=◌}
use Rattle.values.specs.declared.types.AttributeType.{AttributeType}
use Rattle.schema.specs.declared.slots.Slot.{Slot}
use Rattle.index_text.specs.IndexTexts.{Row, Rows, end_line}
use Rattle.stored_index.specs.KeyLines.{row_in}
use Rattle.stored_index.specs.SlotLines.{slot_in, is_slot, fault_at}
use Rattle.stored_index.specs.Reading.{is_nothing, ends_rows, rows_of, slots_of}
use Rattle.stored_index.specs.inner.Drafts.{Lines, Reading, Coming, slots_coming, header_coming, nothing_coming, open_slot, joined, no_row}
use Rattle.stored_index.specs.declared.fault.IndexFaultKind.{IndexFaultKind}
use Rattle.stored_index.specs.declared.fault.IndexFaultKind.TheVariants.{Header, Form}

abbrev read : Rows → Reading
read rows = Ok rows

abbrev Found : Type 0
Found = Result (List Row × Lines) IndexFaultKind

abbrev alone : Reading → Coming
alone r = r >>= λ rows. Ok ([], rows)

-- ---- what joins

-- a slot is begun
begun : (done : Rows) (rows : List Row) (before : Option Slot) (due : Slot) (r : Found) (behind : List Row × Lines → Reading)
    → joined done rows before (alone (r >>= λ found. behind found >>= λ rest. Ok ((due, found.0) ∷ rest)))
    ≡ joined (done ++ open_slot before rows) [] (Some due) (r >>= λ found. behind found >>= λ rest. Ok (found.0, rest))
begun done rows before due (Err fault) behind = refl
begun done rows before due (Ok found) behind = with_rest (behind found)
  where
    with_rest : (s : Reading) → joined done rows before (alone (s >>= λ rest. Ok ((due, found.0) ∷ rest)))
        ≡ joined (done ++ open_slot before rows) [] (Some due) (s >>= λ rest. Ok (found.0, rest))
    with_rest (Err fault) = refl
    with_rest (Ok rest) =
        ap (λ (rs : List Row). read (done ++ (open_slot before rs ++ (due, found.0) ∷ rest))) (append-nil rows)
        ∙ sym (ap read (append_assoc done (open_slot before rows) ((due, found.0) ∷ rest)))

-- the last line was read
ended : (done : Rows) (rows : List Row) (before : Option Slot) (b : Bool)
    → joined done rows before (alone ((cond b (Ok tt) (Err Form)) >>= λ (_ : Unit {0}). read []))
    ≡ joined (done ++ open_slot before rows) [] None (cond b (Ok ([], [])) (Err Form))
ended done rows before false = refl
ended done rows before true =
    ap (λ (rs : List Row). read (done ++ (open_slot before rs ++ []))) (append-nil rows)
    ∙ ap (λ (rs : Rows). read (done ++ rs)) (append-nil (open_slot before rows))
    ∙ sym (ap read (append-nil (done ++ open_slot before rows)))

abbrev with_row : Row → Found → Found
with_row row r = r >>= λ found. Ok (row ∷ found.0, found.1)

-- a row was read
put_row : (done : Rows) (rows : List Row) (slot : Slot) (row : Row) (r : Found) (behind : Lines → Reading)
    → joined done rows (Some slot) (with_row row r >>= λ found. behind found.1 >>= λ rest. Ok (found.0, rest))
    ≡ joined done (rows ++ row ∷ []) (Some slot) (r >>= λ found. behind found.1 >>= λ rest. Ok (found.0, rest))
put_row done rows slot row (Err fault) behind = refl
put_row done rows slot row (Ok found) behind = with_rest (behind found.1)
  where
    with_rest : (s : Reading) → joined done rows (Some slot) (s >>= λ rest. Ok (row ∷ found.0, rest)) ≡ joined done (rows ++ row ∷ []) (Some slot) (s >>= λ rest. Ok (found.0, rest))
    with_rest (Err fault) = refl
    with_rest (Ok rest) = sym (ap (λ (rs : List Row). read (done ++ ((slot, rs) ∷ rest))) (append_assoc rows (row ∷ []) found.0))

-- ---- lines

-- a text that ends in a line that no line feed ends
unended : (types : List AttributeType) (entries : ℕ) (before : Option Slot) (key : Option (List ℕ)) (due : List Slot) (line : List ℕ) → slots_coming types entries before key due (line ∷ []) ≡ Err Form
unfolding slots_of rows_of
unended types entries None key [] line = refl
unended types entries None key (d ∷ due) line = refl
unended types entries (Some slot) key [] line = refl
unended types entries (Some slot) key (d ∷ due) line = refl

pub header_unended : (types : List AttributeType) (entries : ℕ) (stamp : List ℕ) (done : Rows) (rows : List Row) (before : Option Slot) (key : Option (List ℕ)) (due : List Slot) (line : List ℕ)
    → joined done rows before (header_coming types entries stamp before key due (line ∷ [])) ≡ Err Header
header_unended types entries stamp done rows before key due line = refl

pub slots_unended : (types : List AttributeType) (entries : ℕ) (done : Rows) (rows : List Row) (before : Option Slot) (key : Option (List ℕ)) (due : List Slot) (line : List ℕ)
    → joined done rows before (slots_coming types entries before key due (line ∷ [])) ≡ Err Form
slots_unended types entries done rows before key due line = ap (joined done rows before) (unended types entries before key due line)

abbrev nothing_by : Bool → Coming
nothing_by b = cond b (Ok ([], [])) (Err Form)

pub bytes_come : (done : Rows) (rows : List Row) (before : Option Slot) (bytes : List ℕ) → (length bytes == 0) ≡ false → joined done rows before (nothing_coming (bytes ∷ [])) ≡ Err Form
bytes_come done rows before [] some = absurd cc
bytes_come done rows before (b ∷ bs) some = refl

module _ (types : List AttributeType) (entries : ℕ) where
  -- the line of a key
  module _ (done : Rows) (rows : List Row) (key : Option (List ℕ)) (due : List Slot) (line next : List ℕ) (more : Lines) where
    abbrev behind_slot : Slot → Found → Reading
    behind_slot slot r = joined done rows (Some slot) (r >>= λ found. slots_of types entries (Some slot) due found.1 >>= λ rs. Ok (found.0, rs))

    abbrev behind_row : Row → Found
    behind_row row = with_row row (rows_of (Some row.0) entries (next ∷ more))

    opened : (slot : Slot) → ends_rows line ≡ false → joined done rows (Some slot) (slots_coming types entries (Some slot) key due (line ∷ next ∷ more)) ≡ behind_slot slot (row_in key entries line >>= behind_row)
    unfolding rows_of
    opened slot other = ap (λ (b : Bool). behind_slot slot (cond b (Ok ([], line ∷ next ∷ more)) (row_in key entries line >>= behind_row))) other

    row_of_slot : (slot : Slot) (row : Row) → ends_rows line ≡ false → row_in key entries line ≡ Ok row
        → joined done rows (Some slot) (slots_coming types entries (Some slot) key due (line ∷ next ∷ more))
        ≡ joined done (rows ++ row ∷ []) (Some slot) (slots_coming types entries (Some slot) (Some row.0) due (next ∷ more))
    row_of_slot slot row other is =
        opened slot other ∙ ap (λ (r : Result Row IndexFaultKind). behind_slot slot (r >>= behind_row)) is
        ∙ put_row done rows slot row (rows_of (Some row.0) entries (next ∷ more)) (slots_of types entries (Some slot) due)

    pub row_read : (before : Option Slot) (row : Row) → no_row before line ≡ false → row_in key entries line ≡ Ok row
        → joined done rows before (slots_coming types entries before key due (line ∷ next ∷ more))
        ≡ joined done (rows ++ row ∷ []) before (slots_coming types entries before (Some row.0) due (next ∷ more))
    row_read None row other is = absurd (cc)
    row_read (Some slot) row other is = row_of_slot slot row other is

    pub row_fails : (before : Option Slot) (fault : IndexFaultKind) → no_row before line ≡ false → row_in key entries line ≡ Err fault
        → joined done rows before (slots_coming types entries before key due (line ∷ next ∷ more)) ≡ Err fault
    row_fails None fault other is = absurd (cc)
    row_fails (Some slot) fault other is = opened slot other ∙ ap (λ (r : Result Row IndexFaultKind). behind_slot slot (r >>= behind_row)) is

  -- another line
  module _ (done : Rows) (rows : List Row) (before : Option Slot) (key : Option (List ℕ)) (line next : List ℕ) (more : Lines) (stops : no_row before line ≡ true) where
    no_more_rows : (slot : Option Slot) (due : List Slot) → no_row slot line ≡ true
        → slots_coming types entries slot key due (line ∷ next ∷ more) ≡ alone (slots_of types entries slot due (line ∷ next ∷ more))
    unfolding rows_of
    no_more_rows None due here = refl
    no_more_rows (Some slot) due here =
        ap (λ (b : Bool). (cond b (Ok ([], line ∷ next ∷ more)) (row_in key entries line >>= λ row. rows_of (Some row.0) entries (next ∷ more) >>= λ found. Ok (row ∷ found.0, found.1)))
        >>= λ (found : List Row × Lines). slots_of types entries (Some slot) due found.1 >>= λ rs. Ok (found.0, rs)) here

    module _ (due : Slot) (later : List Slot) where
      abbrev by_slot : Bool → Reading
      by_slot b = (cond b (rows_of None entries (next ∷ more)) (Err (fault_at types before line))) >>= λ found. slots_of types entries (Some due) later found.1 >>= λ rest. Ok ((due, found.0) ∷ rest)

      at_slot : slots_of types entries before (due ∷ later) (line ∷ next ∷ more) ≡ by_slot (is_slot due (slot_in types line))
      unfolding slots_of
      at_slot = refl

      pub slot_read : is_slot due (slot_in types line) ≡ true
          → joined done rows before (slots_coming types entries before key (due ∷ later) (line ∷ next ∷ more))
          ≡ joined (done ++ open_slot before rows) [] (Some due) (slots_coming types entries (Some due) None later (next ∷ more))
      slot_read is =
          ap (joined done rows before) (no_more_rows before (due ∷ later) stops ∙ ap alone (at_slot ∙ ap by_slot is))
          ∙ begun done rows before due (rows_of None entries (next ∷ more)) (λ found. slots_of types entries (Some due) later found.1)

      pub slot_fails : is_slot due (slot_in types line) ≡ false
          → joined done rows before (slots_coming types entries before key (due ∷ later) (line ∷ next ∷ more)) ≡ Err (fault_at types before line)
      slot_fails is = ap (joined done rows before) (no_more_rows before (due ∷ later) stops ∙ ap alone (at_slot ∙ ap by_slot is))

    abbrev by_end : Bool → Reading
    by_end b = (cond b (Ok tt) (Err (fault_at types before line))) >>= λ (_ : Unit {0}). read []

    at_end : slots_of types entries before [] (line ∷ next ∷ more) ≡ by_end (bytes_eq line end_line && is_nothing next more)
    unfolding slots_of
    at_end = refl

    is_form : (l : List ℕ) → l ≡ end_line → fault_at types before l ≡ Form
    unfolding slot_in
    is_form l e = rw e refl

    pub end_read : line ≡ end_line → joined done rows before (slots_coming types entries before key [] (line ∷ next ∷ more)) ≡ joined (done ++ open_slot before rows) [] None (nothing_coming (next ∷ more))
    end_read is =
        ap (joined done rows before) (no_more_rows before [] stops ∙ ap alone (at_end ∙ ap (λ (b : Bool). by_end (b && is_nothing next more)) ((bytes_eq-Decides line end_line).1 is)))
        ∙ ap (λ (k : IndexFaultKind). joined done rows before (alone ((cond (is_nothing next more) (Ok tt) (Err k)) >>= λ (_ : Unit {0}). read []))) (is_form line is)
        ∙ ended done rows before (is_nothing next more)

    pub end_fails : bytes_eq line end_line ≡ false → joined done rows before (slots_coming types entries before key [] (line ∷ next ∷ more)) ≡ Err (fault_at types before line)
    end_fails is = ap (joined done rows before) (no_more_rows before [] stops ∙ ap alone (at_end ∙ ap (λ (b : Bool). by_end (b && is_nothing next more)) is))

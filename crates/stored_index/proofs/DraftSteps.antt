-- How far an index text was read, before a line and behind it.
use Rattle.std.proofs.Common.{◌≡◌, ℕ, true, false, List, [], ◌∷◌, ◌++◌, Option, Some, None, Ok, Err, Bor, refl, sym, ap, ◌∙◌, subst, append_assoc}
use Rattle.std.proofs.lemmas.List.{append-nil}
use Rattle.std.specs.Str.{bytes_eq}
use Rattle.std.specs.List.{AllByRecursion}
use Rattle.base.specs.Answers.{Fails}
use Rattle.values.specs.declared.types.AttributeType.{AttributeType}
use Rattle.values.specs.Types.{is_known}
use Rattle.schema.specs.declared.slots.Slot.{Slot}
use Rattle.index_text.specs.KeySets as keys
use Rattle.index_text.specs.IndexTexts.{Row, Rows, end_line}
use Rattle.stored_index.specs.FaultyLines.{key_behind}
use Rattle.stored_index.specs.Gives.{kind_of}
use Rattle.stored_index.specs.KeyLines.{row_in}
use Rattle.stored_index.specs.SlotLines.{slot_in, is_slot, fault_at}
use Rattle.stored_index.specs.inner.Drafts.{Lines, Reading, slots_coming, coming, coming_at, joined, open_slot, no_row, closed_rows, rows_behind, Goes, IsFault}
use Rattle.stored_index.specs.inner.Kept.{listed, kept_one, kept_rows, kept_slots, IsLast, IsLineOf}
use Rattle.stored_index.specs.declared.asked.AskedTexts.{AskedTexts}
use Rattle.stored_index.specs.declared.draft.Draft.{Draft}
use Rattle.stored_index.specs.declared.draft.Place.{Place}
use Rattle.stored_index.specs.declared.draft.Place.TheVariants.{Slots, End}
use Rattle.stored_index.specs.declared.fault.LineFault.{LineFault}
use Rattle.stored_index.specs.declared.fault.LineFault.TheVariants as faults
use Rattle.stored_index.specs.declared.fault.IndexFaultKind.{IndexFaultKind}
use Rattle.stored_index.specs.declared.kept.Kept.{Kept}
use Rattle.stored_index.specs.declared.key_lines.KeyLine.{KeyLine}
use Rattle.stored_index.proofs.DraftLemmas.{row_read, row_fails, slot_read, slot_fails, end_read, end_fails}

-- a fault that is the one that is due
pub fails : (e : LineFault) (kind : IndexFaultKind) (said : Reading) → IsFault e kind → said ≡ Err kind → Fails (kind_of e) said
fails (faults.Fault k) kind said is same = same ∙ sym (ap (λ (f : IndexFaultKind). Err f) is)
fails faults.OutOfMemory kind said is same = tt

-- ---- what is kept

module _ (asked : AskedTexts) where
  both_kept : (a b : Rows) → kept_slots asked (a ++ b) ≡ kept_slots asked a ++ kept_slots asked b
  both_kept [] b = refl
  both_kept (s ∷ a) b = ap (λ (kept : List (List keys.Row)). kept_rows asked s.1 ∷ kept) (both_kept a b)

  pub closed : (done : Rows) (before : Option Slot) (rows : List Row) → kept_slots asked (done ++ open_slot before rows) ≡ kept_slots asked done ++ closed_rows before (kept_rows asked rows)
  closed done None rows = both_kept done []
  closed done (Some slot) rows = both_kept done ((slot, rows) ∷ [])

  pub one_more : (rows : List Row) (row : Row) → kept_rows asked (rows ++ row ∷ []) ≡ kept_rows asked rows ++ kept_one asked row
  one_more [] row = append-nil (kept_one asked row)
  one_more (r ∷ rows) row = ap (λ (kept : List keys.Row). kept_one asked r ++ kept) (one_more rows row) ∙ sym (append_assoc (kept_one asked r) (kept_rows asked rows) (kept_one asked row))

  pub none_left : (before : Option Slot) (rows : List Row) (kept : List keys.Row) → kept ≡ kept_rows asked rows → (before ≡ None → rows ≡ []) → rows_behind before kept ≡ []
  none_left None rows kept is alone = is ∙ ap (kept_rows asked) (alone refl)
  none_left (Some slot) rows kept is alone = refl

pub last_key : (before : Option (List ℕ)) (rows : List Row) (row : Row) → key_behind before (rows ++ row ∷ []) ≡ Some row.0
last_key before [] row = refl
last_key before (r ∷ rows) row = last_key (Some r.0) rows row

pub no_word : (before : Option Slot) (rows : List Row) (word : List ℕ) → IsLast (key_behind None rows) word → (before ≡ None → rows ≡ []) → rows_behind before word ≡ []
no_word None rows word last alone = subst (λ (rs : List Row). IsLast (key_behind None rs) word) (alone refl) last
no_word (Some slot) rows word last alone = refl

-- the slots that are due, as they are now
pub known_due : (types : List AttributeType) (due same : List Slot) → due ≡ same → AllByRecursion (λ s. is_known types s.type_id ≡ true) due → AllByRecursion (λ s. is_known types s.type_id ≡ true) same
known_due types due same is known = subst (AllByRecursion (λ (s : Slot). is_known types s.type_id ≡ true)) is known

-- ---- lines

module _ (w : Lines → Reading) (d : Draft) (goes : Goes w d) where
  abbrev key : Option (List ℕ)
  key = key_behind None goes.rows

  at_place : (p : Place) → d.place ≡ p → (next : List ℕ) (more : Lines) → w (next ∷ more) ≡ joined goes.done goes.rows d.before (coming_at p d key (next ∷ more))
  at_place p is next more = goes.goes_on next more ∙ ap (λ (q : Place). joined goes.done goes.rows d.before (coming_at q d key (next ∷ more))) is

  at_slots : d.place ≡ Slots → (due : List Slot) → d.due.now ≡ due → (next : List ℕ) (more : Lines)
      → w (next ∷ more) ≡ joined goes.done goes.rows d.before (slots_coming d.given.conf.now.types d.given.entries d.before key due (next ∷ more))
  at_slots is due due_is next more =
      at_place Slots is next more
      ∙ ap (λ (ds : List Slot). joined goes.done goes.rows d.before (slots_coming d.given.conf.now.types d.given.entries d.before key ds (next ∷ more))) due_is

  module _ (line : List ℕ) where
    -- the line of a key
    pub behind_row : d.place ≡ Slots → no_row d.before line ≡ false → (row : Row) (read : KeyLine) (kept : Kept) → row_in key d.given.entries line ≡ Ok row
        → IsLineOf d.given.asked.now row read → kept.slots.items ≡ d.kept.slots.items → kept.rows.items ≡ d.kept.rows.items ++ listed read.row
        → kept.last_word.items ≡ read.word.now
        → Goes (λ lines. w (line ∷ lines)) (record { given = d.given; place = d.place; due = d.due; before = d.before; kept = kept })
    behind_row is other row read kept good line_is slots rows word = record {
      done = goes.done;
      rows = goes.rows ++ row ∷ [];
      slots_kept = slots ∙ goes.slots_kept;
      rows_kept =
          rows ∙ ap (λ (rs : List keys.Row). rs ++ listed read.row) goes.rows_kept
          ∙ ap (λ (rs : List keys.Row). kept_rows d.given.asked.now goes.rows ++ rs) line_is.kept
          ∙ sym (one_more d.given.asked.now goes.rows row);
      last = subst (λ (k : Option (List ℕ)). IsLast k kept.last_word.items) (sym (last_key None goes.rows row)) (word ∙ line_is.word, line_is.bytes);
      alone = λ none. absurd (let bad : true ≡ false = ap (λ (b : Option Slot). no_row b line) (sym none) ∙ other in cc);
      closed = goes.closed;
      goes_on = λ next more. at_slots is d.due.now refl line (next ∷ more)
          ∙ row_read d.given.conf.now.types d.given.entries goes.done goes.rows key d.due.now line next more d.before row other good
          ∙ ap (λ (k : Option (List ℕ)). joined goes.done (goes.rows ++ row ∷ []) d.before (slots_coming d.given.conf.now.types d.given.entries d.before k d.due.now (next ∷ more))) (sym (last_key None goes.rows row))
          ∙ ap (λ (p : Place). joined goes.done (goes.rows ++ row ∷ []) d.before
          (coming_at p (record { given = d.given; place = d.place; due = d.due; before = d.before; kept = kept }) (key_behind None (goes.rows ++ row ∷ [])) (next ∷ more))) (sym is);
    }

    pub row_stops : d.place ≡ Slots → no_row d.before line ≡ false → (fault : IndexFaultKind) → row_in key d.given.entries line ≡ Err fault → (next : List ℕ) (more : Lines) → w (line ∷ next ∷ more) ≡ Err fault
    row_stops is other fault bad next more =
        at_slots is d.due.now refl line (next ∷ more)
        ∙ row_fails d.given.conf.now.types d.given.entries goes.done goes.rows key d.due.now line next more d.before fault other bad

    -- another line: the slot that was read is closed
    module _ (kept : Kept) (slots : kept.slots.items ≡ d.kept.slots.items ++ closed_rows d.before d.kept.rows.items)
        (rows : kept.rows.items ≡ rows_behind d.before d.kept.rows.items) (word : kept.last_word.items ≡ rows_behind d.before d.kept.last_word.items) where
      behind_close : (place : Place) (due : Bor (List Slot)) (before : Option Slot) → (place ≡ End → before ≡ None)
          → ((next : List ℕ) (more : Lines) → w (line ∷ next ∷ more) ≡ joined (goes.done ++ open_slot d.before goes.rows) [] before
          (coming (record { given = d.given; place = place; due = due; before = before; kept = kept }) None (next ∷ more)))
          → Goes (λ lines. w (line ∷ lines)) (record { given = d.given; place = place; due = due; before = before; kept = kept })
      behind_close place due before ends on = record {
        done = goes.done ++ open_slot d.before goes.rows;
        rows = [];
        slots_kept = slots ∙ (λ i. goes.slots_kept i ++ closed_rows d.before (goes.rows_kept i)) ∙ sym (closed d.given.asked.now goes.done d.before goes.rows);
        rows_kept = rows ∙ none_left d.given.asked.now d.before goes.rows d.kept.rows.items goes.rows_kept goes.alone;
        last = word ∙ no_word d.before goes.rows d.kept.last_word.items goes.last goes.alone;
        alone = λ none. refl;
        closed = ends;
        goes_on = on;
      }

      module _ (is : d.place ≡ Slots) (stops : no_row d.before line ≡ true) where
        pub behind_slot : (due : Slot) (later : Bor (List Slot)) → d.due.now ≡ due ∷ later.now → is_slot due (slot_in d.given.conf.now.types line) ≡ true
            → Goes (λ lines. w (line ∷ lines)) (record { given = d.given; place = d.place; due = later; before = Some due; kept = kept })
        behind_slot due later due_is here =
            behind_close d.place later (Some due) (λ end. absurd (let bad : Slots ≡ End = sym is ∙ end in cc))
            (λ next more. at_slots is (due ∷ later.now) due_is line (next ∷ more)
            ∙ slot_read d.given.conf.now.types d.given.entries goes.done goes.rows d.before key line next more stops due later.now here
            ∙ ap (λ (p : Place). joined (goes.done ++ open_slot d.before goes.rows) [] (Some due)
            (coming_at p (record { given = d.given; place = d.place; due = later; before = Some due; kept = kept }) None (next ∷ more))) (sym is))

        pub behind_end : d.due.now ≡ [] → line ≡ end_line → Goes (λ lines. w (line ∷ lines)) (record { given = d.given; place = End; due = d.due; before = None; kept = kept })
        behind_end due_is here =
            behind_close End d.due None (λ end. refl)
            (λ next more. at_slots is [] due_is line (next ∷ more)
            ∙ end_read d.given.conf.now.types d.given.entries goes.done goes.rows d.before key line next more stops here)

    -- what isn't due
    module _ (is : d.place ≡ Slots) (stops : no_row d.before line ≡ true) where
      pub slot_stops : (due : Slot) (later : Bor (List Slot)) → d.due.now ≡ due ∷ later.now → is_slot due (slot_in d.given.conf.now.types line) ≡ false
          → (next : List ℕ) (more : Lines) → w (line ∷ next ∷ more) ≡ Err (fault_at d.given.conf.now.types d.before line)
      slot_stops due later due_is other next more =
          at_slots is (due ∷ later.now) due_is line (next ∷ more)
          ∙ slot_fails d.given.conf.now.types d.given.entries goes.done goes.rows d.before key line next more stops due later.now other

      pub end_stops : d.due.now ≡ [] → bytes_eq line end_line ≡ false → (next : List ℕ) (more : Lines) → w (line ∷ next ∷ more) ≡ Err (fault_at d.given.conf.now.types d.before line)
      end_stops due_is other next more =
          at_slots is [] due_is line (next ∷ more)
          ∙ end_fails d.given.conf.now.types d.given.entries goes.done goes.rows d.before key line next more stops other

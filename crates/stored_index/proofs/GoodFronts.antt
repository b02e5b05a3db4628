-- Behind lines that were read a text can go on: with the slots that are due and no key in them, and the last line.
use Rattle.std.proofs.Common.{◌≡◌, ℕ, Bool, true, cond, List, [], ◌∷◌, ◌++◌, map, Option, Some, None, Result, Ok, refl, sym, ap, ◌∙◌}
use Rattle.std.specs.List.{AllByRecursion}
use Rattle.base.specs.Answers.{◌>>=◌}
use Rattle.base.specs.Ascii.{line_feed}
use Rattle.memchr.specs.Find.{is_byte}
use Rattle.values.specs.declared.types.AttributeType.{AttributeType}
use Rattle.values.specs.Types.{is_known}
use Rattle.schema.specs.declared.slots.Slot.{Slot}
use Rattle.index_text.specs.IndexTexts.{Rows, header_line, slot_line}
use Rattle.stored_index.specs.Cuts.{parts}
use Rattle.stored_index.specs.FaultyLines.{IsHeader, key_behind}
use Rattle.stored_index.specs.KeyLines.{row_in}
use Rattle.stored_index.specs.Reading.{current_header, rows_of, slots_of}
use Rattle.stored_index.specs.inner.Drafts.{Lines, Reading, Coming, slots_coming, coming_at, joined, Goes, AreKnown}
use Rattle.stored_index.specs.declared.draft.Draft.{Draft}
use Rattle.stored_index.specs.declared.draft.Place.{Place}
use Rattle.stored_index.specs.declared.draft.Place.TheVariants.{Header, Slots, End}
use Rattle.stored_index.specs.declared.fault.IndexFaultKind.{IndexFaultKind}
use Rattle.stored_index.proofs.CutLemmas.{split_cons}
use Rattle.stored_index.proofs.RowLaws.{parts_at}
use Rattle.stored_index.proofs.SlotLemmas.{Found, AllRows, all_rows, is_due}
use Rattle.stored_index.specs.inner.Named.{AreNamed}
use Rattle.stored_index.proofs.WrittenLaws.{EndsRows, tail, tail_parts, tail_ends, slot_read, is_its_own, header_is_read, header_lacks}

-- each slot without a row
abbrev no_rows : List Slot → Rows
no_rows due = map (λ s. (s, [])) due

module _ (types : List AttributeType) (named : AreNamed types) where
  abbrev KnownSlots : List Slot → Type 0
  KnownSlots due = AllByRecursion (λ s. is_known types s.type_id ≡ true) due

  known_rows : (due : List Slot) → KnownSlots due → AllByRecursion (λ s. is_known types s.0.type_id ≡ true) (no_rows due)
  known_rows [] known = tt
  known_rows (s ∷ due) known = (known.0, known_rows due known.1)

  abbrev rest_of : List Slot → List ℕ
  rest_of due = tail types named (no_rows due)

  ends : (due : List Slot) → KnownSlots due → EndsRows types named (parts line_feed (rest_of due))
  ends due known = tail_ends types named (no_rows due) (known_rows due known)

  abbrev found : List (List ℕ) → Found
  found lines = Ok ([], lines)

  abbrev coming_rows : Rows → Coming
  coming_rows rows = Ok ([], rows)

  abbrev one_row : ℕ → Option (List ℕ) → List ℕ → List (List ℕ) → Found
  one_row entries key line more = row_in key entries line >>= λ row. rows_of (Some row.0) entries more >>= λ f. Ok (row ∷ f.0, f.1)

  -- no row comes before a line that ends rows
  no_row : (entries : ℕ) (key : Option (List ℕ)) (lines : List (List ℕ)) → EndsRows types named lines → rows_of key entries lines ≡ found lines
  unfolding rows_of
  no_row entries key lines h =
      let whole : lines ≡ h.line ∷ h.some.0 ∷ h.some.1 = h.is ∙ ap (λ (ls : List (List ℕ)). h.line ∷ ls) h.some.2 in
      ap (rows_of key entries) whole
      ∙ ap (λ (b : Bool). cond b (found (h.line ∷ h.some.0 ∷ h.some.1)) (one_row entries key h.line (h.some.0 ∷ h.some.1))) h.ends
      ∙ ap found (sym whole)

  module _ (entries : ℕ) where
    slots_read : (before : Option Slot) (due : List Slot) → KnownSlots due → slots_of types entries before due (parts line_feed (rest_of due)) ≡ all_rows (no_rows due)
    unfolding slots_of
    slots_read before [] known = refl
    slots_read before (s ∷ due) known =
        ap (λ (r : Found). r >>= λ f. slots_of types entries (Some s) due f.1 >>= λ rest. all_rows ((s, f.0) ∷ rest))
        (is_due types entries before s (rest_of (s ∷ due)) (slot_line types s) (rest_of due) (Some s) (tail_parts types named (s, []) (no_rows due) known.0) (sym (slot_read types named s known.0)) (is_its_own types named s)
        ∙ no_row entries None (parts line_feed (rest_of due)) (ends due known.1))
        ∙ ap (λ (r : AllRows). r >>= λ rest. all_rows ((s, []) ∷ rest)) (slots_read (Some s) due known.1)

    -- what comes is read, whichever slot is open
    comes : (before : Option Slot) (key : Option (List ℕ)) (due : List Slot) → KnownSlots due → slots_coming types entries before key due (parts line_feed (rest_of due)) ≡ Ok ([], no_rows due)
    comes None key due known = ap (λ (r : AllRows). r >>= λ rows. coming_rows rows) (slots_read None due known)
    comes (Some slot) key due known =
        ap (λ (r : Found). r >>= λ f. slots_of types entries (Some slot) due f.1 >>= λ rows. Ok (f.0, rows)) (no_row entries key (parts line_feed (rest_of due)) (ends due known))
        ∙ ap (λ (r : AllRows). r >>= λ rows. coming_rows rows) (slots_read (Some slot) due known)

-- ---- a draft

abbrev all_ok : Rows → Reading
all_ok rows = Ok rows

module _ (w : Lines → Reading) (d : Draft) (goes : Goes w d) (named : AreNamed d.given.conf.now.types) (known : AreKnown d) where
  abbrev types : List AttributeType
  types = d.given.conf.now.types

  abbrev key : Option (List ℕ)
  key = key_behind None goes.rows

  abbrev at : Place → List (List ℕ) → Reading
  at p lines = joined goes.done goes.rows d.before (coming_at p d key lines)

  -- lines of which there is one at least
  pub at_place : (p : Place) → d.place ≡ p → (text : List ℕ) → w (parts line_feed text) ≡ at p (parts line_feed text)
  at_place p is text =
      let s = split_cons (is_byte line_feed) text in
      ap w s.2 ∙ goes.goes_on s.0 s.1 ∙ sym (ap (at d.place) s.2) ∙ ap (λ (q : Place). at q (parts line_feed text)) is

  abbrev Goes_on : Type 0
  Goes_on = (rest : List ℕ) × (rows : Rows) × (w (parts line_feed rest) ≡ Ok rows)

  abbrev joined_with : Coming → Reading
  joined_with r = joined goes.done goes.rows d.before r

  abbrev after_header : Result (Unit {0}) IndexFaultKind → List (List ℕ) → Reading
  after_header r lines = joined_with (r >>= λ _. slots_coming types d.given.entries d.before key d.due.now lines)

  header_goes : (more : List (List ℕ)) → (first : List ℕ) (others : List (List ℕ)) → more ≡ first ∷ others → (line : List ℕ)
      → at Header (line ∷ more) ≡ after_header (current_header d.given.entries d.given.stamp.now line) more
  header_goes more first others is line =
      ap (λ (ls : List (List ℕ)). at Header (line ∷ ls)) is
      ∙ sym (ap (λ (ls : List (List ℕ)). after_header (current_header d.given.entries d.given.stamp.now line) ls) is)

  pub can_go_on : IsHeader d.given.entries d.given.stamp.now → Goes_on
  can_go_on own = by d.place refl
    where
      by : (p : Place) → d.place ≡ p → Goes_on
      by Slots is = (rest_of types named d.due.now, _, at_place Slots is (rest_of types named d.due.now) ∙ ap joined_with (comes types named d.given.entries d.before key d.due.now known))
      by End is = ([], _, at_place End is [])
      by Header is =
          let line = header_line d.given.entries d.given.stamp.now in
          let rest = rest_of types named d.due.now in
          let s = split_cons (is_byte line_feed) rest in (
            line ++ line_feed ∷ rest,
            _,
            at_place Header is (line ++ line_feed ∷ rest)
                ∙ ap (at Header) (parts_at line_feed line rest refl (header_lacks d.given.entries own.short d.given.stamp.now own.size own.bytes))
                ∙ header_goes (parts line_feed rest) s.0 s.1 s.2 line
                ∙ ap (λ (r : Result (Unit {0}) IndexFaultKind). after_header r (parts line_feed rest)) (header_is_read d.given.entries own.short d.given.stamp.now own.size own.bytes)
                ∙ ap joined_with (comes types named d.given.entries d.before key d.due.now known),
          )

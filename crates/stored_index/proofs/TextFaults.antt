-- The first line that is at fault, and what is wrong with it.
use Rattle.std.proofs.Common.{◌≡◌, ℕ, inl, inr, ◌&&◌, Bool, true, false, cond, List, [], ◌∷◌, ◌++◌, map, Option, Some, None, Result, Ok, Err, refl, sym, ap, ◌∙◌, subst, append_assoc}
use Rattle.std.proofs.lemmas.List.{append-nil}
use Rattle.std.proofs.lemmas.List.Elements.{All-nil, All-cons}
use Rattle.std.proofs.lemmas.Slice.Eq.{bytes_eq-Decides}
use Rattle.std.specs.List.{flat_map, AllByRecursion, onto_first}
use Rattle.std.specs.List.Sorted.{IsStrictlySortedBy}
use Rattle.std.specs.Str.{bytes_eq}
use Rattle.base.specs.Ascii.{space, line_feed}
use Rattle.base.specs.Answers.{◌>>=◌}
use Rattle.base.proofs.Bound.{bind_ok, same_ok}
use Rattle.memchr.specs.Find.{is_byte}
use Rattle.values.specs.declared.types.AttributeType.{AttributeType}
use Rattle.schema.specs.declared.slots.Slot.{Slot}
use Rattle.index_text.specs.IndexTexts.{Row, ended, slot_line, slot_text, key_line, end_line}
use Rattle.stored_index.specs.Cuts.{parts}
use Rattle.stored_index.specs.KeyLines.{row_in}
use Rattle.stored_index.specs.SlotLines.{slot_in, is_slot, is_passed, fault_by, fault_at}
use Rattle.stored_index.specs.Reading.{ends_rows, rows_of, is_nothing, end_of, slot_rows, slots_of}
use Rattle.stored_index.specs.Rows.{AreSlotRows, key_of}
use Rattle.stored_index.specs.FaultyLines.{SlotComesAfter, IsRowFault, IsKnown, IsNext, IsSlotFault, Last, key_behind, last_slot, EndsKeys, IsLineFault, IsFaultAt, IsLaterFault}
use Rattle.stored_index.specs.declared.fault.IndexFaultKind.{IndexFaultKind}
use Rattle.stored_index.specs.declared.fault.IndexFaultKind.TheVariants.{Form, Order}
use Rattle.stored_index.proofs.NumberLaws.{Lacks, test_ok}
use Rattle.stored_index.proofs.OrderLaws.{AreAbove, above_more, sorted_more}
use Rattle.stored_index.proofs.RowLaws.{row_writes}
use Rattle.stored_index.proofs.LineLaws.{found, row_lines}
use Rattle.stored_index.proofs.FaultWords.{slot_after, slot_not_after, keys_end, no_keys_end}
use Rattle.stored_index.proofs.RowFaults.{bind_err, is_err, row_fault}
use Rattle.stored_index.proofs.SlotLaws.{some_of, slot_writes, due_writes, words_known}
use Rattle.stored_index.proofs.SlotLemmas.{all_rows}
use Rattle.stored_index.proofs.WholeLaws.{text_of, slot_writes as slot_writes_rows}
use Rattle.stored_index.specs.inner.Named.{AreNamed}
use Rattle.stored_index.proofs.WrittenLaws.{slot_read, is_its_own}

-- ---- lines have no LF

abbrev AllLack : ℕ → List (List ℕ) → Type 0
AllLack c lines = AllByRecursion (Lacks c) lines

more_lack : (c b : ℕ) (t : Bool) (ps : List (List ℕ)) → is_byte c b ≡ t → AllLack c ps → AllLack c (cond t ([] ∷ ps) (onto_first b ps))
more_lack c b true ps is all = (All-nil (λ b. is_byte c b ≡ false), all)
more_lack c b false [] is all = (All-cons (λ b. is_byte c b ≡ false) b [] is (All-nil (λ b. is_byte c b ≡ false)), tt)
more_lack c b false (p ∷ ps) is all = (All-cons (λ b. is_byte c b ≡ false) b p is all.0, all.1)

pub parts_lack : (c : ℕ) (text : List ℕ) → AllLack c (parts c text)
parts_lack c [] = (All-nil (λ b. is_byte c b ≡ false), tt)
parts_lack c (b ∷ bs) = more_lack c b (is_byte c b) (parts c bs) refl (parts_lack c bs)

-- ---- the rows of a slot

record IsRowsFault (before : Option (List ℕ)) (entries : ℕ) (text : List ℕ) (kind : IndexFaultKind) : Type 0 where
  pub rows : List Row
  pub line : List ℕ
  pub rest : List ℕ
  pub is : text ≡ row_lines rows ++ (line ++ line_feed ∷ rest)
  pub good : AreSlotRows entries rows
  pub above : AreAbove before (map key_of rows)
  pub lacks : Lacks line_feed line
  pub other : EndsKeys line → ⊥
  pub fault : IsRowFault (key_behind before rows) entries line kind

rows_fault : (before : Option (List ℕ)) (entries : ℕ) (lines : List (List ℕ)) (kind : IndexFaultKind) → AllLack line_feed lines → rows_of before entries lines ≡ Err kind
    → IsRowsFault before entries (text_of lines) kind
unfolding rows_of IsStrictlySortedBy
rows_fault before entries [] kind lack e = absurd cc
rows_fault before entries (line ∷ []) kind lack e = absurd cc
rows_fault before entries (line ∷ next ∷ more) kind lack e =
    elim (ends_rows line) as (λ b. ends_rows line ≡ b
    → cond b (found [] (line ∷ next ∷ more)) (row_in before entries line >>= λ row. rows_of (Some row.0) entries (next ∷ more) >>= λ r. found (row ∷ r.0) r.1) ≡ Err kind
    → IsRowsFault before entries (text_of (line ∷ next ∷ more)) kind) [
      | true ↦ λ is e. absurd cc
      | false ↦ λ is e.
          elim (bind_err (row_in before entries line) (λ row. rows_of (Some row.0) entries (next ∷ more) >>= λ r. found (row ∷ r.0) r.1) kind e) [
            | inl f ↦ record {
              rows = [];
              line = line;
              rest = text_of (next ∷ more);
              is = refl;
              good = record { each = tt; rising = tt };
              above = tt;
              lacks = lack.0;
              other = no_keys_end line is;
              fault = row_fault before entries line kind f;
            }
            | inr row ↦
                let one = row_writes before entries line row.0 row.1 in
                elim (bind_err (rows_of (Some row.0.0) entries (next ∷ more)) (λ r. found (row.0 ∷ r.0) r.1) kind row.2) [
                  | inl f ↦
                      let rest = rows_fault (Some row.0.0) entries (next ∷ more) kind lack.1 f in
                      record {
                        rows = row.0 ∷ rest.rows;
                        line = rest.line;
                        rest = rest.rest;
                        is =
                            (λ i. one.written i ++ line_feed ∷ rest.is i)
                            ∙ sym (append_assoc (key_line row.0) (line_feed ∷ []) (row_lines rest.rows ++ (rest.line ++ line_feed ∷ rest.rest)))
                            ∙ sym (append_assoc (ended (key_line row.0)) (row_lines rest.rows) (rest.line ++ line_feed ∷ rest.rest));
                        good = record { each = (one.good, rest.good.each); rising = sorted_more row.0.0 (map key_of rest.rows) rest.above rest.good.rising };
                        above = above_more before row.0.0 (map key_of rest.rows) one.above rest.above;
                        lacks = rest.lacks;
                        other = rest.other;
                        fault = rest.fault;
                      }
                  | inr r ↦ absurd (let bad = r.2 in cc)
                ]
          ]
    ] refl e

-- what is left begins with a line that ends rows, if with a line at all
abbrev AreReady : Last → List (List ℕ) → Type 0
AreReady None lines = Unit {0}
AreReady (Some last) [] = Unit {0}
AreReady (Some last) (line ∷ []) = Unit {0}
AreReady (Some last) (line ∷ next ∷ more) = ends_rows line ≡ true

module _ (last : Slot × Option (List ℕ)) (entries : ℕ) where
  abbrev Left : List (List ℕ) → Type 0
  Left lines = AreReady (Some last) lines × AllLack line_feed lines

  rows_left : (before : Option (List ℕ)) (lines : List (List ℕ)) (f : List Row × List (List ℕ)) → AllLack line_feed lines → rows_of before entries lines ≡ Ok f → Left f.1
  unfolding rows_of
  rows_left before [] f lack e = subst (λ (f : List Row × List (List ℕ)). Left f.1) (same_ok ([], []) f e) (tt, tt)
  rows_left before (line ∷ []) f lack e = subst (λ (f : List Row × List (List ℕ)). Left f.1) (same_ok ([], line ∷ []) f e) (tt, lack)
  rows_left before (line ∷ next ∷ more) f lack e =
      elim (ends_rows line) as (λ b. ends_rows line ≡ b
      → cond b (found [] (line ∷ next ∷ more)) (row_in before entries line >>= λ row. rows_of (Some row.0) entries (next ∷ more) >>= λ r. found (row ∷ r.0) r.1) ≡ Ok f → Left f.1) [
        | true ↦ λ is e. subst (λ (f : List Row × List (List ℕ)). Left f.1) (same_ok ([], line ∷ next ∷ more) f e) (is, lack)
        | false ↦ λ is e.
            let row = bind_ok (row_in before entries line) (λ row. rows_of (Some row.0) entries (next ∷ more) >>= λ r. found (row ∷ r.0) r.1) f e in
            let r = bind_ok (rows_of (Some row.0.0) entries (next ∷ more)) (λ r. found (row.0 ∷ r.0) r.1) f row.2 in
            subst (λ (f : List Row × List (List ℕ)). Left f.1) (same_ok (row.0 ∷ r.0.0, r.0.1) f r.2) (rows_left (Some row.0.0) (next ∷ more) r.0 lack.1 r.1)
      ] refl e

-- ---- the lines of slots, and the last one

nothing_is : (next : List ℕ) (more : List (List ℕ)) → text_of (next ∷ more) ≡ [] → is_nothing next more ≡ true
nothing_is [] [] e = refl
nothing_is [] (m ∷ more) e = absurd cc
nothing_is (b ∷ bs) [] e = absurd cc
nothing_is (b ∷ bs) (m ∷ more) e = absurd cc

module _ (types : List AttributeType) (named : AreNamed types) where
  pub slot_known : (line : List ℕ) (s : Slot) → slot_in types line ≡ Some s → IsKnown types s
  unfolding slot_in
  slot_known line s e = words_known types (parts space line) s e

  -- what is wrong with a line that isn't due
  not_due : (before : Option Slot) (due : List Slot) (line more : List ℕ) (o : Option Slot) (kind : IndexFaultKind) → slot_in types line ≡ o → kind ≡ fault_by before o
      → ((s : Slot) → o ≡ Some s → IsNext due s → ⊥) → (line ≡ end_line → due ≡ [] → more ≡ [] → ⊥) → IsSlotFault types before due line more kind
  not_due before due line more None kind is same next end =
      subst (IsSlotFault types before due line more) (sym same) (record {
        slots = λ s known spelled. let bad : none_found ≡ Some s = sym is ∙ ap (slot_in types) spelled ∙ slot_read types named s known in absurd cc;
        end = end;
      })
    where
      none_found : Option Slot
      none_found = None
  not_due before due line more (Some s) kind is same next end =
      elim (is_passed before s) as (λ b. is_passed before s ≡ b → kind ≡ cond b Order Form → IsSlotFault types before due line more kind) [
        | true ↦ λ passed same. subst (IsSlotFault types before due line more) (sym same) (s, slot_known line s is, slot_writes types line s is, slot_not_after before s passed)
        | false ↦ λ passed same. subst (IsSlotFault types before due line more) (sym same) (record {
          slots = λ u known spelled.
              let it : s ≡ u = some_of s u (sym is ∙ ap (slot_in types) spelled ∙ slot_read types named u known) in
              subst (λ (u : Slot). SlotComesAfter before u × (IsNext due u → ⊥)) it (slot_after before s passed, next s refl);
          end = end;
        })
      ] refl same

  module _ (entries : ℕ) where
    line_fault : (last : Last) (due : List Slot) (line next : List ℕ) (more : List (List ℕ)) (kind : IndexFaultKind) → AreReady last (line ∷ next ∷ more)
        → IsSlotFault types (last_slot last) due line (text_of (next ∷ more)) kind → IsLineFault types entries last due line (text_of (next ∷ more)) kind
    line_fault None due line next more kind ready fault = fault
    line_fault (Some last) due line next more kind ready fault = inr (keys_end line ready, fault)

    end_fault : (last : Last) (lines : List (List ℕ)) (kind : IndexFaultKind) → AreReady last lines → AllLack line_feed lines → end_of types (last_slot last) lines ≡ Err kind
        → IsFaultAt types entries last [] (text_of lines) kind
    end_fault last [] kind ready lack e = inl (All-nil (λ b. is_byte line_feed b ≡ false), is_err Form kind e)
    end_fault last (line ∷ []) kind ready lack e = inl (lack.0, is_err Form kind e)
    end_fault last (line ∷ next ∷ more) kind ready lack e =
        elim (bytes_eq line end_line && is_nothing next more) as (λ b. (bytes_eq line end_line && is_nothing next more) ≡ b → cond b well (Err (fault_at types (last_slot last) line)) ≡ Err kind
        → IsFaultAt types entries last [] (text_of (line ∷ next ∷ more)) kind) [
          | true ↦ λ is e. absurd cc
          | false ↦ λ is e. inr (
            line,
            text_of (next ∷ more),
            refl,
            lack.0,
            line_fault last [] line next more kind ready
                (not_due (last_slot last) [] line (text_of (next ∷ more)) (slot_in types line) kind refl (is_err (fault_at types (last_slot last) line) kind e) (λ s same n. n) (λ end none nothing.
                let bad : true ≡ false = sym (both (bytes_eq line end_line) (is_nothing next more) ((bytes_eq-Decides line end_line).1 end) (nothing_is next more nothing)) ∙ is in
                cc)),
          )
        ] refl e
      where
        well : Result (Unit {0}) IndexFaultKind
        well = Ok tt

        both : (a b : Bool) → a ≡ true → b ≡ true → (a && b) ≡ true
        both a b p q = (λ i. p i && b) ∙ q

    same_slot_is : (s u : Slot) → s ≡ u → is_slot u (Some s) ≡ true
    same_slot_is s u e = ap (λ (x : Slot). is_slot u (Some x)) e ∙ is_its_own types named u

    first_fault : (last : Last) (s : Slot) (due : List Slot) (lines : List (List ℕ)) (kind : IndexFaultKind) → AreReady last lines → AllLack line_feed lines
        → slot_rows types entries (last_slot last) s lines ≡ Err kind → IsLaterFault types entries last (s ∷ due) (text_of lines) kind
    first_fault last s due [] kind ready lack e = record { done = []; due = s ∷ due; rest = []; slots_are = refl; good = tt; text_is = refl; fault = inl (All-nil (λ b. is_byte line_feed b ≡ false), is_err Form kind e) }
    first_fault last s due (line ∷ []) kind ready lack e = record { done = []; due = s ∷ due; rest = line; slots_are = refl; good = tt; text_is = refl; fault = inl (lack.0, is_err Form kind e) }
    first_fault last s due (line ∷ next ∷ more) kind ready lack e =
        elim (is_slot s (slot_in types line)) as (λ b. is_slot s (slot_in types line) ≡ b → cond b (rows_of None entries (next ∷ more)) (Err (fault_at types (last_slot last) line)) ≡ Err kind
        → IsLaterFault types entries last (s ∷ due) (text_of (line ∷ next ∷ more)) kind) [
          | true ↦ λ is e.
              let f = rows_fault None entries (next ∷ more) kind lack.1 e in
              let rest = f.line ++ line_feed ∷ f.rest in
              record {
                done = (s, f.rows) ∷ [];
                due = due;
                rest = rest;
                slots_are = refl;
                good = (f.good, tt);
                text_is =
                    (λ i. due_writes types line s is i ++ line_feed ∷ f.is i)
                    ∙ sym (append_assoc (slot_line types s) (line_feed ∷ []) (row_lines f.rows ++ rest))
                    ∙ sym (append_assoc (ended (slot_line types s)) (row_lines f.rows) rest)
                    ∙ ap (λ (t : List ℕ). t ++ rest) (sym (append-nil (slot_text types (s, f.rows))));
                fault = inr (f.line, f.rest, refl, f.lacks, inl (f.other, f.fault));
              }
          | false ↦ λ is e. record {
            done = [];
            due = s ∷ due;
            rest = text_of (line ∷ next ∷ more);
            slots_are = refl;
            good = tt;
            text_is = refl;
            fault = inr (
              line,
              text_of (next ∷ more),
              refl,
              lack.0,
              line_fault last (s ∷ due) line next more kind ready
                  (not_due (last_slot last) (s ∷ due) line (text_of (next ∷ more)) (slot_in types line) kind refl (is_err (fault_at types (last_slot last) line) kind e)
                  (λ u found same. let bad : true ≡ false = sym (ap (is_slot s) found ∙ same_slot_is u s same) ∙ is in cc) (λ end none nothing. cc)),
            );
          }
        ] refl e

    slot_left : (before : Option Slot) (s : Slot) (lines : List (List ℕ)) (f : List Row × List (List ℕ)) → AllLack line_feed lines → slot_rows types entries before s lines ≡ Ok f
        → Left (s, key_behind None f.0) entries f.1
    slot_left before s [] f lack e = absurd cc
    slot_left before s (line ∷ []) f lack e = absurd cc
    slot_left before s (line ∷ next ∷ more) f lack e = rows_left (s, key_behind None f.0) entries None (next ∷ more) f lack.1 (test_ok (is_slot s (slot_in types line)) (rows_of None entries (next ∷ more)) (fault_at types before line) f e).1

    pub slots_fault : (last : Last) (due : List Slot) (lines : List (List ℕ)) (kind : IndexFaultKind) → AreReady last lines → AllLack line_feed lines
        → slots_of types entries (last_slot last) due lines ≡ Err kind → IsLaterFault types entries last due (text_of lines) kind
    unfolding slots_of
    slots_fault last [] lines kind ready lack e =
        elim (bind_err (end_of types (last_slot last) lines) (λ _. all_rows []) kind e) [
          | inl f ↦ record { done = []; due = []; rest = text_of lines; slots_are = refl; good = tt; text_is = refl; fault = end_fault last lines kind ready lack f }
          | inr f ↦ absurd (let bad = f.2 in cc)
        ]
    slots_fault last (s ∷ due) lines kind ready lack e =
        elim (bind_err (slot_rows types entries (last_slot last) s lines) (λ found. slots_of types entries (Some s) due found.1 >>= λ rest. all_rows ((s, found.0) ∷ rest)) kind e) [
          | inl f ↦ first_fault last s due lines kind ready lack f
          | inr one ↦ elim (bind_err (slots_of types entries (Some s) due one.0.1) (λ rest. all_rows ((s, one.0.0) ∷ rest)) kind one.2) [
            | inl f ↦
                let here = slot_writes_rows types entries (last_slot last) s lines one.0 one.1 in
                let left = slot_left (last_slot last) s lines one.0 lack one.1 in
                let rest = slots_fault (Some (s, key_behind None one.0.0)) due one.0.1 kind left.0 left.1 f in
                record {
                  done = (s, one.0.0) ∷ rest.done;
                  due = rest.due;
                  rest = rest.rest;
                  slots_are = ap (λ (ss : List Slot). s ∷ ss) rest.slots_are;
                  good = (here.0, rest.good);
                  text_is =
                      here.1 ∙ ap (λ (t : List ℕ). slot_text types (s, one.0.0) ++ t) rest.text_is
                      ∙ sym (append_assoc (slot_text types (s, one.0.0)) (flat_map (slot_text types) rest.done) rest.rest);
                  fault = rest.fault;
                }
            | inr f ↦ absurd (let bad = f.2 in cc)
          ]
        ]

-- A text that was written is read as what was written.
use Rattle.std.proofs.Common.{◌≡◌, ℕ, ◌+◌, ◌-◌, ◌/◌, ◌%◌, ◌<◌, ◌^◌, ◌==◌, ◌&&◌, ◌||◌, Bool, true, false, cond, not, List, [], ◌∷◌, ◌++◌, length, slice_index, map, decimal, Option, Some, None, Result, Ok, Err, codes, refl, sym, ap, ◌∙◌, subst, arith, append_assoc}
use Rattle.std.proofs.lemmas.Bool.{eqb-true, and_parts, false_from_ne_true, eq-eqb}
use Rattle.std.proofs.lemmas.Cmp.{nat_list_cmp_total}
use Rattle.std.proofs.lemmas.List.Elements.{All-nil, All-cons}
use Rattle.std.proofs.lemmas.Map.Text.{is_eq-slice_cmp}
use Rattle.std.specs.Cmp.{tied_itself}
use Rattle.std.specs.List.{flat_map, list_all, AllByRecursion}
use Rattle.std.specs.Ordering.{is_eq}
use Rattle.std.specs.Str.{bytes_eq}
use Rattle.std.specs.Char.{is_ascii_digit}
use Rattle.base.specs.Ascii.{space, line_feed}
use Rattle.base.specs.Answers.{◌>>=◌}
use Rattle.dn.specs.Names.{is_type_byte}
use Rattle.hex.specs.Hex.{lower_digits, encode_with, encode_lower}
use Rattle.hex.proofs.HexLemmas.{length-encode_with}
use Rattle.memchr.specs.Find.{is_byte}
use Rattle.values.specs.declared.types.AttributeType.{AttributeType}
use Rattle.values.specs.Types.{name_of, is_known}
use Rattle.schema.specs.Conf.{Conf}
use Rattle.schema.specs.declared.slots.IndexKind.{IndexKind}
use Rattle.schema.specs.declared.slots.IndexKind.TheVariants.{Equality, Presence, Substrings}
use Rattle.schema.specs.declared.slots.Slot.{Slot}
use Rattle.schema.proofs.SlotOrder.{slots_total}
use Rattle.index_text.specs.IndexTexts.{Row, Rows, ended, kind_name, header_line, slot_line, key_line, end_line, slot_text, index_text}
use Rattle.stored_index.specs.Cuts.{parts}
use Rattle.stored_index.specs.Words.{is_hex_byte, is_small_hex_letter, hex_digit, number_in}
use Rattle.stored_index.specs.SlotLines.{kind_named, if_printed, slot_with, slot_of, slot_in, is_slot}
use Rattle.stored_index.specs.Reading.{HeaderContent, is_stamp, header_with, header_of, header_in, if_current, current_header, ends_rows, rows_of, slot_rows, slots_of, rows_in}
use Rattle.stored_index.specs.Rows as good
use Rattle.stored_index.specs.inner.Named.{AreNamed}
use Rattle.stored_index.specs.Rows.{IsByte, AreSlotRows, AreRows}
use Rattle.stored_index.specs.declared.fault.IndexFaultKind.{IndexFaultKind}
use Rattle.stored_index.specs.declared.fault.IndexFaultKind.TheVariants.{Form, Header, Stale}
use Rattle.stored_index.proofs.CutLemmas.{split_cons, IsCons}
use Rattle.stored_index.proofs.SlotLemmas.{Found}
use Rattle.stored_index.proofs.SlotLemmas.{AllRows, all_rows, is_due}
use Rattle.stored_index.proofs.WholeLemmas.{behind_header}
use Rattle.stored_index.proofs.NumberLaws.{Lacks, number_read, decimal_lacks}
use Rattle.stored_index.proofs.KeyLaws.{digit_read, hex_lacks}
use Rattle.stored_index.proofs.OrderLaws.{AreAbove}
use Rattle.stored_index.proofs.RowLaws.{parts_word, parts_at}
use Rattle.stored_index.proofs.LineLaws.{row_lines, lacks_append, lacks_cons, lines_of, rows_read}

pub itself : (x : List ℕ) → bytes_eq x x ≡ true
itself x = sym (is_eq-slice_cmp x x) ∙ ap is_eq (tied_itself nat_list_cmp_total x)

-- bytes that pass a test have none that fails it
lacks_by_test : (c : ℕ) (p : ℕ → Bool) → p c ≡ false → (xs : List ℕ) → list_all p xs ≡ true → Lacks c xs
lacks_by_test c p other [] all = All-nil (λ b. is_byte c b ≡ false)
lacks_by_test c p other (x ∷ xs) all =
    let both = and_parts (p x) (list_all p xs) all in
    let here : is_byte c x ≡ false = false_from_ne_true (is_byte c x) (λ e. let bad : true ≡ false = sym both.0 ∙ ap p (eqb-true x c e) ∙ other in absurd cc) in
    All-cons (λ b. is_byte c b ≡ false) x xs here (lacks_by_test c p other xs both.1)

abbrev other_than : ℕ → ℕ → Bool
other_than c b = not (b == c)

-- ---- slots

kind_read : (kind : IndexKind) → kind_named (kind_name kind) ≡ Some kind
kind_read Equality = refl
kind_read Presence = refl
kind_read Substrings = refl

kind_parts : (kind : IndexKind) → parts space (kind_name kind) ≡ kind_name kind ∷ []
kind_parts Equality = refl
kind_parts Presence = refl
kind_parts Substrings = refl

kind_lacks : (kind : IndexKind) → Lacks line_feed (kind_name kind)
kind_lacks Equality = lacks_by_test line_feed (other_than line_feed) refl (kind_name Equality) refl
kind_lacks Presence = lacks_by_test line_feed (other_than line_feed) refl (kind_name Presence) refl
kind_lacks Substrings = lacks_by_test line_feed (other_than line_feed) refl (kind_name Substrings) refl

abbrev pub IsKnown : List AttributeType → Slot → Type 0
IsKnown types s = is_known types s.type_id ≡ true

module _ (types : List AttributeType) (named : AreNamed types) where
  name_lacks : (c : ℕ) → is_type_byte c ≡ false → (s : Slot) → IsKnown types s → Lacks c (name_of types s.type_id)
  name_lacks c other s known =
      let name = name_of types s.type_id in
      lacks_by_test c is_type_byte other name (and_parts (not (length name == 0)) (list_all is_type_byte name) (named.plain s.type_id known)).1

  slot_parts : (s : Slot) → IsKnown types s → parts space (slot_line types s) ≡ codes "slot" ∷ name_of types s.type_id ∷ kind_name s.kind ∷ []
  slot_parts s known =
      ap (λ (ws : List (List ℕ)). codes "slot" ∷ ws)
      (parts_at space (name_of types s.type_id) (kind_name s.kind) refl (name_lacks space refl s known) ∙ ap (λ (ws : List (List ℕ)). name_of types s.type_id ∷ ws) (kind_parts s.kind))

  pub slot_read : (s : Slot) → IsKnown types s → slot_in types (slot_line types s) ≡ Some s
  unfolding slot_in
  slot_read s known =
      let name = name_of types s.type_id in
      ap (slot_of types) (slot_parts s known)
      ∙ ap (λ (o : Option ℕ). slot_with (if_printed types name o) (kind_named (kind_name s.kind))) (named.found s.type_id known)
      ∙ ap (λ (b : Bool). slot_with (cond b (Some s.type_id) None) (kind_named (kind_name s.kind))) (itself name)
      ∙ ap (slot_with (Some s.type_id)) (kind_read s.kind)

  pub is_its_own : (s : Slot) → is_slot s (Some s) ≡ true
  is_its_own s = ap is_eq (tied_itself slots_total s)

  pub slot_lacks : (s : Slot) → IsKnown types s → Lacks line_feed (slot_line types s)
  slot_lacks s known =
      lacks_append line_feed (codes "slot ") (name_of types s.type_id ++ space ∷ kind_name s.kind) (lacks_by_test line_feed (other_than line_feed) refl (codes "slot ") refl)
      (lacks_append line_feed (name_of types s.type_id) (space ∷ kind_name s.kind) (name_lacks line_feed refl s known) (lacks_cons line_feed space (kind_name s.kind) refl (kind_lacks s.kind)))

  -- ---- slots with their rows, and the end

  abbrev pub tail : Rows → List ℕ
  tail rows = flat_map (slot_text types) rows ++ ended end_line

  tail_is : (s : Slot × List Row) (rows : Rows) → tail (s ∷ rows) ≡ slot_line types s.0 ++ line_feed ∷ (row_lines s.1 ++ tail rows)
  tail_is s rows =
      append_assoc (slot_text types s) (flat_map (slot_text types) rows) (ended end_line)
      ∙ append_assoc (ended (slot_line types s.0)) (row_lines s.1) (tail rows)
      ∙ append_assoc (slot_line types s.0) (line_feed ∷ []) (row_lines s.1 ++ tail rows)

  pub tail_parts : (s : Slot × List Row) (rows : Rows) → IsKnown types s.0 → parts line_feed (tail (s ∷ rows)) ≡ slot_line types s.0 ∷ parts line_feed (row_lines s.1 ++ tail rows)
  tail_parts s rows known = ap (parts line_feed) (tail_is s rows) ∙ parts_at line_feed (slot_line types s.0) (row_lines s.1 ++ tail rows) refl (slot_lacks s.0 known)

  -- the first line ends rows, and is no last part
  pub record EndsRows (lines : List (List ℕ)) : Type 0 where
    pub line : List ℕ
    pub others : List (List ℕ)
    pub is : lines ≡ line ∷ others
    pub some : IsCons others
    pub ends : ends_rows line ≡ true

  pub slot_ends : (s : Slot) → ends_rows (slot_line types s) ≡ true
  slot_ends s = refl

  pub tail_ends : (rows : Rows) → AllByRecursion (λ s. IsKnown types s.0) rows → EndsRows (parts line_feed (tail rows))
  tail_ends [] known = record { line = end_line; others = [] ∷ []; is = refl; some = ([], [], refl); ends = refl }
  tail_ends (s ∷ rows) known = record {
    line = slot_line types s.0;
    others = parts line_feed (row_lines s.1 ++ tail rows);
    is = tail_parts s rows known.0;
    some = split_cons (is_byte line_feed) (row_lines s.1 ++ tail rows);
    ends = slot_ends s.0;
  }

  pub none_above : (keys : List (List ℕ)) → AreAbove None keys
  none_above [] = tt
  none_above (key ∷ keys) = (refl, none_above keys)

  abbrev found : List Row → List (List ℕ) → Found
  found rows lines = Ok (rows, lines)

  module _ (entries : ℕ) (few : entries < 10 ^ 10) where
    rows_are_read : (s : Slot × List Row) (rows : Rows) → AreSlotRows entries s.1 → AllByRecursion (λ s. IsKnown types s.0) rows
        → rows_of None entries (parts line_feed (row_lines s.1 ++ tail rows)) ≡ found s.1 (parts line_feed (tail rows))
    rows_are_read s rows fit known =
        let ends = tail_ends rows known in
        ap (rows_of None entries) (lines_of entries few s.1 (tail rows) fit.each ∙ ap (λ (ls : List (List ℕ)). map key_line s.1 ++ ls) ends.is)
        ∙ rows_read entries few ends.line ends.others ends.some ends.ends None s.1 (none_above (map good.key_of s.1)) fit.each fit.rising
        ∙ sym (ap (found s.1) ends.is)

    slot_is_read : (before : Option Slot) (s : Slot × List Row) (rows : Rows) → IsKnown types s.0 → AreSlotRows entries s.1 → AllByRecursion (λ s. IsKnown types s.0) rows
        → slot_rows types entries before s.0 (parts line_feed (tail (s ∷ rows))) ≡ found s.1 (parts line_feed (tail rows))
    slot_is_read before s rows here fit known =
        is_due types entries before s.0 (tail (s ∷ rows)) (slot_line types s.0) (row_lines s.1 ++ tail rows) (Some s.0) (tail_parts s rows here) (sym (slot_read s.0 here)) (is_its_own s.0)
        ∙ rows_are_read s rows fit known

    slots_are_read : (before : Option Slot) (rows : Rows) → AllByRecursion (λ s. IsKnown types s.0) rows → AllByRecursion (λ s. AreSlotRows entries s.1) rows
        → slots_of types entries before (map good.slot_of rows) (parts line_feed (tail rows)) ≡ all_rows rows
    unfolding slots_of
    slots_are_read before [] known fit = refl
    slots_are_read before (s ∷ rows) known fit =
        ap (λ (r : Found). r >>= λ f. slots_of types entries (Some s.0) (map good.slot_of rows) f.1 >>= λ rest. all_rows ((s.0, f.0) ∷ rest)) (slot_is_read before s rows known.0 fit.0 known.1)
        ∙ ap (λ (r : AllRows). r >>= λ rest. all_rows ((s.0, s.1) ∷ rest)) (slots_are_read (Some s.0) rows known.1 fit.1)

-- ---- the first line

hex_by : (a b : Bool) (x y d : ℕ) → ◌≡◌ {A = Result ℕ IndexFaultKind} (cond a (Ok x) (cond b (Ok y) (Err Form))) (Ok d) → (a || b) ≡ true
hex_by true b x y d e = refl
hex_by false true x y d e = refl
hex_by false false x y d e = absurd cc

digit_is_hex : (c d : ℕ) → hex_digit c ≡ Ok d → is_hex_byte c ≡ true
digit_is_hex c d e = hex_by (is_ascii_digit c) (is_small_hex_letter c) (c - 48) (c - 97 + 10) d e

hex_bytes : (bs : List ℕ) → AllByRecursion IsByte bs → list_all is_hex_byte (encode_lower bs) ≡ true
unfolding encode_with
hex_bytes [] all = refl
hex_bytes (b ∷ bs) all =
    let small : b < 256 = all.0 in
    let high = slice_index lower_digits (b / 16) in
    let low = slice_index lower_digits (b % 16) in
    ap (λ (t : Bool). t && (is_hex_byte low && list_all is_hex_byte (encode_lower bs))) (digit_is_hex high (b / 16) (digit_read (b / 16) (omega arith)))
    ∙ ap (λ (t : Bool). t && list_all is_hex_byte (encode_lower bs)) (digit_is_hex low (b % 16) (digit_read (b % 16) (omega arith)))
    ∙ hex_bytes bs all.1

module _ (entries : ℕ) (few : entries < 10 ^ 10) (stamp : List ℕ) (size : length stamp ≡ 32) (bytes : AllByRecursion IsByte stamp) where
  abbrev digits : List ℕ
  digits = encode_lower stamp

  abbrev header : ℕ → Result HeaderContent IndexFaultKind
  header count = Ok (record { entries = count; stamp = digits })

  stamp_is : is_stamp digits ≡ true
  stamp_is =
      let count : length digits ≡ 64 = omega (arith, length-encode_with lower_digits stamp, size) in
      ap (λ (t : Bool). t && list_all is_hex_byte digits) (eq-eqb (length digits) 64 count) ∙ hex_bytes stamp bytes

  header_parts : parts space (header_line entries stamp) ≡ codes "slapindex" ∷ codes "1" ∷ decimal entries ∷ digits ∷ []
  header_parts =
      ap (λ (ws : List (List ℕ)). codes "slapindex" ∷ codes "1" ∷ ws)
      (parts_at space (decimal entries) digits refl (decimal_lacks space entries refl (omega arith)) ∙ ap (λ (ws : List (List ℕ)). decimal entries ∷ ws) (parts_word space digits (hex_lacks space stamp refl bytes)))

  abbrev ended_well : Result (Unit {0}) IndexFaultKind
  ended_well = Ok tt

  pub header_is_told : header_in (header_line entries stamp) ≡ header entries
  unfolding header_in
  header_is_told =
      ap header_of header_parts
      ∙ ap (λ (t : Bool). cond t (header_with digits (number_in (decimal entries))) (Err Header)) stamp_is
      ∙ ap (header_with digits) (number_read entries few)

  pub header_is_read : current_header entries stamp (header_line entries stamp) ≡ Ok tt
  header_is_read =
      ap (λ (r : Result HeaderContent IndexFaultKind). r >>= if_current entries stamp) header_is_told
      ∙ ap (λ (t : Bool). cond (t && bytes_eq digits digits) ended_well (Err Stale)) (eq-eqb entries entries refl)
      ∙ ap (λ (t : Bool). cond t ended_well (Err Stale)) (itself digits)

  pub header_lacks : Lacks line_feed (header_line entries stamp)
  header_lacks =
      lacks_append line_feed (codes "slapindex 1 ") (decimal entries ++ space ∷ digits) (lacks_by_test line_feed (other_than line_feed) refl (codes "slapindex 1 ") refl)
      (lacks_append line_feed (decimal entries) (space ∷ digits) (decimal_lacks line_feed entries refl (omega arith)) (lacks_cons line_feed space digits refl (hex_lacks line_feed stamp refl bytes)))

  known_rows : (types : List AttributeType) (rows : Rows) → AllByRecursion (IsKnown types) (map good.slot_of rows) → AllByRecursion (λ s. IsKnown types s.0) rows
  known_rows types [] known = tt
  known_rows types (s ∷ rows) known = (known.0, known_rows types rows known.1)

  pub text_is_read : (conf : Conf) (rows : Rows) → AreNamed conf.types → AllByRecursion (λ s. is_known conf.types s.type_id ≡ true) conf.slots → AreRows conf.slots entries rows
      → rows_in conf entries stamp (index_text conf.types entries stamp rows) ≡ Ok rows
  unfolding index_text
  text_is_read conf rows named known fit =
      let rest = tail conf.types named rows in
      let line = header_line entries stamp in
      let there = known_rows conf.types rows (subst (AllByRecursion (IsKnown conf.types)) (sym fit.slots) known) in
      behind_header conf entries stamp (index_text conf.types entries stamp rows) line rest
      (ap (parts line_feed) (append_assoc (ended line) (flat_map (slot_text conf.types) rows) (ended end_line) ∙ append_assoc line (line_feed ∷ []) rest) ∙ parts_at line_feed line rest refl header_lacks) header_is_read
      ∙ ap (λ (ss : List Slot). slots_of conf.types entries None ss (parts line_feed rest)) (sym fit.slots)
      ∙ slots_are_read conf.types named entries few None rows there fit.each

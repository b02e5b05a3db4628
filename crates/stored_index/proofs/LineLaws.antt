-- Lines as they are written, and as they are read.
use Rattle.std.proofs.Common.{◌≡◌, ℕ, ◌<◌, ◌^◌, ◌||◌, Bool, true, false, cond, List, [], ◌∷◌, ◌++◌, take, drop, map, decimal, Option, Some, Result, Ok, Err, codes, nat_eq, refl, sym, ap, ◌∙◌, subst, arith, append_assoc}
use Rattle.std.proofs.lemmas.List.{take-append-drop}
use Rattle.std.proofs.lemmas.List.Elements.{All-nil, All-cons, All-append}
use Rattle.std.proofs.lemmas.Slice.Eq.{bytes_eq-Decides}
use Rattle.std.specs.List.{flat_map, AllByRecursion, join_with_byte, starts_with}
use Rattle.std.specs.List.Sorted.{IsStrictlySortedBy}
use Rattle.std.specs.Cmp.Lexicographic.{slice_cmp}
use Rattle.std.specs.declared.cmp.Ordering.{Ordering}
use Rattle.std.specs.Ordering.{nat_cmp}
use Rattle.std.specs.Str.{bytes_eq}
use Rattle.base.specs.Ascii.{space, line_feed}
use Rattle.base.specs.Answers.{◌>>=◌}
use Rattle.base.proofs.Bound.{bind_ok, same_ok}
use Rattle.memchr.specs.Find.{is_byte}
use Rattle.index_text.specs.IndexTexts.{Row, key_text, rank_text, key_line, ended, end_line}
use Rattle.stored_index.specs.Cuts.{parts}
use Rattle.stored_index.specs.KeyLines.{row_of, row_in}
use Rattle.stored_index.specs.Reading.{ends_rows, rows_of}
use Rattle.stored_index.specs.Rows.{IsRow, AreSlotRows, key_of}
use Rattle.stored_index.specs.Words.{key_in, bytes_in}
use Rattle.stored_index.specs.declared.fault.IndexFaultKind.{IndexFaultKind}
use Rattle.stored_index.specs.declared.fault.IndexFaultKind.TheVariants.{Form}
use Rattle.stored_index.proofs.CutLemmas.{split_cons, IsCons}
use Rattle.stored_index.proofs.SlotLemmas.{Found}
use Rattle.stored_index.proofs.NumberLaws.{Lacks, decimal_lacks}
use Rattle.stored_index.proofs.KeyLaws.{key_lacks}
use Rattle.stored_index.proofs.RowLaws.{WasRead, row_writes, row_read, parts_at}
use Rattle.stored_index.proofs.OrderLaws.{AreAbove, above_more, sorted_more, sorted_parts, all_weaker}

abbrev pub found : List Row → List (List ℕ) → Found
found rows lines = Ok (rows, lines)

abbrev pub key_cmp : List ℕ → List ℕ → Ordering
key_cmp = slice_cmp nat_cmp

abbrev pub row_lines : List Row → List ℕ
row_lines rows = flat_map (λ row. ended (key_line row)) rows

-- ---- what is read is written so

-- what lines were read as, behind a key
pub record WereRead (before : Option (List ℕ)) (entries : ℕ) (text : List ℕ) (rows : List Row) (rest : List ℕ) : Type 0 where
  pub above : AreAbove before (map key_of rows)
  pub good : AreSlotRows entries rows
  pub written : text ≡ row_lines rows ++ rest

none_read : (before : Option (List ℕ)) (entries : ℕ) (lines : List (List ℕ)) (f : List Row × List (List ℕ)) → found [] lines ≡ Ok f → WereRead before entries (join_with_byte line_feed lines) f.0 (join_with_byte line_feed f.1)
unfolding IsStrictlySortedBy
none_read before entries lines f e =
    subst (λ (f : List Row × List (List ℕ)). WereRead before entries (join_with_byte line_feed lines) f.0 (join_with_byte line_feed f.1)) (same_ok ([], lines) f e)
    (record { above = tt; good = record { each = tt; rising = tt }; written = refl })

one_more : (before : Option (List ℕ)) (entries : ℕ) (line next : List ℕ) (more : List (List ℕ)) (row : Row) (f : List Row × List (List ℕ)) → WasRead before entries line row
    → WereRead (Some row.0) entries (join_with_byte line_feed (next ∷ more)) f.0 (join_with_byte line_feed f.1)
    → WereRead before entries (join_with_byte line_feed (line ∷ next ∷ more)) (row ∷ f.0) (join_with_byte line_feed f.1)
one_more before entries line next more row f one rest =
    record {
      above = above_more before row.0 (map key_of f.0) one.above rest.above;
      good = record { each = (one.good, rest.good.each); rising = sorted_more row.0 (map key_of f.0) rest.above rest.good.rising };
      written =
          (λ i. one.written i ++ line_feed ∷ rest.written i)
          ∙ sym (append_assoc (key_line row) (line_feed ∷ []) (row_lines f.0 ++ join_with_byte line_feed f.1))
          ∙ sym (append_assoc (ended (key_line row)) (row_lines f.0) (join_with_byte line_feed f.1));
    }

pub rows_write : (before : Option (List ℕ)) (entries : ℕ) (lines : List (List ℕ)) (f : List Row × List (List ℕ)) → rows_of before entries lines ≡ Ok f
    → WereRead before entries (join_with_byte line_feed lines) f.0 (join_with_byte line_feed f.1)
unfolding rows_of
rows_write before entries [] f e = none_read before entries [] f e
rows_write before entries (line ∷ []) f e = none_read before entries (line ∷ []) f e
rows_write before entries (line ∷ next ∷ more) f e =
    elim (ends_rows line) as (λ b. cond b (found [] (line ∷ next ∷ more)) (row_in before entries line >>= λ row. rows_of (Some row.0) entries (next ∷ more) >>= λ r. found (row ∷ r.0) r.1) ≡ Ok f
    → WereRead before entries (join_with_byte line_feed (line ∷ next ∷ more)) f.0 (join_with_byte line_feed f.1)) [
      | true ↦ λ e. none_read before entries (line ∷ next ∷ more) f e
      | false ↦ λ e.
          let row = bind_ok (row_in before entries line) (λ row. rows_of (Some row.0) entries (next ∷ more) >>= λ r. found (row ∷ r.0) r.1) f e in
          let r = bind_ok (rows_of (Some row.0.0) entries (next ∷ more)) (λ r. found (row.0 ∷ r.0) r.1) f row.2 in
          subst (λ (f : List Row × List (List ℕ)). WereRead before entries (join_with_byte line_feed (line ∷ next ∷ more)) f.0 (join_with_byte line_feed f.1)) (same_ok (row.0 ∷ r.0.0, r.0.1) f r.2)
          (one_more before entries line next more row.0 r.0 (row_writes before entries line row.0 row.1) (rows_write (Some row.0.0) entries (next ∷ more) r.0 r.1))
    ] e

-- ---- what is written is read so

pub lacks_append : (c : ℕ) (xs ys : List ℕ) → Lacks c xs → Lacks c ys → Lacks c (xs ++ ys)
lacks_append c = All-append (λ b. is_byte c b ≡ false)

pub lacks_cons : (c b : ℕ) (bs : List ℕ) → is_byte c b ≡ false → Lacks c bs → Lacks c (b ∷ bs)
lacks_cons c = All-cons (λ b. is_byte c b ≡ false)

pub lacks_nil : (c : ℕ) → Lacks c []
lacks_nil c = All-nil (λ b. is_byte c b ≡ false)

ranks_lack : (ranks : List ℕ) → AllByRecursion (λ n. n < 10 ^ 10) ranks → Lacks line_feed (flat_map rank_text ranks)
ranks_lack [] small = lacks_nil line_feed
ranks_lack (n ∷ ns) small =
    let few : n < 10 ^ 10 = small.0 in
    lacks_cons line_feed space (decimal n ++ flat_map rank_text ns) refl (lacks_append line_feed (decimal n) (flat_map rank_text ns) (decimal_lacks line_feed n refl (omega arith)) (ranks_lack ns small.1))

module _ (entries : ℕ) (few : entries < 10 ^ 10) where
  pub line_lacks : (row : Row) → IsRow entries row → Lacks line_feed (key_line row)
  line_lacks row good =
      lacks_append line_feed (key_text row.0) (flat_map rank_text row.1) (key_lacks line_feed row.0 refl refl good.key)
      (ranks_lack row.1 (all_weaker (λ n. n < entries) (λ n. n < 10 ^ 10) (λ n lt. omega arith) row.1 good.within))

  pub lines_of : (rows : List Row) (rest : List ℕ) → AllByRecursion (IsRow entries) rows → parts line_feed (row_lines rows ++ rest) ≡ map key_line rows ++ parts line_feed rest
  lines_of [] rest all = refl
  lines_of (row ∷ rows) rest all =
      ap (parts line_feed) (append_assoc (ended (key_line row)) (row_lines rows) rest ∙ append_assoc (key_line row) (line_feed ∷ []) (row_lines rows ++ rest))
      ∙ parts_at line_feed (key_line row) (row_lines rows ++ rest) refl (line_lacks row all.0)
      ∙ ap (λ (ls : List (List ℕ)). key_line row ∷ ls) (lines_of rows rest all.1)

-- ---- which lines end rows

not_slot : (before : Option (List ℕ)) (entries : ℕ) (rest : List ℕ) → row_of before entries (codes "slot" ∷ parts space rest) ≡ Err Form
unfolding key_in bytes_in
not_slot before entries rest =
    let s = split_cons (is_byte space) rest in
    ap (λ (ps : List (List ℕ)). row_of before entries (codes "slot" ∷ ps)) s.2

module _ (before : Option (List ℕ)) (entries : ℕ) (line : List ℕ) (row : Row) (e : row_in before entries line ≡ Ok row) where
  abbrev no_row : Result Row IndexFaultKind
  no_row = Err Form

  no_end : bytes_eq line end_line ≡ true → ⊥
  unfolding row_in
  no_end is =
      let bad : no_row ≡ Ok row = sym (ap (row_in before entries) ((bytes_eq-Decides line end_line).0 is)) ∙ e in
      cc

  no_slot : starts_with nat_eq line (codes "slot ") ≡ true → ⊥
  unfolding row_in
  no_slot is =
      let front : codes "slot " ≡ take 5 line = (bytes_eq-Decides (codes "slot ") (take 5 line)).0 is in
      let whole : line ≡ codes "slot " ++ drop 5 line = sym (take-append-drop 5 line) ∙ ap (λ (xs : List ℕ). xs ++ drop 5 line) (sym front) in
      let bad : no_row ≡ Ok row = sym (ap (row_in before entries) whole ∙ not_slot before entries (drop 5 line)) ∙ e in
      cc

  neither : (a b : Bool) → (a ≡ true → ⊥) → (b ≡ true → ⊥) → (a || b) ≡ false
  neither true b f g = absurd (f refl)
  neither false true f g = absurd (g refl)
  neither false false f g = refl

  pub rows_go_on : ends_rows line ≡ false
  rows_go_on = neither (bytes_eq line end_line) (starts_with nat_eq line (codes "slot ")) no_end no_slot

-- ---- rows, and what ends them

pub rows_opened : (before : Option (List ℕ)) (entries : ℕ) (line : List ℕ) (lines : List (List ℕ)) → IsCons lines
    → rows_of before entries (line ∷ lines) ≡ cond (ends_rows line) (found [] (line ∷ lines)) (row_in before entries line >>= λ row. rows_of (Some row.0) entries lines >>= λ f. found (row ∷ f.0) f.1)
unfolding rows_of
rows_opened before entries line [] some = let bad : [] ≡ some.0 ∷ some.1 = some.2 in absurd cc
rows_opened before entries line (next ∷ more) some = refl

pub lines_before : (rows : List Row) (lines : List (List ℕ)) → IsCons lines → IsCons (map key_line rows ++ lines)
lines_before [] lines some = some
lines_before (row ∷ rows) lines some = (key_line row, map key_line rows ++ lines, refl)

module _ (entries : ℕ) (few : entries < 10 ^ 10) (line : List ℕ) (lines : List (List ℕ)) (some : IsCons lines) (ends : ends_rows line ≡ true) where
  pub rows_read : (before : Option (List ℕ)) (rows : List Row) → AreAbove before (map key_of rows) → AllByRecursion (IsRow entries) rows → IsStrictlySortedBy key_cmp (map key_of rows)
      → rows_of before entries (map key_line rows ++ line ∷ lines) ≡ found rows (line ∷ lines)
  rows_read before [] above good order =
      rows_opened before entries line lines some
      ∙ ap (λ (b : Bool). cond b (found [] (line ∷ lines)) (row_in before entries line >>= λ row. rows_of (Some row.0) entries lines >>= λ f. found (row ∷ f.0) f.1)) ends
  rows_read before (row ∷ rows) above good order =
      let left = map key_line rows ++ line ∷ lines in
      let here = row_read before entries few row above.0 good.0 in
      let others = sorted_parts row.0 (map key_of rows) order in
      rows_opened before entries (key_line row) left (lines_before rows (line ∷ lines) (line, lines, refl))
      ∙ ap (λ (b : Bool). cond b (found [] (key_line row ∷ left)) (row_in before entries (key_line row) >>= λ row. rows_of (Some row.0) entries left >>= λ f. found (row ∷ f.0) f.1)) (rows_go_on before entries (key_line row) row here)
      ∙ ap (λ (r : Result Row IndexFaultKind). r >>= λ row. rows_of (Some row.0) entries left >>= λ f. found (row ∷ f.0) f.1) here
      ∙ ap (λ (r : Found). r >>= λ f. found (row ∷ f.0) f.1) (rows_read (Some row.0) rows others.0 good.1 others.1)

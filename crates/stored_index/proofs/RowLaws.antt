-- The line of a key, as it is written, and as it is read.
use Rattle.std.proofs.Common.{◌≡◌, ℕ, ◌<◌, ◌^◌, Bool, true, false, cond, List, [], ◌∷◌, ◌++◌, length, map, decimal, Option, Result, Ok, Err, refl, sym, ap, ◌∙◌, subst, arith}
use Rattle.std.proofs.lemmas.List.{append-nil}
use Rattle.std.proofs.lemmas.List.Splits.{slice_split_at, slice_split_none, join_with_byte-slice_split}
use Rattle.std.specs.List.{flat_map, AllByRecursion, join_with_byte}
use Rattle.base.specs.Ascii.{space}
use Rattle.base.specs.Answers.{◌>>=◌, each}
use Rattle.base.proofs.Bound.{bind_ok, same_ok}
use Rattle.memchr.specs.Find.{is_byte}
use Rattle.index_text.specs.IndexTexts.{Row, key_text, rank_text, key_line}
use Rattle.stored_index.specs.Cuts.{parts}
use Rattle.stored_index.specs.Words.{key_in, number_in}
use Rattle.stored_index.specs.KeyLines.{are_rising, are_within, are_in_order, checked, ranks_in, is_above, row_of, row_in}
use Rattle.stored_index.specs.Rows.{IsRow}
use Rattle.stored_index.specs.declared.fault.IndexFaultKind.{IndexFaultKind}
use Rattle.stored_index.specs.declared.fault.IndexFaultKind.TheVariants.{Order, Rank}
use Rattle.stored_index.proofs.NumberLaws.{Lacks, number_writes, number_read, decimal_lacks}
use Rattle.stored_index.proofs.KeyLaws.{key_writes, key_read, key_lacks}
use Rattle.stored_index.proofs.OrderLaws.{both_true, rising_sorted, sorted_rising, all_from_zero, within_all, all_within, all_weaker}

abbrev pub Numbers : Type 0
Numbers = Result (List ℕ) IndexFaultKind

abbrev pub numbers : List ℕ → Numbers
numbers ns = Ok ns

abbrev pub the_row : List ℕ → List ℕ → Result Row IndexFaultKind
the_row key ranks = Ok (key, ranks)

-- ---- what is read is written so

pub numbers_write : (words : List (List ℕ)) (ns : List ℕ) → each number_in words ≡ Ok ns → words ≡ map decimal ns
unfolding each
numbers_write [] [] e = refl
numbers_write [] (n ∷ ns) e = absurd cc
numbers_write (w ∷ ws) ns e =
    let one = bind_ok (number_in w) (λ y. each number_in ws >>= λ ys. numbers (y ∷ ys)) ns e in
    let more = bind_ok (each number_in ws) (λ ys. numbers (one.0 ∷ ys)) ns one.2 in
    let all : one.0 ∷ more.0 ≡ ns = same_ok (one.0 ∷ more.0) ns more.2 in
    (λ i. (number_writes w one.0 one.1).0 i ∷ numbers_write ws more.0 more.1 i) ∙ ap (map decimal) all

pub numbers_short : (words : List (List ℕ)) (ns : List ℕ) → each number_in words ≡ Ok ns → AllByRecursion (λ n. n < 10 ^ 10) ns
unfolding each
numbers_short [] [] e = tt
numbers_short [] (n ∷ ns) e = absurd cc
numbers_short (w ∷ ws) ns e =
    let one = bind_ok (number_in w) (λ y. each number_in ws >>= λ ys. numbers (y ∷ ys)) ns e in
    let more = bind_ok (each number_in ws) (λ ys. numbers (one.0 ∷ ys)) ns one.2 in
    subst (AllByRecursion (λ n. n < 10 ^ 10)) (same_ok (one.0 ∷ more.0) ns more.2) ((number_writes w one.0 one.1).1, numbers_short ws more.0 more.1)

pub joined : (word : List ℕ) (ns : List ℕ) → join_with_byte space (word ∷ map decimal ns) ≡ word ++ flat_map rank_text ns
joined word [] = sym (append-nil word)
joined word (n ∷ ns) = ap (λ (t : List ℕ). word ++ space ∷ t) (joined (decimal n) ns)

checked_by : (r w : Bool) (ns rs : List ℕ) → cond r (cond w (numbers ns) (Err Rank)) (Err Order) ≡ Ok rs → (r ≡ true) × (w ≡ true) × (ns ≡ rs)
checked_by true true ns rs e = (refl, refl, same_ok ns rs e)
checked_by true false ns rs e = absurd cc
checked_by false w ns rs e = absurd cc

pub some_of : (words : List (List ℕ)) (ns : List ℕ) → 0 < length words → words ≡ map decimal ns → 0 < length ns
some_of [] ns some e = absurd (omega arith)
some_of (w ∷ ws) [] some e = absurd cc
some_of (w ∷ ws) (n ∷ ns) some e = omega arith

module _ (before : Option (List ℕ)) (entries : ℕ) where
  -- what a line was read as
  pub record WasRead (text : List ℕ) (row : Row) : Type 0 where
    pub above : is_above before row.0 ≡ true
    pub good : IsRow entries row
    pub short : AllByRecursion (λ n. n < 10 ^ 10) row.1
    pub written : text ≡ key_line row

  words_write : (words : List (List ℕ)) (row : Row) → row_of before entries words ≡ Ok row → WasRead (join_with_byte space words) row
  unfolding ranks_in each
  words_write [] row e = absurd cc
  words_write (word ∷ []) row e = absurd cc
  words_write (word ∷ rank ∷ ranks) row e =
      let key = bind_ok (key_in word) (λ key. ranks_in (is_above before key) entries (rank ∷ ranks) >>= λ rs. the_row key rs) row e in
      let rs = bind_ok (ranks_in (is_above before key.0) entries (rank ∷ ranks)) (λ rs. the_row key.0 rs) row key.2 in
      let ns = bind_ok (each number_in (rank ∷ ranks)) (checked (is_above before key.0) entries) rs.0 rs.1 in
      let all : (key.0, rs.0) ≡ row = same_ok (key.0, rs.0) row rs.2 in
      let k = checked_by (are_in_order (is_above before key.0) ns.0) (are_within entries ns.0) ns.0 rs.0 ns.2 in
      let order = both_true (is_above before key.0) (are_rising 0 ns.0) k.0 in
      let words = numbers_write (rank ∷ ranks) ns.0 ns.1 in
      let count : 0 < length ns.0 = some_of (rank ∷ ranks) ns.0 (omega arith) words in
      let written : join_with_byte space (word ∷ rank ∷ ranks) ≡ key_line (key.0, ns.0) =
      ap (λ (ws : List (List ℕ)). join_with_byte space (word ∷ ws)) words ∙ joined word ns.0 ∙ ap (λ (w : List ℕ). w ++ flat_map rank_text ns.0) (key_writes word key.0 key.1).0 in
      let same : (key.0, ns.0) ≡ row = (λ i. (key.0, k.2 i)) ∙ all in
      subst (WasRead (join_with_byte space (word ∷ rank ∷ ranks))) same (record {
        above = order.0;
        good = record { key = (key_writes word key.0 key.1).1; some = count; rising = rising_sorted 0 ns.0 order.1; within = within_all entries ns.0 k.1 };
        short = numbers_short (rank ∷ ranks) ns.0 ns.1;
        written = written;
      })

  pub row_writes : (line : List ℕ) (row : Row) → row_in before entries line ≡ Ok row → WasRead line row
  unfolding row_in
  row_writes line row e = subst (λ (t : List ℕ). WasRead t row) (join_with_byte-slice_split space line) (words_write (parts space line) row e)

-- ---- what is written is read so

pub parts_word : (c : ℕ) (word : List ℕ) → Lacks c word → parts c word ≡ word ∷ []
parts_word c word lacks = slice_split_none (is_byte c) word lacks

pub parts_at : (c : ℕ) (word rest : List ℕ) → is_byte c c ≡ true → Lacks c word → parts c (word ++ c ∷ rest) ≡ word ∷ parts c rest
parts_at c word rest here lacks = slice_split_at (is_byte c) word c rest lacks here

pub row_parts : (word : List ℕ) (ns : List ℕ) → Lacks space word → AllByRecursion (λ n. n < 10 ^ 10) ns → parts space (word ++ flat_map rank_text ns) ≡ word ∷ map decimal ns
row_parts word [] lacks small = ap (parts space) (append-nil word) ∙ parts_word space word lacks
row_parts word (n ∷ ns) lacks small =
    let few : n < 10 ^ 10 = small.0 in
    parts_at space word (decimal n ++ flat_map rank_text ns) refl lacks
    ∙ ap (λ (ws : List (List ℕ)). word ∷ ws) (row_parts (decimal n) ns (decimal_lacks space n refl (omega arith)) small.1)

pub numbers_read : (ns : List ℕ) → AllByRecursion (λ n. n < 10 ^ 10) ns → each number_in (map decimal ns) ≡ Ok ns
unfolding each
numbers_read [] small = refl
numbers_read (n ∷ ns) small =
    ap (λ (r : Result ℕ IndexFaultKind). r >>= λ y. each number_in (map decimal ns) >>= λ ys. numbers (y ∷ ys)) (number_read n small.0)
    ∙ ap (λ (r : Numbers). r >>= λ ys. numbers (n ∷ ys)) (numbers_read ns small.1)

module _ (before : Option (List ℕ)) (entries : ℕ) (few : entries < 10 ^ 10) where
  ranks_read : (ranks : List ℕ) (above : Bool) → above ≡ true → AllByRecursion (λ n. n < 10 ^ 10) ranks → are_rising 0 ranks ≡ true → are_within entries ranks ≡ true
      → ranks_in above entries (map decimal ranks) ≡ Ok ranks
  unfolding ranks_in
  ranks_read ranks above is small rising within =
      ap (λ (r : Numbers). r >>= checked above entries) (numbers_read ranks small)
      ∙ ap (λ (t : Bool). cond (cond t (are_rising 0 ranks) false) (cond (are_within entries ranks) (numbers ranks) (Err Rank)) (Err Order)) is
      ∙ ap (λ (t : Bool). cond t (cond (are_within entries ranks) (numbers ranks) (Err Rank)) (Err Order)) rising
      ∙ ap (λ (t : Bool). cond t (numbers ranks) (Err Rank)) within

  words_read : (key ranks : List ℕ) → is_above before key ≡ true → IsRow entries (key, ranks) → row_of before entries (key_text key ∷ map decimal ranks) ≡ Ok (key, ranks)
  words_read key [] above good = let some = good.some in absurd (omega arith)
  words_read key (n ∷ ns) above good =
      let small = all_weaker (λ n. n < entries) (λ n. n < 10 ^ 10) (λ n lt. omega arith) (n ∷ ns) good.within in
      ap (λ (r : Numbers). r >>= λ k. ranks_in (is_above before k) entries (map decimal (n ∷ ns)) >>= λ rs. the_row k rs) (key_read key good.key)
      ∙ ap (λ (r : Numbers). r >>= λ rs. the_row key rs)
      (ranks_read (n ∷ ns) (is_above before key) above small (sorted_rising 0 (n ∷ ns) (all_from_zero (n ∷ ns)) good.rising) (all_within entries (n ∷ ns) good.within))

  pub row_read : (row : Row) → is_above before row.0 ≡ true → IsRow entries row → row_in before entries (key_line row) ≡ Ok row
  unfolding row_in
  row_read row above good =
      let small = all_weaker (λ n. n < entries) (λ n. n < 10 ^ 10) (λ n lt. omega arith) row.1 good.within in
      ap (row_of before entries) (row_parts (key_text row.0) row.1 (key_lacks space row.0 refl refl good.key) small)
      ∙ words_read row.0 row.1 above good

-- What is wrong with the line of a key that can't be read.
use Rattle.std.proofs.Common.{◌≡◌, ℕ, ◌+◌, ◌*◌, ◌-◌, ◌<◌, ◌⊎◌, inl, inr, Bool, true, false, cond, List, [], ◌∷◌, ◌++◌, map, decimal, Option, Result, Ok, Err, refl, sym, ap, ◌∙◌, subst, arith}
use Rattle.std.proofs.lemmas.List.Splits.{join_with_byte-slice_split}
use Rattle.std.specs.Char.{is_ascii_digit}
use Rattle.std.specs.List.{flat_map, AllByRecursion, join_with_byte}
use Rattle.base.specs.Ascii.{space}
use Rattle.base.specs.Answers.{◌>>=◌, each}
use Rattle.index_text.specs.IndexTexts.{Row, key_text, rank_text, key_line}
use Rattle.stored_index.specs.Cuts.{parts}
use Rattle.stored_index.specs.Words.{is_small_hex_letter, hex_digit, pair_in, bytes_in, is_hyphen, key_in, has_number_form, number_after, number_in}
use Rattle.stored_index.specs.KeyLines.{are_rising, are_within, checked, ranks_in, is_above, row_of, row_in}
use Rattle.stored_index.specs.FaultyLines.{IsSpelled, IsInOrder, IsRowFault}
use Rattle.stored_index.specs.declared.fault.IndexFaultKind.{IndexFaultKind}
use Rattle.stored_index.specs.declared.fault.IndexFaultKind.TheVariants.{Header, Stale, Form, Order, Rank}
use Rattle.stored_index.proofs.FaultWords.{key_after, key_above}
use Rattle.stored_index.proofs.KeyLaws.{key_writes, key_read, key_lacks}
use Rattle.stored_index.proofs.OrderLaws.{both_true, rising_sorted, sorted_rising, all_from_zero, all_within, within_all}
use Rattle.stored_index.proofs.RowLaws.{Numbers, numbers, the_row, numbers_write, joined, row_parts, numbers_read, some_of, numbers_short, row_writes}

abbrev Told : Type 0 → Type 0
Told X = Result X IndexFaultKind

-- which of two steps failed
pub bind_err : {A B : Type 0} (r : Told A) (f : A → Told B) (k : IndexFaultKind) → (r >>= f) ≡ Err k → (r ≡ Err k) ⊎ ((x : A) × (r ≡ Ok x) × (f x ≡ Err k))
bind_err (Ok x) f k e = inr (x, refl, e)
bind_err {A} {B} (Err g) f k e =
    let same : g ≡ k = same_err g k e in
    inl (ap (λ (k : IndexFaultKind). Err k) same)
  where
    same_err : (g k : IndexFaultKind) → ◌≡◌ {A = Told B} (Err g) (Err k) → g ≡ k
    same_err g k e = cc

pub is_err : {A : Type 0} (g k : IndexFaultKind) → ◌≡◌ {A = Told A} (Err g) (Err k) → k ≡ g
is_err g k e = cc

-- a test that fails, or what it lets through
pub test_err : {A : Type 0} (b : Bool) (r : Told A) (g k : IndexFaultKind) → cond b r (Err g) ≡ Err k → (r ≡ Err k) ⊎ (k ≡ g)
test_err true r g k e = inl e
test_err false r g k e = inr (is_err g k e)

-- ---- words are at fault in their form

digit_form : (b : ℕ) (k : IndexFaultKind) → hex_digit b ≡ Err k → k ≡ Form
digit_form b k e = by (is_ascii_digit b) (is_small_hex_letter b) (b - 48) (b - 97 + 10) k e
  where
    by : (s t : Bool) (x y : ℕ) (k : IndexFaultKind) → ◌≡◌ {A = Told ℕ} (cond s (Ok x) (cond t (Ok y) (Err Form))) (Err k) → k ≡ Form
    by true t x y k e = absurd cc
    by false true x y k e = absurd cc
    by false false x y k e = is_err Form k e

pair_form : (high low : ℕ) (k : IndexFaultKind) → pair_in high low ≡ Err k → k ≡ Form
pair_form high low k e =
    elim (bind_err (hex_digit high) (λ h. hex_digit low >>= λ l. Ok (h * 16 + l)) k e) [
      | inl f ↦ digit_form high k f
      | inr g ↦ elim (bind_err (hex_digit low) (λ l. Ok (g.0 * 16 + l)) k g.2) [
        | inl f ↦ digit_form low k f
        | inr h ↦ absurd (let bad = h.2 in cc)
      ]
    ]

bytes_form : (word : List ℕ) (k : IndexFaultKind) → bytes_in word ≡ Err k → k ≡ Form
unfolding bytes_in
bytes_form [] k e = absurd cc
bytes_form (high ∷ []) k e = is_err Form k e
bytes_form (high ∷ low ∷ rest) k e =
    elim (bind_err (pair_in high low) (λ b. bytes_in rest >>= λ bs. numbers (b ∷ bs)) k e) [
      | inl f ↦ pair_form high low k f
      | inr g ↦ elim (bind_err (bytes_in rest) (λ bs. numbers (g.0 ∷ bs)) k g.2) [
        | inl f ↦ bytes_form rest k f
        | inr h ↦ absurd (let bad = h.2 in cc)
      ]
    ]

pub key_form : (word : List ℕ) (k : IndexFaultKind) → key_in word ≡ Err k → k ≡ Form
unfolding key_in
key_form [] k e = is_err Form k e
key_form (b ∷ bs) k e = by (is_hyphen (b ∷ bs)) b bs k e
  where
    by : (t : Bool) (b : ℕ) (bs : List ℕ) (k : IndexFaultKind) → cond t (numbers []) (bytes_in (b ∷ bs)) ≡ Err k → k ≡ Form
    by true b bs k e = absurd cc
    by false b bs k e = bytes_form (b ∷ bs) k e

after_form : (n : ℕ) (word : List ℕ) (k : IndexFaultKind) → number_after n word ≡ Err k → k ≡ Form
unfolding number_after
after_form n [] k e = absurd cc
after_form n (b ∷ bs) k e =
    elim (test_err (is_ascii_digit b) (number_after (n * 10 + (b - 48)) bs) Form k e) [
      | inl f ↦ after_form (n * 10 + (b - 48)) bs k f
      | inr is ↦ is
    ]

number_form : (word : List ℕ) (k : IndexFaultKind) → number_in word ≡ Err k → k ≡ Form
unfolding number_in
number_form word k e =
    elim (test_err (has_number_form word) (number_after 0 word) Form k e) [
      | inl f ↦ after_form 0 word k f
      | inr is ↦ is
    ]

numbers_form : (words : List (List ℕ)) (k : IndexFaultKind) → each number_in words ≡ Err k → k ≡ Form
unfolding each
numbers_form [] k e = absurd cc
numbers_form (w ∷ ws) k e =
    elim (bind_err (number_in w) (λ y. each number_in ws >>= λ ys. numbers (y ∷ ys)) k e) [
      | inl f ↦ number_form w k f
      | inr g ↦ elim (bind_err (each number_in ws) (λ ys. numbers (g.0 ∷ ys)) k g.2) [
        | inl f ↦ numbers_form ws k f
        | inr h ↦ absurd (let bad = h.2 in cc)
      ]
    ]

-- ---- a line that spells a key and ranks

module _ (before : Option (List ℕ)) (entries : ℕ) where
  abbrev told : List ℕ → List ℕ → Told Row
  told key ranks = checked (is_above before key) entries ranks >>= λ rs. the_row key rs

  words_told : (key ranks : List ℕ) → IsSpelled (key, ranks) → row_of before entries (key_text key ∷ map decimal ranks) ≡ told key ranks
  unfolding ranks_in
  words_told key [] good = let some = good.some in absurd (omega arith)
  words_told key (n ∷ ns) good =
      ap (λ (r : Numbers). r >>= λ k. ranks_in (is_above before k) entries (map decimal (n ∷ ns)) >>= λ rs. the_row k rs) (key_read key good.key)
      ∙ ap (λ (r : Numbers). (r >>= checked (is_above before key) entries) >>= λ rs. the_row key rs) (numbers_read (n ∷ ns) good.short)

  line_told : (row : Row) → IsSpelled row → row_in before entries (key_line row) ≡ told row.0 row.1
  unfolding row_in
  line_told row good = ap (row_of before entries) (row_parts (key_text row.0) row.1 (key_lacks space row.0 refl refl good.key) good.short) ∙ words_told row.0 row.1 good

  -- it is at fault in its form, or spells a key and ranks
  abbrev Spelt : List ℕ → IndexFaultKind → Type 0
  Spelt text kind = (kind ≡ Form) ⊎ ((row : Row) × IsSpelled row × (text ≡ key_line row))

  words_spelt : (words : List (List ℕ)) (k : IndexFaultKind) → row_of before entries words ≡ Err k → Spelt (join_with_byte space words) k
  unfolding ranks_in
  words_spelt [] k e = inl (is_err Form k e)
  words_spelt (word ∷ []) k e = inl (is_err Form k e)
  words_spelt (word ∷ rank ∷ ranks) k e =
      elim (bind_err (key_in word) (λ key. ranks_in (is_above before key) entries (rank ∷ ranks) >>= λ rs. the_row key rs) k e) [
        | inl f ↦ inl (key_form word k f)
        | inr key ↦ elim (bind_err (ranks_in (is_above before key.0) entries (rank ∷ ranks)) (λ rs. the_row key.0 rs) k key.2) [
          | inl f ↦ elim (bind_err (each number_in (rank ∷ ranks)) (checked (is_above before key.0) entries) k f) [
            | inl g ↦ inl (numbers_form (rank ∷ ranks) k g)
            | inr ns ↦
                let words = numbers_write (rank ∷ ranks) ns.0 ns.1 in
                inr (
                  (key.0, ns.0),
                  record { key = (key_writes word key.0 key.1).1; some = some_of (rank ∷ ranks) ns.0 (omega arith) words; short = numbers_short (rank ∷ ranks) ns.0 ns.1 },
                  ap (λ (ws : List (List ℕ)). join_with_byte space (word ∷ ws)) words ∙ joined word ns.0 ∙ ap (λ (w : List ℕ). w ++ flat_map rank_text ns.0) (key_writes word key.0 key.1).0,
                )
          ]
          | inr rs ↦ absurd (let bad = rs.2 in cc)
        ]
      ]

  line_spelt : (line : List ℕ) (k : IndexFaultKind) → row_in before entries line ≡ Err k → Spelt line k
  unfolding row_in
  line_spelt line k e = subst (λ (t : List ℕ). Spelt t k) (join_with_byte-slice_split space line) (words_spelt (parts space line) k e)

  -- ---- order, and entries

  abbrev OutOfOrder : IndexFaultKind → Bool → Bool → Type 0
  OutOfOrder k order within = ((k ≡ Order) × (order ≡ false)) ⊎ ((k ≡ Rank) × (order ≡ true) × (within ≡ false))

  told_by : (order within : Bool) (key ns : List ℕ) (k : IndexFaultKind) → (cond order (cond within (numbers ns) (Err Rank)) (Err Order) >>= λ rs. the_row key rs) ≡ Err k → OutOfOrder k order within
  told_by true true key ns k e = absurd cc
  told_by true false key ns k e = inr (is_err Rank k e, refl, refl)
  told_by false within key ns k e = inl (is_err Order k e, refl)

  module _ (row : Row) (good : IsSpelled row) (line : List ℕ) (is : line ≡ key_line row) (k : IndexFaultKind) (e : row_in before entries line ≡ Err k) where
    why : OutOfOrder k (cond (is_above before row.0) (are_rising 0 row.1) false) (are_within entries row.1)
    why =
        told_by (cond (is_above before row.0) (are_rising 0 row.1) false) (are_within entries row.1) row.0 row.1 k
        (sym (ap (row_in before entries) is ∙ line_told row good) ∙ e)

    in_order : IsInOrder before row → cond (is_above before row.0) (are_rising 0 row.1) false ≡ true
    in_order o = ap (λ (t : Bool). cond t (are_rising 0 row.1) false) (key_above before row.0 o.above) ∙ sorted_rising 0 row.1 (all_from_zero row.1) o.rising

    is_out : k ≡ Order → IsInOrder before row → ⊥
    is_out same o = elim why [
      | inl w ↦
          let bad : true ≡ false = sym (in_order o) ∙ w.1 in
          cc
      | inr w ↦
          let bad : Order ≡ Rank = sym same ∙ w.0 in
          cc
    ]

    is_of_none : k ≡ Rank → IsInOrder before row × (AllByRecursion (λ n. n < entries) row.1 → ⊥)
    is_of_none same = elim why [
      | inl w ↦
          let bad : Rank ≡ Order = sym same ∙ w.0 in
          absurd cc
      | inr w ↦
          let parts = both_true (is_above before row.0) (are_rising 0 row.1) w.1 in
          (record { above = key_after before row.0 parts.0; rising = rising_sorted 0 row.1 parts.1 }, λ all. let bad : true ≡ false = sym (all_within entries row.1 all) ∙ w.2 in cc)
    ]

    is_neither : (k ≡ Order → ⊥) → (k ≡ Rank → ⊥) → ⊥
    is_neither f g = elim why [ inl w ↦ f w.0 | inr w ↦ g w.0 ]

  pub row_fault : (line : List ℕ) (k : IndexFaultKind) → row_in before entries line ≡ Err k → IsRowFault before entries line k
  row_fault line Header e = elim (line_spelt line Header e) [ inl bad ↦ cc | inr r ↦ is_neither r.0 r.1 line r.2 Header e (λ bad. cc) (λ bad. cc) ]
  row_fault line Stale e = elim (line_spelt line Stale e) [ inl bad ↦ cc | inr r ↦ is_neither r.0 r.1 line r.2 Stale e (λ bad. cc) (λ bad. cc) ]
  row_fault line Form e = λ row good is. is_neither row good line is Form e (λ bad. cc) (λ bad. cc)
  row_fault line Order e = elim (line_spelt line Order e) [ inl bad ↦ absurd cc | inr r ↦ (r.0, r.1, r.2, is_out r.0 r.1 line r.2 Order e refl) ]
  row_fault line Rank e = elim (line_spelt line Rank e) [ inl bad ↦ absurd cc | inr r ↦ (let o = is_of_none r.0 r.1 line r.2 Rank e refl in (r.0, r.1, r.2, o.0, o.1)) ]

  -- ---- and back: a line that has such a fault is refused with it

  form_stands : (line : List ℕ) (r : Told Row) → row_in before entries line ≡ r → ((row : Row) → IsSpelled row → line ≡ key_line row → ⊥) → r ≡ Err Form
  form_stands line (Ok row) e none =
      let was = row_writes before entries line row e in
      absurd (none row (record { key = was.good.key; some = was.good.some; short = was.short }) was.written)
  form_stands line (Err k) e none = elim (line_spelt line k e) [ inl is ↦ ap (λ (k : IndexFaultKind). Err k) is | inr r ↦ absurd (none r.0 r.1 r.2) ]

  order_stands : (b within : Bool) (key ns : List ℕ) → (b ≡ true → ⊥) → (cond b (cond within (numbers ns) (Err Rank)) (Err Order) >>= λ rs. the_row key rs) ≡ Err Order
  order_stands true within key ns out = absurd (out refl)
  order_stands false within key ns out = refl

  rank_stands : (b within : Bool) (key ns : List ℕ) → b ≡ true → (within ≡ true → ⊥) → (cond b (cond within (numbers ns) (Err Rank)) (Err Order) >>= λ rs. the_row key rs) ≡ Err Rank
  rank_stands true true key ns order out = absurd (out refl)
  rank_stands true false key ns order out = refl
  rank_stands false within key ns order out = absurd cc

  module _ (row : Row) (good : IsSpelled row) (line : List ℕ) (is : line ≡ key_line row) where
    abbrev its_order : Bool
    its_order = cond (is_above before row.0) (are_rising 0 row.1) false

    line_is : row_in before entries line ≡ told row.0 row.1
    line_is = ap (row_in before entries) is ∙ line_told row good

    out_stands : (IsInOrder before row → ⊥) → row_in before entries line ≡ Err Order
    out_stands out = line_is ∙ order_stands its_order (are_within entries row.1) row.0 row.1 (λ e. let parts = both_true (is_above before row.0) (are_rising 0 row.1) e in out (record { above = key_after before row.0 parts.0; rising = rising_sorted 0 row.1 parts.1 }))

    none_stands : IsInOrder before row → (AllByRecursion (λ n. n < entries) row.1 → ⊥) → row_in before entries line ≡ Err Rank
    none_stands o out =
        line_is
        ∙ rank_stands its_order (are_within entries row.1) row.0 row.1 (ap (λ (t : Bool). cond t (are_rising 0 row.1) false) (key_above before row.0 o.above) ∙ sorted_rising 0 row.1 (all_from_zero row.1) o.rising)
        (λ e. out (within_all entries row.1 e))

  pub row_stands : (line : List ℕ) (k : IndexFaultKind) → IsRowFault before entries line k → row_in before entries line ≡ Err k
  row_stands line Header f = absurd f
  row_stands line Stale f = absurd f
  row_stands line Form f = form_stands line (row_in before entries line) refl f
  row_stands line Order f = out_stands f.0 f.1 line f.2 f.3
  row_stands line Rank f = none_stands f.0 f.1 line f.2 f.3 f.4

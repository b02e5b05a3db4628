-- The rows that are kept are in order, and show the keys that are asked for as all rows do.
use Rattle.std.proofs.Common.{◌≡◌, ◌≢◌, ℕ, zero, suc, ◌<◌, Bool, true, false, cond, List, [], ◌∷◌, ◌++◌, length, map, filter, Option, Some, None, Result, Ok, Err, IfOk, bytes_eq, nat_eq, unwrap_or, get_or, refl, sym, ap, ◌∙◌, subst, eq-eqb, arith}
use Rattle.std.proofs.lemmas.Bool.{both_ways, cond-false, false_from_ne_true, or_left, or_right}
use Rattle.std.proofs.lemmas.List.Kept.{IsStrictlySortedBy-filter}
use Rattle.std.proofs.lemmas.Slice.Eq.{bytes_eq-Decides}
use Rattle.std.specs.Cmp.Lexicographic.{slice_cmp}
use Rattle.std.specs.FinSet as set
use Rattle.std.specs.List.{AllByRecursion, list_any}
use Rattle.std.specs.List.Sorted.{IsStrictlySortedBy}
use Rattle.std.specs.Map.{keys_of, lookup}
use Rattle.std.specs.Ordering.{nat_cmp}
use Rattle.base.specs.Answers.{◌>>=◌}
use Rattle.schema.specs.Conf.{Conf}
use Rattle.index_text.specs.KeySets as keys
use Rattle.index_text.specs.declared.slot_key.SlotKey.{SlotKey}
use Rattle.index_text.specs.IndexTexts.{Row, Rows, key_text}
use Rattle.stored_index.specs.Reading.{rows_in}
use Rattle.stored_index.specs.Rows.{IsRow, AreSlotRows, key_of}
use Rattle.stored_index.specs.Stored as whole
use Rattle.stored_index.specs.inner.Asked.{has_text, HasExactly}
use Rattle.stored_index.specs.inner.Drafts.{Comes}
use Rattle.stored_index.specs.inner.Kept.{kept_if, kept_rows, kept_slots}
use Rattle.stored_index.specs.inner.Sorted.{AreFull, AreKept}
use Rattle.stored_index.specs.declared.asked.AskedTexts.{AskedTexts}
use Rattle.stored_index.specs.declared.asked.AskedTexts.TheVariants.{Every}
use Rattle.stored_index.specs.declared.fault.IndexFault.{IndexFault}
use Rattle.stored_index.specs.declared.fault.IndexFaultKind.{IndexFaultKind}
use Rattle.stored_index.proofs.WholeLaws.{text_writes}

some_member : (ranks : List ℕ) → 0 < length ranks → set.from_list {R = nat_cmp} ranks ≢ set.empty
some_member [] some is = absurd (omega (arith, some))
some_member (rank ∷ ranks) some is =
    let here : set.contains (set.from_list {R = nat_cmp} (rank ∷ ranks)) rank ≡ true =
    set.contains-from_list_nat (rank ∷ ranks) rank ∙ or_left (nat_eq rank rank) (list_any (λ y. nat_eq y rank) ranks) (eq-eqb rank rank refl) in
    let none : set.contains (set.from_list {R = nat_cmp} (rank ∷ ranks)) rank ≡ false = ap (λ (s : keys.Members). set.contains s rank) is ∙ set.contains-empty nat_cmp rank in
    both_ways (set.contains (set.from_list {R = nat_cmp} (rank ∷ ranks)) rank) none here

module _ (asked : AskedTexts) where
  abbrev is_asked : List ℕ → Bool
  is_asked key = has_text asked (key_text key)

  -- ---- order

  same_keys : (rows : List Row) → keys_of (kept_rows asked rows) ≡ filter is_asked (map key_of rows)
  same_keys [] = refl
  same_keys (row ∷ rows) = by (same_keys rows) (is_asked row.0)
    where
      others : List (List ℕ)
      others = filter is_asked (map key_of rows)

      by : keys_of (kept_rows asked rows) ≡ others → (b : Bool) → keys_of (kept_if b (whole.kept_row row) ++ kept_rows asked rows) ≡ cond b (row.0 ∷ others) others
      by same true = ap (λ (ks : List (List ℕ)). row.0 ∷ ks) same
      by same false = same

  rows_full : (entries : ℕ) (rows : List Row) → AllByRecursion (IsRow entries) rows → AreFull (kept_rows asked rows)
  rows_full entries [] all = tt
  rows_full entries (row ∷ rows) all = by (rows_full entries rows all.1) (is_asked row.0)
    where
      by : AreFull (kept_rows asked rows) → (b : Bool) → AreFull (kept_if b (whole.kept_row row) ++ kept_rows asked rows)
      by rest true = (some_member row.1 all.0.some, rest)
      by rest false = rest

  slots_kept : (entries : ℕ) (rows : Rows) → AllByRecursion (λ s. AreSlotRows entries s.1) rows → AllByRecursion AreKept (kept_slots asked rows)
  slots_kept entries [] all = tt
  slots_kept entries (s ∷ rows) all = (
    (
      subst (IsStrictlySortedBy (slice_cmp nat_cmp)) (sym (same_keys s.1)) (IsStrictlySortedBy-filter (slice_cmp nat_cmp) is_asked (map key_of s.1) all.0.rising),
      rows_full entries s.1 all.0.each,
    ),
    slots_kept entries rows all.1,
  )

  -- ---- what is shown

  module _ (key : List ℕ) (is : is_asked key ≡ true) where
    -- a row that is left out has another key
    other_key : (row : Row) → is_asked row.0 ≡ false → bytes_eq key row.0 ≡ false
    other_key row out = false_from_ne_true (bytes_eq key row.0) (λ e. both_ways (is_asked row.0) out (sym (ap is_asked ((bytes_eq-Decides key row.0).0 e)) ∙ is))

    same_found : (rows : List Row) → lookup (bytes_eq key) (kept_rows asked rows) ≡ lookup (bytes_eq key) (whole.kept_rows rows)
    same_found [] = refl
    same_found (row ∷ rows) = by (same_found rows) (is_asked row.0) refl
      where
        found : Option keys.Members
        found = lookup (bytes_eq key) (whole.kept_rows rows)

        by : lookup (bytes_eq key) (kept_rows asked rows) ≡ found → (b : Bool) → is_asked row.0 ≡ b
            → lookup (bytes_eq key) (kept_if b (whole.kept_row row) ++ kept_rows asked rows) ≡ cond (bytes_eq key row.0) (Some (set.from_list row.1)) found
        by same true kept = ap (λ (o : Option keys.Members). cond (bytes_eq key row.0) (Some (set.from_list row.1)) o) same
        by same false out = same ∙ sym (cond-false (bytes_eq key row.0) (Some (set.from_list row.1)) found (other_key row out))

    same_members : (rows : Rows) (place : ℕ) → keys.members_at (get_or (kept_slots asked rows) place []) key ≡ keys.members_at (get_or (whole.kept_slots rows) place []) key
    same_members [] place = refl
    same_members (s ∷ rows) zero = ap (λ (o : Option keys.Members). unwrap_or o set.empty) (same_found s.1)
    same_members (s ∷ rows) (suc n) = same_members rows n

  -- a key that isn't kept has no row
  module _ (key : List ℕ) (out : is_asked key ≡ false) where
    not_found : (rows : List Row) → lookup (bytes_eq key) (kept_rows asked rows) ≡ None
    not_found [] = refl
    not_found (row ∷ rows) = by (not_found rows) (is_asked row.0) refl
      where
        by : lookup (bytes_eq key) (kept_rows asked rows) ≡ None → (b : Bool) → is_asked row.0 ≡ b → lookup (bytes_eq key) (kept_if b (whole.kept_row row) ++ kept_rows asked rows) ≡ None
        by rest true kept =
            let other : bytes_eq key row.0 ≡ false = false_from_ne_true (bytes_eq key row.0) (λ e. both_ways (is_asked row.0) (sym (ap is_asked ((bytes_eq-Decides key row.0).0 e)) ∙ out) kept) in
            cond-false (bytes_eq key row.0) (Some (set.from_list row.1)) (lookup (bytes_eq key) (kept_rows asked rows)) other ∙ rest
        by rest false kept = rest

    no_members : (rows : Rows) (place : ℕ) → keys.members_at (get_or (kept_slots asked rows) place []) key ≡ set.empty
    no_members [] place = refl
    no_members (s ∷ rows) zero = ap (λ (o : Option keys.Members). unwrap_or o set.empty) (not_found s.1)
    no_members (s ∷ rows) (suc n) = no_members rows n

  all_shown : (part : whole.Stored) (conf : Conf) (rows : Rows) → part.slots ≡ kept_slots asked rows → (ks : List SlotKey) → AllByRecursion (λ k. is_asked k.key ≡ true) ks
      → AllByRecursion (λ k. whole.ranks_at part k.slot.0 k.key ≡ whole.ranks_at (whole.stored conf rows) k.slot.0 k.key) ks
  all_shown part conf rows kept [] all = tt
  all_shown part conf rows kept (k ∷ ks) all = (
    ap (λ (slots : List (List keys.Row)). keys.members_at (get_or slots k.slot.0 []) k.key) kept ∙ same_members k.key all.0 rows k.slot.0,
    all_shown part conf rows kept ks all.1,
  )

-- where every key is kept
same_rows : (rows : List Row) → kept_rows Every rows ≡ whole.kept_rows rows
same_rows [] = refl
same_rows (row ∷ rows) = ap (λ (rs : List keys.Row). whole.kept_row row ∷ rs) (same_rows rows)

same_slots : (rows : Rows) → kept_slots Every rows ≡ whole.kept_slots rows
same_slots [] = refl
same_slots (s ∷ rows) = λ i. same_rows s.1 i ∷ same_slots rows i

-- each of these keys is asked for
any_here : (ks : List SlotKey) (all : List SlotKey) → ((word : List ℕ) → whole.is_written_as ks word ≡ true → whole.is_written_as all word ≡ true)
    → AllByRecursion (λ k. whole.is_written_as all (key_text k.key) ≡ true) ks
any_here [] all more = tt
any_here (k ∷ ks) all more = (
  more (key_text k.key) (or_left (bytes_eq (key_text k.key) (key_text k.key)) (whole.is_written_as ks (key_text k.key)) ((bytes_eq-Decides (key_text k.key) (key_text k.key)).1 refl)),
  any_here ks all (λ word is. more word (or_right (bytes_eq word (key_text k.key)) (whole.is_written_as ks word) is)),
)

all_asked : (asked : AskedTexts) (ks : List SlotKey) → HasExactly asked ks → AllByRecursion (λ k. has_text asked (key_text k.key) ≡ true) ks
all_asked asked ks exact = through ks (any_here ks ks (λ word is. is))
  where
    through : (some : List SlotKey) → AllByRecursion (λ k. whole.is_written_as ks (key_text k.key) ≡ true) some → AllByRecursion (λ k. has_text asked (key_text k.key) ≡ true) some
    through [] all = tt
    through (k ∷ more) all = (exact (key_text k.key) ∙ all.0, through more all.1)

-- ---- the whole

module _ (conf : Conf) (entries : ℕ) (stamp text : List ℕ) where
  abbrev with_conf : Result Rows IndexFaultKind → Result whole.Stored IndexFaultKind
  with_conf r = r >>= λ rows. Ok (whole.stored conf rows)

  pub kept_are : (asked : AskedTexts) (kept : List (List keys.Row)) → Comes asked kept (rows_in conf entries stamp text) → AllByRecursion AreKept kept
  kept_are asked kept came =
      subst (AllByRecursion AreKept) (sym came.2) (slots_kept asked entries came.0 (text_writes conf entries stamp text came.0 came.1).rows_fit.each)

  pub reads_keys : (asked : AskedTexts) (ks : List SlotKey) (part : whole.Stored) → HasExactly asked ks → part.conf ≡ conf → Comes asked part.slots (rows_in conf entries stamp text)
      → whole.ReadsKeys ks (whole.index_in conf entries stamp text) part
  reads_keys asked ks part exact same came = (
    whole.stored conf came.0,
    ap with_conf came.1,
    record {
      conf = same;
      keys = all_shown asked part conf came.0 came.2 ks (all_asked asked ks exact);
      alone = λ slot key none.
          ap (λ (slots : List (List keys.Row)). keys.members_at (get_or slots slot []) key) came.2
          ∙ no_members asked key (exact (key_text key) ∙ none) came.0 slot;
    },
  )

  pub reads_all : (x : whole.Stored) → x.conf ≡ conf → Comes Every x.slots (rows_in conf entries stamp text) → whole.index_in conf entries stamp text ≡ Ok x
  reads_all x same came = ap with_conf came.1 ∙ ap (λ (y : whole.Stored). Ok y) (sym whole_is)
    where
      whole_is : x ≡ whole.stored conf came.0
      whole_is = λ i. record { conf = same i; slots = (came.2 ∙ same_slots came.0) i }

-- ---- what a call answered

module _ (conf : Conf) (entries : ℕ) (stamp : List ℕ) (left : Option (List ℕ)) where
  abbrev Came : AskedTexts → whole.Stored → Type 0
  Came asked x = whole.HasText left (λ text. Comes asked x.slots (rows_in conf entries stamp text))

  pub as_whole : (r : Result whole.Stored IndexFault) → IfOk r (λ x. x.conf ≡ conf) → IfOk r (Came Every) → IfOk r (λ x. whole.HasText left (λ text. whole.index_in conf entries stamp text ≡ Ok x))
  as_whole (Ok x) same came = record { text = came.text; left_is = came.left_is; says = reads_all conf entries stamp came.text x same came.says }
  as_whole (Err e) same came = tt

  pub as_asked : (asked : AskedTexts) (ks : List SlotKey) → HasExactly asked ks → (r : Result whole.Stored IndexFault) → IfOk r (λ x. x.conf ≡ conf) → IfOk r (Came asked)
      → IfOk r (λ x. whole.HasText left (λ text. whole.ReadsKeys ks (whole.index_in conf entries stamp text) x))
  as_asked asked ks exact (Ok x) same came = record { text = came.text; left_is = came.left_is; says = reads_keys conf entries stamp came.text asked ks x exact same came.says }
  as_asked asked ks exact (Err e) same came = tt

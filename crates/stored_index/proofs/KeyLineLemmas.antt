-- A line of a key, behind the last one as it is written.
use Rattle.std.proofs.Common.{◌≡◌, ℕ, Bool, true, false, List, [], ◌∷◌, Option, Some, None, Ok, Err, is_ok, is_lt, refl, ap, ◌∙◌}
use Rattle.std.specs.Cmp.Lexicographic.{slice_cmp}
use Rattle.std.specs.List.{AllByRecursion}
use Rattle.std.specs.Ordering.{nat_cmp}
use Rattle.hex.specs.Hex.{encode_with}
use Rattle.index_text.specs.KeySets as keys
use Rattle.index_text.specs.IndexTexts.{key_text}
use Rattle.stored_index.specs.KeyLines.{is_above}
use Rattle.stored_index.specs.Rows.{IsByte}
use Rattle.stored_index.specs.Stored.{kept_row}
use Rattle.stored_index.specs.Words.{key_in}
use Rattle.stored_index.specs.inner.Kept.{IsLast, kept_if}
use Rattle.stored_index.specs.inner.Reads.{SetIfAsked}
use Rattle.stored_index.specs.declared.fault.IndexFaultKind.{IndexFaultKind}
use Rattle.stored_index.specs.declared.fault.IndexFaultKind.TheVariants.{Form}
use Rattle.stored_index.proofs.KeyLaws.{Text, key_writes}
use Rattle.stored_index.proofs.KeyOrder.{key_texts_order}
use Rattle.stored_index.proofs.RowFaults.{key_form}

-- ---- whether a word writes a key

pub no_key : (word : List ℕ) → is_ok (key_in word) ≡ false → key_in word ≡ Err Form
no_key word h = by (key_in word) refl h
  where
    by : (r : Text) → key_in word ≡ r → is_ok r ≡ false → key_in word ≡ Err Form
    by (Ok key) is h = absurd cc
    by (Err fault) is h = is ∙ ap (λ (k : IndexFaultKind). let r : Text = Err k in r) (key_form word fault is)

pub a_key : (word : List ℕ) → is_ok (key_in word) ≡ true → (key : List ℕ) × (key_in word ≡ Ok key)
a_key word h = by (key_in word) refl h
  where
    by : (r : Text) → key_in word ≡ r → is_ok r ≡ true → (key : List ℕ) × (key_in word ≡ Ok key)
    by (Ok key) is h = (key, is)
    by (Err fault) is h = absurd cc

-- ---- order

above_nothing : (key : List ℕ) → is_lt (slice_cmp nat_cmp [] (key_text key)) ≡ true
unfolding encode_with
above_nothing [] = refl
above_nothing (b ∷ bs) = refl

above_last : (before : Option (List ℕ)) (last_word key : List ℕ) → IsLast before last_word → AllByRecursion IsByte key → is_lt (slice_cmp nat_cmp last_word (key_text key)) ≡ is_above before key
above_last None last_word key last all = ap (λ (word : List ℕ). is_lt (slice_cmp nat_cmp word (key_text key))) last ∙ above_nothing key
above_last (Some b) last_word key last all = ap (λ (word : List ℕ). is_lt (slice_cmp nat_cmp word (key_text key))) last.0 ∙ key_texts_order b key last.1 all

pub in_order : (before : Option (List ℕ)) (last_word word key : List ℕ) → IsLast before last_word → key_in word ≡ Ok key → is_lt (slice_cmp nat_cmp last_word word) ≡ is_above before key
in_order before last_word word key last e =
    let written = key_writes word key e in
    ap (λ (word : List ℕ). is_lt (slice_cmp nat_cmp last_word word)) written.0 ∙ above_last before last_word key last written.1

-- ---- what is kept

pub kept_is : (asked : Bool) (key ranks : List ℕ) (members : keys.Members) → SetIfAsked asked ranks members → kept_if asked (key, members) ≡ kept_if asked (kept_row (key, ranks))
kept_is true key ranks members set = ap (λ (members : keys.Members). kept_if true (key, members)) (set refl)
kept_is false key ranks members set = refl

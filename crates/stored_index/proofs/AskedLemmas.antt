-- A text is put to those that are asked for.
use Rattle.std.proofs.Common.{◌≡◌, ℕ, ◌+◌, ◌<◌, Bool, true, false, ◌||◌, List, [], ◌∷◌, length, get_or, take, Ordering, Less, Equal, Greater, refl, sym, ap, ◌∙◌}
use Rattle.std.proofs.lemmas.List.{take_more}
use Rattle.std.proofs.lemmas.List.Folds.{list_any-append}
use Rattle.std.specs.List.{list_any}
use Rattle.std.specs.Str.{bytes_eq}
use Rattle.index_text.specs.declared.slot_key.SlotKey.{SlotKey}
use Rattle.index_text.specs.IndexTexts.{key_text}
use Rattle.stored_index.specs.Stored.{is_written_as}
use Rattle.std.specs.Ordering.{match_ordering}
use Rattle.std.specs.BTreeSet.{insert_key}

turned : (a b c : Bool) → (b || (a || c)) ≡ (a || (b || c))
turned true true c = refl
turned true false c = refl
turned false b c = refl

twice : (a b : Bool) → (a || b) ≡ (a || (a || b))
twice true b = refl
twice false b = refl

module _ {K : Type 0} (cmp : K → K → Ordering) (test : K → Bool) (k : K) (tied : (x : K) → cmp k x ≡ Equal → test x ≡ test k) where
  -- a test is passed by one of them where it was before, or where what came passes it
  pub passed : (ks : List K) → list_any test (insert_key cmp ks k) ≡ (test k || list_any test ks)
  passed [] = refl
  passed (x ∷ xs) = by (passed xs) (cmp k x) refl
    where
      by : list_any test (insert_key cmp xs k) ≡ (test k || list_any test xs) → (o : Ordering) → cmp k x ≡ o
          → list_any test (match_ordering o (k ∷ x ∷ xs) (x ∷ xs) (x ∷ insert_key cmp xs k)) ≡ (test k || (test x || list_any test xs))
      by rest Less is = refl
      by rest Equal is =
          twice (test x) (list_any test xs)
          ∙ ap (λ (b : Bool). b || (test x || list_any test xs)) (tied x is)
      by rest Greater is = ap (λ (b : Bool). test x || b) rest ∙ turned (test k) (test x) (list_any test xs)

-- one key more
pub one_more : (keys : List SlotKey) (i : ℕ) (d : SlotKey) (word : List ℕ) → i < length keys
    → (bytes_eq word (key_text (get_or keys i d).key) || is_written_as (take i keys) word) ≡ is_written_as (take (i + 1) keys) word
one_more keys i d word lt =
    last_first (bytes_eq word (key_text (get_or keys i d).key)) (is_written_as (take i keys) word)
    ∙ sym (list_any-append (λ (k : SlotKey). bytes_eq word (key_text k.key)) (take i keys) (get_or keys i d ∷ []))
    ∙ ap (λ (ks : List SlotKey). is_written_as ks word) (sym (take_more keys i d lt))
  where
    last_first : (a b : Bool) → (a || b) ≡ (b || (a || false))
    last_first true true = refl
    last_first true false = refl
    last_first false true = refl
    last_first false false = refl

-- Normal forms that are the same from the first on, and what those behind them give.
use Rattle.std.proofs.Common.{◌≡◌, ℕ, zero, suc, ◌+◌, Bool, true, false, cond, not, ◌&&◌, ◌||◌, List, [], ◌∷◌, ◌++◌, take, drop, Option, Some, None, refl, sym, ap, ◌∙◌, add-one, arith}
use Rattle.std.specs.List.{list_any, flat_map, zip, prefix_len}
use Rattle.std.specs.Map.Iter.{TakesFirst}
use Rattle.std.specs.Str.{bytes_eq}
use Rattle.std.proofs.lemmas.Grind.{flat_map-append}
use Rattle.std.proofs.lemmas.List.{take-append-drop}
use Rattle.std.proofs.lemmas.List.Folds.{list_any-append}
use Rattle.schema.specs.declared.slots.IndexKind.{IndexKind}
use Rattle.schema.specs.declared.slots.IndexKind.TheVariants.{Equality, Presence, Substrings}
use Rattle.index_keys.specs.EntryKeys.{windows, gives_key}
use Rattle.index_text.proofs.SlotKeyOrder.{same_bytes}

-- ---- one more

one_drop : {A : Type 0} (i : ℕ) (xs : List A) → drop 1 (drop i xs) ≡ drop (suc i) xs
one_drop zero [] = refl
one_drop zero (x ∷ xs) = refl
one_drop (suc i) [] = refl
one_drop (suc i) (x ∷ xs) = one_drop i xs

pub drop_next : {A : Type 0} (i : ℕ) (xs s t : List A) → s ≡ drop i xs → t ≡ drop 1 s → t ≡ drop (i + 1) xs
drop_next i xs s t is next = next ∙ ap (drop 1) is ∙ one_drop i xs ∙ ap (λ n. drop n xs) (sym (add-one i))

pub step : {A X : Type 0} (shows : A → X) (s t : List X) (r : Option A) → TakesFirst shows s r t → t ≡ drop 1 s
step shows s t None h = h.1 ∙ sym (ap (drop 1) h.0)
step shows s t (Some x) h = sym (ap (drop 1) h)

-- ---- as many as are the same, and no more than can be counted

abbrev pub are_same : List ℕ × List ℕ → Bool
are_same both = bytes_eq both.0 both.1

abbrev pub same_len : ℕ → List (List ℕ) → List (List ℕ) → ℕ
same_len n xs ys = prefix_len are_same (take n (zip xs ys))

pub same_front : (n : ℕ) (xs ys : List (List ℕ)) → take (same_len n xs ys) xs ≡ take (same_len n xs ys) ys
same_front zero xs ys = refl
same_front (suc n) [] ys = refl
same_front (suc n) (x ∷ xs) [] = refl
same_front (suc n) (x ∷ xs) (y ∷ ys) = by (same_front n xs ys) (bytes_eq x y) refl
  where
    one_more : 1 + same_len n xs ys ≡ suc (same_len n xs ys)
    one_more = omega arith

    by : take (same_len n xs ys) xs ≡ take (same_len n xs ys) ys → (b : Bool) → bytes_eq x y ≡ b → take (cond b (1 + same_len n xs ys) 0) (x ∷ xs) ≡ take (cond b (1 + same_len n xs ys) 0) (y ∷ ys)
    by rest true e = rw one_more (λ i. same_bytes x y e i ∷ rest i)
    by rest false e = refl

-- ---- what they give

pub gives_none : (kind : IndexKind) (key : List ℕ) → gives_key kind [] key ≡ false
gives_none Equality key = refl
gives_none Presence key = refl
gives_none Substrings key = refl

pub none_behind : (kind : IndexKind) (front : ℕ) (key : List ℕ) → gives_key kind (drop front []) key ≡ false
none_behind kind zero key = gives_none kind key
none_behind kind (suc n) key = gives_none kind key

gives-append : (kind : IndexKind) (xs ys : List (List ℕ)) (q : List ℕ) → gives_key kind (xs ++ ys) q ≡ (gives_key kind xs q || gives_key kind ys q)
gives-append Equality xs ys q = list_any-append (λ k. bytes_eq k q) xs ys
gives-append Presence [] ys q = refl
gives-append Presence (x ∷ xs) [] q = by (bytes_eq [] q)
  where
    by : (b : Bool) → (b || false) ≡ ((b || false) || false)
    by true = refl
    by false = refl
gives-append Presence (x ∷ xs) (y ∷ ys) q = by (bytes_eq [] q)
  where
    by : (b : Bool) → (b || false) ≡ ((b || false) || (b || false))
    by true = refl
    by false = refl
gives-append Substrings xs ys q = ap (list_any (λ k. bytes_eq k q)) (flat_map-append windows xs ys) ∙ list_any-append (λ k. bytes_eq k q) (flat_map windows xs) (flat_map windows ys)

split : (kind : IndexKind) (n : ℕ) (xs : List (List ℕ)) (q : List ℕ) → gives_key kind xs q ≡ (gives_key kind (take n xs) q || gives_key kind (drop n xs) q)
split kind n xs q = ap (λ ys. gives_key kind ys q) (sym (take-append-drop n xs)) ∙ gives-append kind (take n xs) (drop n xs) q

-- only what those behind the same front give can come
pub behind_front : (kind : IndexKind) (n : ℕ) (before after : List (List ℕ)) → take n before ≡ take n after → (q : List ℕ)
    → (gives_key kind (drop n after) q && not (gives_key kind before q && gives_key kind (drop n after) q)) ≡ (gives_key kind after q && not (gives_key kind before q))
behind_front kind n before after same q =
    ap (λ x. gives_key kind (drop n after) q && not (x && gives_key kind (drop n after) q)) was
    ∙ by (gives_key kind (take n after) q) (gives_key kind (drop n after) q) (gives_key kind (drop n before) q)
    ∙ (λ i. sym (split kind n after q) i && not (sym was i))
  where
    was : gives_key kind before q ≡ (gives_key kind (take n after) q || gives_key kind (drop n before) q)
    was = split kind n before q ∙ ap (λ xs. gives_key kind xs q || gives_key kind (drop n before) q) same

    by : (p a b : Bool) → (a && not ((p || b) && a)) ≡ ((p || a) && not (p || b))
    by true true b = refl
    by true false b = refl
    by false true true = refl
    by false true false = refl
    by false false b = refl

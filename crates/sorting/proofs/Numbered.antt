-- The last number of each name, as names come.
use Rattle.std.proofs.Common.{◌≡◌, ℕ, ◌+◌, ◌<◌, ◌≤◌, max, Bool, true, false, cond, List, [], ◌∷◌, ◌++◌, length, get_or as slice_index_or, take, Option, Some, refl, sym, ap, ◌∙◌, arith}
use Rattle.std.specs.Str.{bytes_eq}
use Rattle.std.specs.BTreeMap.{BTreeMap, get}
use Rattle.std.specs.Cmp.Lexicographic.{slice_cmp}
use Rattle.std.specs.Ordering.{nat_cmp, is_eq}
use Rattle.std.proofs.lemmas.List.{take_more, length-take}
use Rattle.std.proofs.lemmas.Map.Text.{is_eq-slice_cmp}
use Rattle.sorting.specs.Turns.{is_named, last_from, last_named}
use Rattle.sorting.specs.declared.normal_names.NormalName.{NormalName}
use Rattle.sorting.specs.inner.Numbers.{or_zero, number_at, AreLastNumbers}

abbrev pub Names : Type 0
Names = List (Option NormalName)

below : (n : ℕ) (names : Names) (text : List ℕ) → last_from n names text ≤ n + length names
unfolding last_from
below n [] text = omega arith
below n (name ∷ names) text = let h = below (n + 1) names text in by (is_named text name) h
  where
    by : (b : Bool) → last_from (n + 1) names text ≤ n + 1 + length names → max (cond b n 0) (last_from (n + 1) names text) ≤ n + length (name ∷ names)
    by true h = omega (arith, h)
    by false h = omega (arith, h)

-- one more at the end
last_push : (n : ℕ) (names : Names) (name : Option NormalName) (text : List ℕ) → last_from n (names ++ name ∷ []) text ≡ cond (is_named text name) (n + length names) (last_from n names text)
unfolding last_from
last_push n [] name text = by (is_named text name)
  where
    by : (b : Bool) → max (cond b n 0) 0 ≡ cond b (n + 0) 0
    by true = omega arith
    by false = omega arith
last_push n (first ∷ names) name text =
    ap (max (cond (is_named text first) n 0)) (last_push (n + 1) names name text)
    ∙ by (is_named text name) (is_named text first) (below (n + 1) names text)
  where
    by : (b c : Bool) → last_from (n + 1) names text ≤ n + 1 + length names
        → max (cond c n 0) (cond b (n + 1 + length names) (last_from (n + 1) names text)) ≡ cond b (n + length (first ∷ names)) (max (cond c n 0) (last_from (n + 1) names text))
    by true true h = omega (arith, h)
    by true false h = omega (arith, h)
    by false c h = refl

taken_one : (names : Names) (i : ℕ) (name : Option NormalName) (text : List ℕ) → i < length names → name ≡ slice_index_or names i name
    → last_named (take (i + 1) names) text ≡ cond (is_named text name) i (last_named (take i names) text)
taken_one names i name text lt is =
    ap (λ (ns : Names). last_named ns text) (take_more names i name lt ∙ ap (λ (x : Option NormalName). take i names ++ x ∷ []) (sym is))
    ∙ last_push 0 (take i names) name text
    ∙ ap (λ (n : ℕ). cond (is_named text name) n (last_named (take i names) text)) long
  where
    long : 0 + length (take i names) ≡ i
    long = let e = length-take i names in omega (arith, e, lt)

-- a stanza more
pub one_more : (names : Names) (i : ℕ) (name : Option NormalName) (m new : BTreeMap (List ℕ) ℕ) → i < length names → name ≡ slice_index_or names i name → AreLastNumbers (take i names) m
    → ((text : List ℕ) → number_at new text ≡ cond (is_named text name) i (number_at m text)) → AreLastNumbers (take (i + 1) names) new
one_more names i name m new lt is h update text = update text ∙ ap (cond (is_named text name) i) (h text) ∙ sym (taken_one names i name text lt is)

pub put : (name : NormalName) (key : List ℕ) (o : Option NormalName) (i : ℕ) (m new : BTreeMap (List ℕ) ℕ) → key ≡ name.text → o ≡ Some name
    → ((q : List ℕ) → get (slice_cmp nat_cmp) new q ≡ cond (is_eq (slice_cmp nat_cmp key q)) (Some i) (get (slice_cmp nat_cmp) m q))
    → (text : List ℕ) → number_at new text ≡ cond (is_named text o) i (number_at m text)
put name key o i m new is named update text =
    ap or_zero (update text ∙ ap (λ b. cond b (Some i) (get (slice_cmp nat_cmp) m text)) (is_eq-slice_cmp key text))
    ∙ by (bytes_eq key text)
    ∙ ap (λ (k : List ℕ). cond (bytes_eq k text) i (number_at m text)) is
    ∙ ap (λ (x : Option NormalName). cond (is_named text x) i (number_at m text)) (sym named)
  where
    by : (b : Bool) → or_zero (cond b (Some i) (get (slice_cmp nat_cmp) m text)) ≡ cond b i (or_zero (get (slice_cmp nat_cmp) m text))
    by true = refl
    by false = refl

-- Fields in another order say the same.
use Rattle.std.proofs.Common.{◌≡◌, ℕ, ◌+◌, ◌≤◌, Bool, true, cond, List, [], ◌∷◌, length, Option, Some, None, count_by, filter_map, IsPermutation, refl, sym, ap, subst, ◌∙◌, arith}
use Rattle.std.specs.List.{AllByRecursion, cons_option}
use Rattle.std.proofs.lemmas.List.Elements.{All-from_recursion, recursion_from_All}
use Rattle.std.proofs.lemmas.List.Sorted.{IsPermutation-sym, All-permutation, sum_by-IsPermutation}
use Rattle.definitions.specs.Words.{◌>>>◌}
use Rattle.definitions.specs.Elements.{is_word}
use Rattle.definitions.specs.Grammar.{AreApart}
use Rattle.definitions.proofs.There.{IfThere}
use Rattle.definitions.proofs.FieldsRead.{put_all}
use Rattle.definitions.proofs.Said.{passes, one_if, counts_first, PutsOne, all_put, put_only}

pub same_count : {F : Type 0} (test : F → Bool) (xs ys : List F) → IsPermutation xs ys → count_by test ys ≡ count_by test xs
same_count test xs ys moved = sum_by-IsPermutation (λ x. cond (test x) 1 0) xs ys moved

-- ---- what is said at most once

abbrev is_there : {A : Type 0} → Option A → Bool
is_there o = passes (λ x. true) o

length_by : {A : Type 0} (o : Option A) (xs : List A) (n : ℕ) → length xs ≡ n → length (cons_option o xs) ≡ one_if (is_there o) + n
length_by None xs n e = omega arith
length_by (Some x) xs n e = omega arith

said_count : {F A : Type 0} (says : F → Option A) (fs : List F) → length (filter_map says fs) ≡ count_by (λ f. is_there (says f)) fs
said_count says [] = refl
said_count says (f ∷ fs) = length_by (says f) (filter_map says fs) (count_by (λ f. is_there (says f)) fs) (said_count says fs) ∙ sym (counts_first (λ f. is_there (says f)) f fs)

apart_by : {A : Type 0} (P : A → Type 0) (o : Option A) (xs : List A) → AllByRecursion P (cons_option o xs) → IfThere P o × AllByRecursion P xs
apart_by P None xs h = (tt, h)
apart_by P (Some x) xs h = h

together_by : {A : Type 0} (P : A → Type 0) (o : Option A) (xs : List A) → IfThere P o → AllByRecursion P xs → AllByRecursion P (cons_option o xs)
together_by P None xs h k = k
together_by P (Some x) xs h k = (h, k)

module _ {F A : Type 0} (says : F → Option A) (P : A → Type 0) where
  each_field : (fs : List F) → AllByRecursion P (filter_map says fs) → AllByRecursion (λ f. IfThere P (says f)) fs
  each_field [] h = tt
  each_field (f ∷ fs) h = let k = apart_by P (says f) (filter_map says fs) h in (k.0, each_field fs k.1)

  each_said : (fs : List F) → AllByRecursion (λ f. IfThere P (says f)) fs → AllByRecursion P (filter_map says fs)
  each_said [] h = tt
  each_said (f ∷ fs) h = together_by P (says f) (filter_map says fs) h.0 (each_said fs h.1)

  each_moved : (fs gs : List F) → IsPermutation fs gs → AllByRecursion P (filter_map says fs) → AllByRecursion P (filter_map says gs)
  each_moved fs gs moved h =
      each_said gs (recursion_from_All (λ f. IfThere P (says f)) gs (All-permutation (λ f. IfThere P (says f)) fs gs moved (All-from_recursion (λ f. IfThere P (says f)) fs (each_field fs h))))

nothing_else : {A : Type 0} (xs : List A) → length xs ≡ 0 → xs ≡ []
nothing_else [] e = refl
nothing_else (x ∷ xs) e = absurd (omega arith)

one_else : {A : Type 0} (x : A) (ys : List A) → length ys ≡ 1 → AllByRecursion (λ y. y ≡ x) ys → ys ≡ x ∷ []
one_else x [] e h = absurd cc
one_else x (y ∷ []) e h = ap (λ z. z ∷ []) h.0
one_else x (y ∷ z ∷ zs) e h = absurd (omega arith)

pub said_alike : {F A : Type 0} (says : F → Option A) (fs gs : List F) → IsPermutation fs gs → count_by (λ f. is_there (says f)) fs ≤ 1 → filter_map says fs ≡ filter_map says gs
said_alike {A = A} says fs gs moved once = by (filter_map says fs) refl where
  lengths : length (filter_map says gs) ≡ length (filter_map says fs)
  lengths = said_count says gs ∙ same_count (λ f. is_there (says f)) fs gs moved ∙ sym (said_count says fs)

  by : (xs : List A) → filter_map says fs ≡ xs → filter_map says fs ≡ filter_map says gs
  by [] e = e ∙ sym (nothing_else (filter_map says gs) (lengths ∙ ap length e))
  by (x ∷ []) e = e ∙ sym (one_else x (filter_map says gs) (lengths ∙ ap length e) (each_moved says (λ y. y ≡ x) fs gs moved (subst (AllByRecursion (λ y. y ≡ x)) (sym e) (refl, tt))))
  by (x ∷ y ∷ ys) e = absurd (omega (arith, once, said_count says fs, ap length e))

pub counts_alike : {F : Type 0} (IsGood : F → Type 0) (test other : F → Bool) → ((f : F) → IsGood f → test f ≡ other f) → (fs : List F) → AllByRecursion IsGood fs → count_by test fs ≡ count_by other fs
counts_alike IsGood test other same [] h = refl
counts_alike IsGood test other same (f ∷ fs) h = counts_first test f fs ∙ (λ i. one_if (same f h.0 i) + counts_alike IsGood test other same fs h.1 i) ∙ sym (counts_first other f fs)

-- what is said of what is said
twice_by : {A B : Type 0} (inner : A → Option B) (o : Option A) (xs : List A) → filter_map inner (cons_option o xs) ≡ cons_option (o >>> inner) (filter_map inner xs)
twice_by inner None xs = refl
twice_by inner (Some x) xs = refl

pub said_twice : {F A B : Type 0} (says : F → Option A) (inner : A → Option B) (fs : List F) → filter_map inner (filter_map says fs) ≡ filter_map (λ f. says f >>> inner) fs
said_twice says inner [] = refl
said_twice says inner (f ∷ fs) = twice_by inner (says f) (filter_map says fs) ∙ ap (cons_option (says f >>> inner)) (said_twice says inner fs)

-- ---- what is put

pub apart_moved : {F : Type 0} (word_of : F → List ℕ) (fs gs : List F) → IsPermutation fs gs → AreApart word_of fs → AreApart word_of gs
apart_moved word_of fs gs moved apart word = omega (arith, apart word, same_count (λ field. is_word word (word_of field)) fs gs moved)

module _ {D F : Type 0} (put : D → F → Option D) (word_of : F → List ℕ) (IsGood : F → Type 0) (said_by : List F → D) (puts : PutsOne put word_of IsGood said_by) where
  none_apart : AreApart word_of []
  none_apart word = omega arith

  some : D → Option D
  some d = Some d

  module _ (fs gs : List F) (good : AllByRecursion IsGood fs) (also : AllByRecursion IsGood gs) (moved : IsPermutation fs gs) (same : AreApart word_of fs → said_by fs ≡ said_by gs) where
    both : AreApart word_of fs → put_all put (said_by []) fs ≡ put_all put (said_by []) gs
    unfolding some
    both apart =
        all_put put word_of IsGood said_by puts [] fs tt good apart
        ∙ ap some (same apart)
        ∙ sym (all_put put word_of IsGood said_by puts [] gs tt also (apart_moved word_of fs gs moved apart))

    pub put_alike : put_all put (said_by []) fs ≡ put_all put (said_by []) gs
    put_alike = by (put_all put (said_by []) fs) refl (put_all put (said_by []) gs) refl where
      by : (o : Option D) → put_all put (said_by []) fs ≡ o → (p : Option D) → put_all put (said_by []) gs ≡ p → put_all put (said_by []) fs ≡ put_all put (said_by []) gs
      by (Some d) e p f = both (put_only put word_of IsGood said_by puts [] fs d tt good none_apart e).0
      by None e (Some d) f = both (apart_moved word_of gs fs (IsPermutation-sym fs gs moved) (put_only put word_of IsGood said_by puts [] gs d tt also none_apart f).0)
      by None e None f = e ∙ sym f

-- Fields that are put one after the other say together what each says, and no two have the same word.
use Rattle.std.proofs.Common.{◌≡◌, ℕ, ◌+◌, ◌≤◌, Bool, true, false, cond, ◌||◌, List, [], ◌∷◌, ◌++◌, Option, Some, None, is_some, count_by, filter_map, refl, sym, ap, subst, ◌∙◌, append_assoc, append-nil, arith}
use Rattle.std.specs.List.{AllByRecursion, list_any, cons_option}
use Rattle.std.specs.Str.{bytes_eq, str_to_ascii_lowercase}
use Rattle.std.proofs.lemmas.List.Sums.{sum_by-append}
use Rattle.std.proofs.lemmas.List.Elements.{filter_map-append}
use Rattle.definitions.specs.Words.{◌>>>◌}
use Rattle.definitions.specs.Elements.{is_word, unless, is_some_list}
use Rattle.definitions.specs.Grammar.{AreApart, first}
use Rattle.definitions.proofs.FieldsRead.{put_all}
use Rattle.definitions.proofs.Keywords.{lowered, alike}

-- ---- lists

pub each_push : {F : Type 0} (IsGood : F → Type 0) (fs : List F) (f : F) → AllByRecursion IsGood fs → IsGood f → AllByRecursion IsGood (fs ++ f ∷ [])
each_push IsGood [] f h g = (g, tt)
each_push IsGood (x ∷ xs) f h g = (h.0, each_push IsGood xs f h.1 g)

abbrev pub with_more : {A : Type 0} → Option A → List A → List A
with_more None xs = xs
with_more (Some x) xs = xs ++ x ∷ []

more_by : {A : Type 0} (o : Option A) (xs : List A) → xs ++ cons_option o [] ≡ with_more o xs
more_by None xs = append-nil xs
more_by (Some x) xs = refl

pub pushed : {F A : Type 0} (says : F → Option A) (fs : List F) (f : F) → filter_map says (fs ++ f ∷ []) ≡ with_more (says f) (filter_map says fs)
pushed says fs f = filter_map-append says fs (f ∷ []) ∙ more_by (says f) (filter_map says fs)

abbrev pub passes : {A : Type 0} → (A → Bool) → Option A → Bool
passes test None = false
passes test (Some x) = test x

said_by_cases : {A : Type 0} (inner : A → Bool) (o : Option A) (xs : List A) → (passes inner o || list_any inner xs) ≡ list_any inner (cons_option o xs)
said_by_cases inner None xs = refl
said_by_cases inner (Some x) xs = refl

-- some field passes exactly where something that is said does
pub any_said : {F A : Type 0} (IsGood : F → Type 0) (test : F → Bool) (says : F → Option A) (inner : A → Bool) → ((f : F) → IsGood f → test f ≡ passes inner (says f))
    → (fs : List F) → AllByRecursion IsGood fs → list_any test fs ≡ list_any inner (filter_map says fs)
any_said IsGood test says inner same [] h = refl
any_said IsGood test says inner same (f ∷ fs) h = (λ i. same f h.0 i || any_said IsGood test says inner same fs h.1 i) ∙ said_by_cases inner (says f) (filter_map says fs)

pub all_pass : {A : Type 0} (xs : List A) → list_any (λ x. true) xs ≡ is_some_list xs
all_pass [] = refl
all_pass (x ∷ xs) = refl

-- what is put where nothing is said yet
pub put_first : {D A : Type 0} (with : Option A → D) (xs : List A) (x : A) → unless (is_some (first xs)) (with (Some x)) ≡ unless (is_some_list xs) (with (first (xs ++ x ∷ [])))
put_first with [] x = refl
put_first with (y ∷ ys) x = refl

pub put_flag : {D A : Type 0} (with : Bool → D) (xs : List A) (x : A) → unless (is_some_list xs) (with true) ≡ unless (is_some_list xs) (with (is_some_list (xs ++ x ∷ [])))
put_flag with [] x = refl
put_flag with (y ∷ ys) x = refl

-- ---- each at most once

abbrev pub one_if : Bool → ℕ
one_if t = cond t 1 0

pub counted : {F : Type 0} (test : F → Bool) (xs ys : List F) → count_by test (xs ++ ys) ≡ count_by test xs + count_by test ys
counted test xs ys = sum_by-append (λ x. cond (test x) 1 0) xs ys

pub counts_first : {F : Type 0} (test : F → Bool) (f : F) (fs : List F) → count_by test (f ∷ fs) ≡ one_if (test f) + count_by test fs
counts_first test f fs = counted test (f ∷ []) fs ∙ ap (λ (n : ℕ). n + count_by test fs) (plus (one_if (test f))) where
  plus : (n : ℕ) → 0 + n ≡ n
  plus n = omega arith

no_one : (t : Bool) (n : ℕ) (rest : Bool) → cond t 1 0 + n ≡ 0 → (n ≡ 0 → rest ≡ false) → (t || rest) ≡ false
no_one true n rest h k = absurd (omega arith)
no_one false n rest h k = k (omega arith)

none_counted : {F : Type 0} (test : F → Bool) (fs : List F) → count_by test fs ≡ 0 → list_any test fs ≡ false
none_counted test [] h = refl
none_counted test (f ∷ fs) h = no_one (test f) (count_by test fs) (list_any test fs) (sym (counts_first test f fs) ∙ h) (none_counted test fs)

adds_none : (t : Bool) (n : ℕ) (rest : Bool) → (t || rest) ≡ false → (rest ≡ false → n ≡ 0) → cond t 1 0 + n ≡ 0
adds_none true n rest h k = absurd cc
adds_none false n rest h k = let none = k h in omega arith

none_found : {F : Type 0} (test : F → Bool) (fs : List F) → list_any test fs ≡ false → count_by test fs ≡ 0
none_found test [] h = refl
none_found test (f ∷ fs) h = counts_first test f fs ∙ adds_none (test f) (count_by test fs) (list_any test fs) h (none_found test fs)

module _ {D F : Type 0} (put : D → F → Option D) (word_of : F → List ℕ) (IsGood : F → Type 0) (said_by : List F → D) where
  abbrev pub is_like : F → F → Bool
  is_like f g = is_word (word_of f) (word_of g)

  abbrev pub PutsOne : Type 0
  PutsOne = (fs : List F) (f : F) → AllByRecursion IsGood fs → IsGood f → put (said_by fs) f ≡ unless (list_any (is_like f) fs) (said_by (fs ++ f ∷ []))

  alone : (fs : List F) (f : F) (gs : List F) → AreApart word_of (fs ++ f ∷ gs) → list_any (is_like f) fs ≡ false
  alone fs f gs apart =
      let once = apart (word_of f) in
      let itself : one_if (is_like f f) ≡ 1 = ap one_if (alike (word_of f) (word_of f) refl) in
      none_counted (is_like f) fs (omega (arith, once, itself, counted (is_like f) fs (f ∷ gs), counts_first (is_like f) f gs))

  same_test : (word : List ℕ) (f : F) → is_word word (word_of f) ≡ true → ◌≡◌ {A = F → Bool} (λ g. is_word word (word_of g)) (is_like f)
  same_test word f h = (λ i g. bytes_eq (str_to_ascii_lowercase (word_of g)) (sym (lowered word (word_of f) h) i))

  still_apart : (fs : List F) (f : F) → AreApart word_of fs → list_any (is_like f) fs ≡ false → AreApart word_of (fs ++ f ∷ [])
  still_apart fs f apart none word = by (is_word word (word_of f)) refl where
    by : (t : Bool) → is_word word (word_of f) ≡ t → count_by (λ g. is_word word (word_of g)) (fs ++ f ∷ []) ≤ 1
    by true e =
        let last : one_if (is_word word (word_of f)) ≡ 1 = ap one_if e in
        let zero : count_by (λ g. is_word word (word_of g)) fs ≡ 0 = ap (λ (t : F → Bool). count_by t fs) (same_test word f e) ∙ none_found (is_like f) fs none in
        omega (arith, zero, last, counted (λ g. is_word word (word_of g)) fs (f ∷ []), counts_first (λ g. is_word word (word_of g)) f [])
    by false e =
        let last : one_if (is_word word (word_of f)) ≡ 0 = ap one_if e in
        omega (arith, apart word, last, counted (λ g. is_word word (word_of g)) fs (f ∷ []), counts_first (λ g. is_word word (word_of g)) f [])

  module _ (puts : PutsOne) where
    pub all_put : (fs gs : List F) → AllByRecursion IsGood fs → AllByRecursion IsGood gs → AreApart word_of (fs ++ gs) → put_all put (said_by fs) gs ≡ Some (said_by (fs ++ gs))
    all_put fs [] h k apart = ap (λ (xs : List F). some (said_by xs)) (sym (append-nil fs)) where
      some : D → Option D
      some d = Some d
    all_put fs (g ∷ gs) h k apart =
        let seam = append_assoc fs (g ∷ []) gs in
        ap (λ (o : Option D). o >>> λ next. put_all put next gs) (puts fs g h k.0 ∙ ap (λ (t : Bool). unless t (said_by (fs ++ g ∷ []))) (alone fs g gs apart))
        ∙ all_put (fs ++ g ∷ []) gs (each_push IsGood fs g h k.0) k.1 (subst (AreApart word_of) (sym seam) apart)
        ∙ ap (λ (xs : List F). some (said_by xs)) seam where
          some : D → Option D
          some d = Some d

    one_put : (fs : List F) (g : F) (gs : List F) (d : D) → AllByRecursion IsGood fs → IsGood g → AreApart word_of fs → put_all put (said_by fs) (g ∷ gs) ≡ Some d → (t : Bool) → list_any (is_like g) fs ≡ t
        → (AreApart word_of (fs ++ g ∷ []) → put_all put (said_by (fs ++ g ∷ [])) gs ≡ Some d → AreApart word_of ((fs ++ g ∷ []) ++ gs) × (d ≡ said_by ((fs ++ g ∷ []) ++ gs)))
        → AreApart word_of (fs ++ g ∷ gs) × (d ≡ said_by (fs ++ g ∷ gs))
    one_put fs g gs d h good apart e true is on =
        let none : put (said_by fs) g ≡ None = puts fs g h good ∙ ap (λ (t : Bool). unless t (said_by (fs ++ g ∷ []))) is in
        absurd (let stuck = sym (ap (λ (o : Option D). o >>> λ next. put_all put next gs) none) ∙ e in cc)
    one_put fs g gs d h good apart e false is on =
        let next : put (said_by fs) g ≡ Some (said_by (fs ++ g ∷ [])) = puts fs g h good ∙ ap (λ (t : Bool). unless t (said_by (fs ++ g ∷ []))) is in
        let rest = on (still_apart fs g apart is) (sym (ap (λ (o : Option D). o >>> λ next. put_all put next gs) next) ∙ e) in
        let seam = append_assoc fs (g ∷ []) gs in
        (subst (AreApart word_of) seam rest.0, rest.1 ∙ ap said_by seam)

    pub put_only : (fs gs : List F) (d : D) → AllByRecursion IsGood fs → AllByRecursion IsGood gs → AreApart word_of fs → put_all put (said_by fs) gs ≡ Some d → AreApart word_of (fs ++ gs) × (d ≡ said_by (fs ++ gs))
    put_only fs [] d h k apart e =
        let same : said_by fs ≡ d = cc in
        (subst (AreApart word_of) (sym (append-nil fs)) apart, sym same ∙ ap said_by (sym (append-nil fs)))
    put_only fs (g ∷ gs) d h k apart e =
        one_put fs g gs d h k.0 apart e (list_any (is_like g) fs) refl (λ still f. put_only (fs ++ g ∷ []) gs d (each_push IsGood fs g h k.0) k.1 still f)

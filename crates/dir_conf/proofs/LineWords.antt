-- A line that begins with one keyword says something, begins with no blank and with no other keyword.
use Rattle.std.proofs.Common.{◌≡◌, ℕ, zero, suc, true, false, eqb, List, [], ◌∷◌, take, length, codes, refl, sym, ap, ◌∙◌, arith}
use Rattle.std.specs.Str.{bytes_eq, str_to_ascii_lowercase}
use Rattle.std.proofs.lemmas.Bool.{or_from, eqb-true, false_from_ne_true}
use Rattle.std.proofs.lemmas.Bool.Decides.{nat_tests}
use Rattle.std.proofs.lemmas.Slice.Eq.{bytes_eq-Decides}
use Rattle.definitions.specs.Words.{is_blank, end_of, first_word}
use Rattle.definitions.specs.Lines.{begins_blank}
use Rattle.definitions.proofs.Ends.{run_front}
use Rattle.dir_conf.specs.Configurations.{says_nothing, is_first}

abbrev lower : List ℕ → List ℕ
lower = str_to_ascii_lowercase

-- a word that is something, and no comment
pub record IsWord (word : List ℕ) : Type 0 where
  some : bytes_eq [] (lower word) ≡ false
  no_sign : (xs : List ℕ) → bytes_eq (lower (35 ∷ xs)) (lower word) ≡ false

pub type_word : IsWord (codes "attributetype")
type_word = record { some = refl; no_sign = λ xs. refl }

pub class_word : IsWord (codes "objectclass")
class_word = record { some = refl; no_sign = λ xs. refl }

pub suffix_word : IsWord (codes "suffix")
suffix_word = record { some = refl; no_sign = λ xs. refl }

pub index_word : IsWord (codes "index")
index_word = record { some = refl; no_sign = λ xs. refl }

some_len : (n : ℕ) → eqb (suc n) 0 ≡ false
some_len n = grind (arith, nat_tests)

-- a line begins with one word
pub no_other : (v w line : List ℕ) → bytes_eq (lower v) (lower w) ≡ false → is_first v line ≡ true → is_first w line ≡ false
no_other v w line apart h = false_from_ne_true (is_first w line) (λ k.
    let one = (bytes_eq-Decides (lower (first_word line)) (lower v)).0 h in
    let two = (bytes_eq-Decides (lower (first_word line)) (lower w)).0 k in
    let same = (bytes_eq-Decides (lower v) (lower w)).1 (sym one ∙ two) in
    let both = sym same ∙ apart in absurd cc)

module _ (word : List ℕ) (w : IsWord word) where
  is_some : (text : List ℕ) → first_word text ≡ [] → is_first word text ≡ false
  is_some text e = ap (λ (t : List ℕ). bytes_eq (lower t) (lower word)) e ∙ w.some

  no_sign_by : (n : ℕ) (bs : List ℕ) → bytes_eq (lower (take n (35 ∷ bs))) (lower word) ≡ false
  no_sign_by zero bs = w.some
  no_sign_by (suc n) bs = w.no_sign (take n bs)

  no_comment : (b : ℕ) (bs : List ℕ) → b ≡ 35 → is_first word (b ∷ bs) ≡ false
  no_comment b bs e = ap (λ (c : ℕ). is_first word (c ∷ bs)) e ∙ no_sign_by (end_of is_blank (35 ∷ bs)) bs

  isnt_both : (text : List ℕ) → is_first word text ≡ false → is_first word text ≡ true → ⊥
  isnt_both text isnt h = absurd (let both = sym isnt ∙ h in cc)

  nothing : (text : List ℕ) → is_first word text ≡ true → says_nothing text ≡ false
  nothing [] h = absurd (isnt_both [] w.some h)
  nothing (b ∷ bs) h = or_from (eqb (length (b ∷ bs)) 0) (eqb b 35) (some_len (length bs)) (false_from_ne_true (eqb b 35) (λ e. isnt_both (b ∷ bs) (no_comment b bs (eqb-true b 35 e)) h))

  blank : (text : List ℕ) → is_first word text ≡ true → begins_blank text ≡ false
  blank [] h = refl
  blank (b ∷ bs) h = false_from_ne_true (is_blank b) (λ e. isnt_both (b ∷ bs) (is_some (b ∷ bs) (run_front is_blank [] (b ∷ bs) refl e)) h)

  pub says_some : (text : List ℕ) → is_first word text ≡ true → (says_nothing text ≡ false) × (begins_blank text ≡ false)
  says_some text h = (nothing text h, blank text h)

-- what begins with a blank says something
pub blank_says_some : (text : List ℕ) → begins_blank text ≡ true → says_nothing text ≡ false
blank_says_some [] h = absurd cc
blank_says_some (b ∷ bs) h = or_from (eqb (length (b ∷ bs)) 0) (eqb b 35) (some_len (length bs)) (false_from_ne_true (eqb b 35) (λ e. no_blank b (eqb-true b 35 e) h))
  where
    no_blank : (b : ℕ) → b ≡ 35 → is_blank b ≡ true → ⊥
    no_blank b e h = absurd (let sharp = ap is_blank (sym e) ∙ h in cc)

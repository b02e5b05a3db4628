-- The words of fields, without case: which is which.
use Rattle.std.proofs.Common.{◌≡◌, ℕ, suc, arith, Bool, true, false, not, ◌&&◌, eqb, ltb, List, [], ◌∷◌, take, length, ◌⊎◌, inl, inr, refl, ap, ◌∙◌}
use Rattle.std.specs.Prelude.{codes}
use Rattle.std.specs.Char.{to_ascii_lowercase}
use Rattle.std.specs.Str.{bytes_eq, str_to_ascii_lowercase}
use Rattle.std.proofs.lemmas.Bool.{and_parts, eqb-true}
use Rattle.std.proofs.lemmas.Slice.Eq.{bytes_eq-Decides}
use Rattle.std.proofs.lemmas.Bool.Decides.{nat_tests}
use Rattle.definitions.specs.Elements.{is_word, is_extension}
use Rattle.definitions.specs.Grammar.{is_extension_name}

pub lowered : (keyword word : List ℕ) → is_word keyword word ≡ true → str_to_ascii_lowercase word ≡ str_to_ascii_lowercase keyword
lowered keyword word h = (bytes_eq-Decides (str_to_ascii_lowercase word) (str_to_ascii_lowercase keyword)).0 h

pub alike : (keyword word : List ℕ) → str_to_ascii_lowercase word ≡ str_to_ascii_lowercase keyword → is_word keyword word ≡ true
alike keyword word e = (bytes_eq-Decides (str_to_ascii_lowercase word) (str_to_ascii_lowercase keyword)).1 e

-- a word that is a keyword is every other as much as that one
pub same_word : (keyword word : List ℕ) → is_word keyword word ≡ true → (other : List ℕ) → is_word other word ≡ is_word other keyword
same_word keyword word h other = ap (λ (l : List ℕ). bytes_eq l (str_to_ascii_lowercase other)) (lowered keyword word h)

-- ---- the name of an extension is no keyword

x_first : (x : ℕ) (xs : List ℕ) → is_extension (x ∷ xs) ≡ true → to_ascii_lowercase x ≡ 120
x_first x xs h =
    let k = and_parts (ltb 2 (length (x ∷ xs))) (is_word (codes "X-") (take 2 (x ∷ xs))) h in
    eqb-true (to_ascii_lowercase x) 120 (and_parts (eqb (to_ascii_lowercase x) 120) _ k.1).0

abbrev pub begins_other : List ℕ → Bool
begins_other [] = false
begins_other (k ∷ ks) = not (eqb 120 (to_ascii_lowercase k))

apart : (b c : Bool) → not b ≡ true → (b && c) ≡ false
apart true c h = absurd cc
apart false c h = refl

pub no_keyword : (name : List ℕ) → is_extension name ≡ true → (keyword : List ℕ) → begins_other keyword ≡ true → is_word keyword name ≡ false
no_keyword [] h keyword e = absurd cc
no_keyword (x ∷ xs) h [] e = absurd cc
no_keyword (x ∷ xs) h (k ∷ ks) e =
    ap (λ (c : ℕ). eqb c (to_ascii_lowercase k) && bytes_eq (str_to_ascii_lowercase xs) (str_to_ascii_lowercase ks)) (x_first x xs h)
    ∙ apart (eqb 120 (to_ascii_lowercase k)) (bytes_eq (str_to_ascii_lowercase xs) (str_to_ascii_lowercase ks)) e

-- an extension's name is read as one
low_x : (x : ℕ) → eqb (to_ascii_lowercase x) 120 ≡ is_word (codes "X") (x ∷ [])
low_x x = by (eqb (to_ascii_lowercase x) 120) where
  by : (t : Bool) → t ≡ (t && true)
  by true = refl
  by false = refl

low_dash : (b : ℕ) → eqb (to_ascii_lowercase b) 45 ≡ eqb b 45
low_dash b = grind (arith, nat_tests)

long : (n : ℕ) → ltb 2 (suc (suc (suc n))) ≡ true
long n = grind (arith, nat_tests)

three : (x dash b : ℕ) (bs : List ℕ) → is_extension (x ∷ dash ∷ b ∷ bs) ≡ is_extension_name (x ∷ dash ∷ b ∷ bs)
three x dash b bs = (λ i. long (length bs) i && (low_x x i && (low_dash dash i && true))) ∙ by (is_word (codes "X") (x ∷ [])) (eqb dash 45) where
  by : (t u : Bool) → (t && (u && true)) ≡ (t && u)
  by true true = refl
  by true false = refl
  by false u = refl

pub extension_is : (name : List ℕ) → is_extension name ≡ is_extension_name name
extension_is [] = refl
extension_is (x ∷ []) = refl
extension_is (x ∷ dash ∷ []) = refl
extension_is (x ∷ dash ∷ b ∷ bs) = three x dash b bs

-- ---- words that begin a field of a type or class as such

abbrev pub ElementWord : List ℕ → Type 0
ElementWord word = ((is_word (codes "NAME") word ≡ true) ⊎ (is_word (codes "DESC") word ≡ true)) ⊎ ((is_word (codes "OBSOLETE") word ≡ true) ⊎ (is_extension word ≡ true))

-- they are no other keyword
pub element_word_apart : (word : List ℕ) → ElementWord word → (keyword : List ℕ) → is_word keyword (codes "NAME") ≡ false → is_word keyword (codes "DESC") ≡ false → is_word keyword (codes "OBSOLETE") ≡ false → begins_other keyword ≡ true → is_word keyword word ≡ false
element_word_apart word (inl (inl e)) keyword a b c d = same_word (codes "NAME") word e keyword ∙ a
element_word_apart word (inl (inr e)) keyword a b c d = same_word (codes "DESC") word e keyword ∙ b
element_word_apart word (inr (inl e)) keyword a b c d = same_word (codes "OBSOLETE") word e keyword ∙ c
element_word_apart word (inr (inr e)) keyword a b c d = no_keyword word e keyword d

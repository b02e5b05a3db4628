-- The test of UTF-8 by what std's conversion answers.
use Rattle.std.proofs.Common.{◌≡◌, ℕ, zero, suc, Bool, true, false, List, [], ◌∷◌, Result, Ok, Err, refl, sym, ◌∙◌, arith}
use Rattle.std.proofs.lemmas.Bool.{ltb-true, and_parts}
use Rattle.std.specs.Prelude.{MatchResult, is_ok}
use Rattle.std.specs.Str.{IsUtf8, is_utf8, IsAscii}
use Rattle.std.specs.List.{list_all}
use Rattle.matching.specs.Syntaxes.{is_ascii}
use Rattle.std.proofs.lemmas.Str.{IsUtf8-from_ascii, IsUtf8-from_is_utf8, is_utf8-from_IsUtf8}

refuted : (b : Bool) → (b ≡ true → ⊥) → false ≡ b
refuted true h = absurd (h refl)
refuted false h = refl

pub text_test : {A E : Type 0} (r : Result A E) (bs : List ℕ) (P : A → Type 0) (Q : E → Type 0) → MatchResult r (λ s. P s × IsUtf8 bs) (λ e. (IsUtf8 bs → ⊥) × Q e) → is_ok r ≡ is_utf8 bs
text_test (Ok s) bs P Q h = sym (is_utf8-from_IsUtf8 bs h.1)
text_test (Err e) bs P Q h = refuted (is_utf8 bs) (λ is. h.0 (IsUtf8-from_is_utf8 bs is))

-- ASCII is UTF-8
pub ascii_is_text : (a : Bool) (bs : List ℕ) → a ≡ true → a ≡ list_all is_ascii bs → a ≡ is_utf8 bs
ascii_is_text a bs on is = on ∙ sym (is_utf8-from_IsUtf8 bs (IsUtf8-from_ascii bs (all_ascii bs (sym is ∙ on))))
  where
    all_ascii : (bs : List ℕ) → list_all is_ascii bs ≡ true → IsAscii bs
    all_ascii [] h i = omega arith
    all_ascii (b ∷ bs) h zero = ltb-true b 128 (and_parts (is_ascii b) (list_all is_ascii bs) h).0
    all_ascii (b ∷ bs) h (suc i) = all_ascii bs (and_parts (is_ascii b) (list_all is_ascii bs) h).1 i

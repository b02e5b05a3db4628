-- What is said of a text that spells no name.
use Rattle.std.proofs.Common.{◌≡◌, ◌++◌, Bool, true, false, List, ℕ, Result, Ok, Err, OnOk, sym, ap, refl, subst, ◌∙◌, codes, append_assoc}
use Rattle.std.specs.Str.{is_utf8, IsUtf8}
use Rattle.std.proofs.lemmas.Str.{is_utf8-from_IsUtf8, IsUtf8-from_is_utf8}
use Rattle.dn.specs.Reading.{name_of}
use Rattle.sentences.specs.NameWords.{IsFaultWords, IsUnreadableIf, IsUnreadable}

pub text_said : {E : Type 0} (r : Result (Unit {0}) E) (what text same old mid new : List ℕ) → IsUtf8 text → same ≡ text → mid ≡ old ++ what
    → OnOk r ((ws : List ℕ) × IsFaultWords same (name_of same) ws × (new ≡ mid ++ ws)) → OnOk r ((ws : List ℕ) × IsUnreadable what text ws × (new ≡ old ++ ws))
text_said (Ok u) what text same old mid new utf8 is before (fault, holds, put) =
    let said : IsFaultWords text (name_of text) fault = subst (λ (t : List ℕ). IsFaultWords t (name_of t) fault) is holds in
    let words : IsUnreadableIf true what text (what ++ fault) = (fault, said, refl) in (
      what ++ fault,
      subst (λ (b : Bool). IsUnreadableIf b what text (what ++ fault)) (sym (is_utf8-from_IsUtf8 text utf8)) words,
      put ∙ ap (λ m. m ++ fault) before ∙ append_assoc old what fault,
    )
text_said (Err e) what text same old mid new utf8 is before put = tt

isnt : (b : Bool) → (b ≡ true → ⊥) → b ≡ false
isnt true other = absurd (other refl)
isnt false other = refl

pub bytes_said : {E : Type 0} (r : Result (Unit {0}) E) (what text old mid new : List ℕ) → ¬ (IsUtf8 text) → mid ≡ old ++ what
    → OnOk r (new ≡ mid ++ codes " isn't UTF-8") → OnOk r ((ws : List ℕ) × IsUnreadable what text ws × (new ≡ old ++ ws))
bytes_said (Ok u) what text old mid new other before put =
    let words : IsUnreadableIf false what text (what ++ codes " isn't UTF-8") = refl in (
      what ++ codes " isn't UTF-8",
      subst (λ (b : Bool). IsUnreadableIf b what text (what ++ codes " isn't UTF-8")) (sym (isnt (is_utf8 text) (λ t. other (IsUtf8-from_is_utf8 text t)))) words,
      put ∙ ap (λ m. m ++ codes " isn't UTF-8") before ∙ append_assoc old what (codes " isn't UTF-8"),
    )
bytes_said (Err e) what text old mid new other before put = tt

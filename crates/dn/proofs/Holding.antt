-- A type, an equals sign and a value hold an AVA.
use Rattle.std.proofs.Common.{◌≡◌, ℕ, Bool, true, false, not, ◌&&◌, eqb, List, ◌∷◌, ◌++◌, drop, length, refl, sym, ap, ◌∙◌}
use Rattle.std.specs.List.{list_all}
use Rattle.std.proofs.lemmas.Bool.{and_parts}
use Rattle.dn.specs.Names.{Ava, is_type_byte, is_type, is_byte, is_ava}
use Rattle.dn.specs.Reading.{after_type}
use Rattle.dn.specs.Texts.{ava_in}
use Rattle.dn.proofs.Runs.{run_front, run_rest}

abbrev ava_with : List ℕ → List ℕ → Ava
ava_with ty value = (ty, value)

module _ (text ty value : List ℕ) (is : is_type ty ≡ true) (text_is : text ≡ ty ++ 61 ∷ value) where
  bytes : list_all is_type_byte ty ≡ true
  bytes = (and_parts (not (eqb (length ty) 0)) (list_all is_type_byte ty) is).1

  pub held : ava_in text ≡ ava_with ty value
  held =
      ap ava_in text_is
      ∙ ap (λ (x : List ℕ). ava_with x (drop 1 (after_type (ty ++ 61 ∷ value)))) (run_front is_type_byte ty (61 ∷ value) bytes refl)
      ∙ ap (λ (x : List ℕ). ava_with ty (drop 1 x)) (run_rest is_type_byte ty (61 ∷ value) bytes refl)

  pub held_is_ava : list_all is_byte value ≡ true → is_ava (ava_in text) ≡ true
  held_is_ava in_range = ap is_ava held ∙ ap (λ (t : Bool). t && list_all is_byte value) is ∙ in_range

and_true : (b : Bool) → (b && true) ≡ b
and_true true = refl
and_true false = refl

pub type_suffices : (p : Ava) (t : Bool) → t ≡ is_type p.0 → list_all is_byte p.1 ≡ true → t ≡ is_ava p
type_suffices p t is in_range = is ∙ sym (ap (λ (b : Bool). is_type p.0 && b) in_range ∙ and_true (is_type p.0))

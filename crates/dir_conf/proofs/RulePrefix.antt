-- Texts that begin alike.
use Rattle.std.proofs.Common.{◌≡◌, ℕ, Bool, ◌&&◌, List, [], ◌∷◌, ◌++◌, refl, ap, ◌∙◌}
use Rattle.std.specs.Str.{bytes_eq}
use Rattle.std.proofs.lemmas.Bool.{eq-eqb}

pub same_front : (front a b : List ℕ) → bytes_eq (front ++ a) (front ++ b) ≡ bytes_eq a b
same_front [] a b = refl
same_front (c ∷ cs) a b = ap (λ (t : Bool). t && bytes_eq (cs ++ a) (cs ++ b)) (eq-eqb c c refl) ∙ same_front cs a b

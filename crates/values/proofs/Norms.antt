-- Values of which none has a normal form.
use Rattle.std.proofs.Common.{◌≡◌, ℕ, false, not, cond, List, [], ◌∷◌, refl}
use Rattle.std.proofs.lemmas.Bool.{or_parts}
use Rattle.std.specs.Str.{bytes_eq}
use Rattle.values.specs.Values.{Value}
use Rattle.values.specs.Norms.{has_norm, but_norm}

pub none_goes : (n : List ℕ) (vs : List Value) → has_norm n vs ≡ false → but_norm n vs ≡ vs
none_goes n [] h = refl
none_goes n (v ∷ vs) h =
    let k = or_parts (bytes_eq v.norm n) (has_norm n vs) h in
    let more = none_goes n vs k.1 in
    λ j. cond (not (k.0 j)) (v ∷ more j) (more j)

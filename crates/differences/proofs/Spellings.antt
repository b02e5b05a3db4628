-- RDNs by their spelling.
use Rattle.std.proofs.Common.{◌≡◌, suc, Bool, true, false, [], ◌∷◌, length, refl, ap}
use Rattle.std.specs.Prelude.{◌&&◌, nat_eq}
use Rattle.std.specs.Str.{bytes_eq}
use Rattle.schema.specs.Rdns.{TypedRdn}
use Rattle.differences.specs.Differences.{same_spelling}

-- RDNs of different length
pub lengths_apart : (l r : TypedRdn) → (length l ≡ length r → ⊥) → false ≡ same_spelling l r
lengths_apart [] [] h = absurd (h refl)
lengths_apart [] (q ∷ qs) h = refl
lengths_apart (p ∷ ps) [] h = refl
lengths_apart (p ∷ ps) (q ∷ qs) h = by (nat_eq p.0 q.0) (bytes_eq p.1 q.1) (same_spelling ps qs) (lengths_apart ps qs (λ e. h (ap suc e)))
  where
    by : (a b c : Bool) → false ≡ c → false ≡ a && (b && c)
    by true true c is = is
    by true false c is = refl
    by false b c is = refl

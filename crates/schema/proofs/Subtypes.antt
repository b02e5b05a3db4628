-- One step up from a type.
use Rattle.std.proofs.Common.{◌≡◌, ◌≢◌, ◌↔◌, ℕ, ◌<◌, true, List, [], ◌∷◌, length, take, Option, Some, None, sym, subst, ◌∙◌, arith}
use Rattle.std.proofs.lemmas.Bool.{ltb-true}
use Rattle.std.proofs.lemmas.List.{length-take}
use Rattle.values.specs.declared.types.AttributeType.{AttributeType}
use Rattle.values.specs.Types.{type_at, is_known}
use Rattle.schema.specs.TypeRules.{IsAbove, FitsBehind}
use Rattle.schema.specs.Subtypes.{LeadsTo, IsSubtype}

same_some : (s r : ℕ) → ◌≡◌ {A = Option ℕ} (Some s) (Some r) → s ≡ r
same_some s r e = cc

pub itself : (types : List AttributeType) (t u : ℕ) → t ≡ u → IsSubtype types t u
itself types t u e = record { above = []; leads = e }

pub one_up : (types : List AttributeType) (t s u : ℕ) → t ≢ u → (type_at types t).superior ≡ Some s → IsSubtype types t u ↔ IsSubtype types s u
one_up types t s u apart up = (λ h. down h.above h.leads, λ h. record { above = s ∷ h.above; leads = (up, h.leads) })
  where
    down : (above : List ℕ) → LeadsTo types t above u → IsSubtype types s u
    down [] e = absurd (apart e)
    down (r ∷ rs) k = record { above = rs; leads = subst (λ (x : ℕ). LeadsTo types x rs u) (same_some r s (sym k.0 ∙ up)) k.1 }

pub no_more : (types : List AttributeType) (t u : ℕ) → t ≢ u → (type_at types t).superior ≡ None → IsSubtype types t u → ⊥
no_more types t u apart none h = by h.above h.leads
  where
    by : (above : List ℕ) → LeadsTo types t above u → ⊥
    by [] e = apart e
    by (r ∷ rs) k = absurd (let no : ◌≡◌ {A = Option ℕ} None (Some r) = sym none ∙ k.0 in cc)

-- the type right above one comes before it
pub above_lower : (types : List AttributeType) (t s : ℕ) → FitsBehind (take t types) (type_at types t) → (type_at types t).superior ≡ Some s → s < t
above_lower types t s fits up =
    let known : is_known (take t types) s ≡ true = subst (IsAbove (take t types)) up fits.superior in
    let below = ltb-true s (length (take t types)) known in
    let most = length-take t types in
    omega (arith, below, most)

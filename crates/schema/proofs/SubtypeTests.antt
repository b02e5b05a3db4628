-- The test for subtypes tells them.
use Rattle.std.proofs.Common.{◌≡◌, ◌≢◌, ◌↔◌, ℕ, zero, suc, ◌<◌, ◌≤◌, ◌==◌, Bool, true, false, ◌||◌, List, length, take, Option, Some, None, refl, sym, ◌∙◌, arith}
use Rattle.std.proofs.lemmas.Bool.{eqb-true, eq-eqb}
use Rattle.values.specs.declared.types.AttributeType.{AttributeType}
use Rattle.values.specs.Types.{type_at}
use Rattle.schema.specs.Subtypes.{IsSubtype, passes, leads_within, is_subtype}
use Rattle.schema.specs.TypeRules.{FitsBehind}
use Rattle.schema.proofs.Subtypes.{itself, one_up, no_more, above_lower}

-- each type fits behind those before it
abbrev pub AreTypes : List AttributeType → Type 0
AreTypes types = (t : ℕ) → t < length types → FitsBehind (take t types) (type_at types t)

apart : (t u : ℕ) → (t == u) ≡ false → t ≢ u
apart t u e same = absurd (let no : false ≡ true = sym e ∙ eq-eqb t u same in cc)

-- a type that can only be the other one
last : (types : List AttributeType) → AreTypes types → (t u : ℕ) → t ≤ 0 → t < length types → (b : Bool) → (t == u) ≡ b → (up : Option ℕ) → (type_at types t).superior ≡ up → (b ≡ true) ↔ IsSubtype types t u
last types each t u le lt true e up is = (λ _. itself types t u (eqb-true t u e), λ _. refl)
last types each t u le lt false e None is = (λ no. absurd cc, λ h. absurd (no_more types t u (apart t u e) is h))
last types each t u le lt false e (Some s) is = absurd (let below = above_lower types t s (each t lt) is in omega (arith, below, le))

-- one that can lead up to it
more : (types : List AttributeType) → AreTypes types → (n t u : ℕ) → t ≤ suc n → t < length types
    → ((s : ℕ) → s ≤ n → s < length types → (leads_within types n s u ≡ true) ↔ IsSubtype types s u)
    → (b : Bool) → (t == u) ≡ b → (up : Option ℕ) → (type_at types t).superior ≡ up → ((b || passes (λ s. leads_within types n s u) up) ≡ true) ↔ IsSubtype types t u
more types each n t u le lt lower true e up is = (λ _. itself types t u (eqb-true t u e), λ _. refl)
more types each n t u le lt lower false e None is = (λ no. absurd cc, λ h. absurd (no_more types t u (apart t u e) is h))
more types each n t u le lt lower false e (Some s) is =
    let below = above_lower types t s (each t lt) is in
    let one = one_up types t s u (apart t u e) is in
    let h = lower s (omega (arith, below, le)) (omega (arith, below, lt)) in
    (λ x. one.1 (h.0 x), λ x. h.1 (one.0 x))

leads_told : (types : List AttributeType) → AreTypes types → (n t u : ℕ) → t ≤ n → t < length types → (leads_within types n t u ≡ true) ↔ IsSubtype types t u
leads_told types each zero t u le lt = last types each t u le lt (t == u) refl ((type_at types t).superior) refl
leads_told types each (suc n) t u le lt = more types each n t u le lt (λ s low known. leads_told types each n s u low known) (t == u) refl ((type_at types t).superior) refl

pub subtype_told : (types : List AttributeType) → AreTypes types → (t u : ℕ) → t < length types → (is_subtype types t u ≡ true) ↔ IsSubtype types t u
subtype_told types each t u lt = leads_told types each (length types) t u (omega (arith, lt)) lt

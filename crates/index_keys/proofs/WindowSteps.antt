-- The windows of a text: none where it is short, or the first and those of the rest.
use Rattle.std.proofs.Common.{◌≡◌, ℕ, ◌<◌, ◌≤◌, ◌-◌, List, [], ◌∷◌, length, take, drop, refl, sym, ap, ap₂, arith}
use Rattle.std.proofs.lemmas.List.{take_all}
use Rattle.index_keys.specs.EntryKeys.{windows}

pub no_windows : (text : List ℕ) → length text < 3 → windows text ≡ []
no_windows [] lt = refl
no_windows (a ∷ []) lt = refl
no_windows (a ∷ b ∷ []) lt = refl
no_windows (a ∷ b ∷ c ∷ rest) lt = absurd (omega (arith, lt))

pub one_window : (text window : List ℕ) → 3 ≤ length text → window ≡ take 3 text → windows text ≡ window ∷ windows (take (length text - 1) (drop 1 text))
one_window [] window least is = absurd (omega (arith, least))
one_window (a ∷ []) window least is = absurd (omega (arith, least))
one_window (a ∷ b ∷ []) window least is = absurd (omega (arith, least))
one_window (a ∷ b ∷ c ∷ rest) window least is =
    ap₂ (λ (w : List ℕ) (t : List ℕ). w ∷ windows t) (sym is) (sym (take_all (length (a ∷ b ∷ c ∷ rest) - 1) (b ∷ c ∷ rest) (omega arith)))

pub one_less : (text : List ℕ) → 3 ≤ length text → length (take (length text - 1) (drop 1 text)) < length text
one_less [] least = absurd (omega (arith, least))
one_less (a ∷ rest) least = omega (arith, ap length (take_all (length (a ∷ rest) - 1) rest (omega arith)))

-- The windows of a text stand in it, and all three bytes one after the other are a window.
use Rattle.std.proofs.Common.{◌≡◌, ℕ, ◌+◌, Bool, true, false, ◌||◌, List, [], ◌∷◌, ◌++◌, length, inl, inr, refl, sym, ap, subst, ◌∙◌, append_assoc, arith}
use Rattle.std.proofs.lemmas.Bool.{or_cases, or_left, or_right}
use Rattle.std.proofs.lemmas.Slice.Eq.{bytes_eq-Decides}
use Rattle.std.specs.List.{list_any}
use Rattle.std.specs.Str.{bytes_eq}
use Rattle.index_keys.specs.EntryKeys.{windows, is_window, IsCutOut}

-- behind one more byte
later : (a : ℕ) (text key : List ℕ) → IsCutOut text key → IsCutOut (a ∷ text) key
later a text key cut = record { front = a ∷ cut.front; back = cut.back; text_is = ap (λ (t : List ℕ). a ∷ t) cut.text_is; size = cut.size }

pub stand : (text key : List ℕ) → is_window text key ≡ true → IsCutOut text key
stand [] key h = absurd cc
stand (a ∷ []) key h = absurd cc
stand (a ∷ b ∷ []) key h = absurd cc
stand (a ∷ b ∷ c ∷ rest) key h =
    elim (or_cases (bytes_eq (a ∷ b ∷ c ∷ []) key) (is_window (b ∷ c ∷ rest) key) h) [
      | inl here ↦ subst (IsCutOut (a ∷ b ∷ c ∷ rest)) ((bytes_eq-Decides (a ∷ b ∷ c ∷ []) key).0 here) (record { front = []; back = rest; text_is = refl; size = refl })
      | inr behind ↦ later a (b ∷ c ∷ rest) key (stand (b ∷ c ∷ rest) key behind)
    ]

still : (a : ℕ) (text key : List ℕ) → is_window text key ≡ true → is_window (a ∷ text) key ≡ true
still a [] key h = absurd cc
still a (b ∷ []) key h = absurd cc
still a (b ∷ c ∷ rest) key h = or_right (bytes_eq (a ∷ b ∷ c ∷ []) key) (is_window (b ∷ c ∷ rest) key) h

behind_all : (front key back : List ℕ) → is_window (key ++ back) key ≡ true → is_window (front ++ (key ++ back)) key ≡ true
behind_all [] key back h = h
behind_all (a ∷ front) key back h = still a (front ++ (key ++ back)) key (behind_all front key back h)

at_front : (key back : List ℕ) → length key ≡ 3 → is_window (key ++ back) key ≡ true
at_front [] back size = absurd (omega (arith, size))
at_front (a ∷ []) back size = absurd (omega (arith, size))
at_front (a ∷ b ∷ []) back size = absurd (omega (arith, size))
at_front (a ∷ b ∷ c ∷ []) back size = or_left (bytes_eq (a ∷ b ∷ c ∷ []) (a ∷ b ∷ c ∷ [])) (is_window (b ∷ c ∷ back) (a ∷ b ∷ c ∷ [])) ((bytes_eq-Decides (a ∷ b ∷ c ∷ []) (a ∷ b ∷ c ∷ [])).1 refl)
at_front (a ∷ b ∷ c ∷ d ∷ more) back size = absurd (omega (arith, size))

pub all : (text key : List ℕ) → IsCutOut text key → is_window text key ≡ true
all text key cut =
    ap (λ (t : List ℕ). is_window t key) (cut.text_is ∙ append_assoc cut.front key cut.back)
    ∙ behind_all cut.front key cut.back (at_front key cut.back cut.size)

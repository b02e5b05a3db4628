-- Windows of pieces, and of the values that these fit.
use Rattle.std.proofs.Common.{◌≡◌, ◌↔◌, ℕ, ◌+◌, ◌<◌, ◌≤◌, Bool, true, false, get_or, suc, add-one, drop-cons, ◌&&◌, inl, inr, List, [], ◌∷◌, ◌++◌, length, drop, refl, sym, ap, ◌∙◌, arith}
use Rattle.std.proofs.lemmas.Bool.{and_from, or_left, or_right, or_cases}
use Rattle.std.proofs.lemmas.List.Folds.{list_any-append, list_all-append}
use Rattle.std.proofs.Math.ListN.{drop_of_length-le}
use Rattle.std.specs.List.{list_any, list_all, flat_map}
use Rattle.std.specs.Str.{bytes_eq}
use Rattle.std.specs.Cmp.Lexicographic.{nat_list_eq_equiv}
use Rattle.matching.specs.Substrings.{joined, Fits}
use Rattle.filter.specs.Pieces.{fits}
use Rattle.index_keys.specs.EntryKeys.{windows}
use Rattle.index_text.specs.Postings.{Shown}
use Rattle.candidates.specs.Sides.{is_member, has_windows}

-- ---- windows of a text

module _ (key : List ℕ) where
  abbrev has_window : List ℕ → Bool
  has_window text = list_any (λ w. bytes_eq w key) (windows text)

  -- a window stays one where a byte comes before, or any bytes
  behind_byte : (b : ℕ) (text : List ℕ) → has_window text ≡ true → has_window (b ∷ text) ≡ true
  behind_byte b [] h = h
  behind_byte b (x ∷ []) h = h
  behind_byte b (x ∷ y ∷ text) h = or_right (bytes_eq (b ∷ x ∷ y ∷ []) key) (has_window (x ∷ y ∷ text)) h

  behind : (gap text : List ℕ) → has_window text ≡ true → has_window (gap ++ text) ≡ true
  behind [] text h = h
  behind (b ∷ gap) text h = behind_byte b (gap ++ text) (behind gap text h)

  -- and where bytes come after
  before : (text rest : List ℕ) → has_window text ≡ true → has_window (text ++ rest) ≡ true
  before [] rest h = cc
  before (a ∷ []) rest h = cc
  before (a ∷ b ∷ []) rest h = cc
  before (a ∷ b ∷ c ∷ text) rest h =
      elim (or_cases (bytes_eq (a ∷ b ∷ c ∷ []) key) (has_window (b ∷ c ∷ text)) h) [
        | inl first ↦ or_left (bytes_eq (a ∷ b ∷ c ∷ []) key) (has_window (b ∷ c ∷ (text ++ rest))) first
        | inr later ↦ or_right (bytes_eq (a ∷ b ∷ c ∷ []) key) (has_window (b ∷ c ∷ (text ++ rest))) (before (b ∷ c ∷ text) rest later)
      ]

  -- a window of a piece is one of a text in which the piece stands
  in_joined : (stretches pieces : List (List ℕ)) → length stretches ≡ length pieces + 1 → list_any (λ w. bytes_eq w key) (flat_map windows pieces) ≡ true → has_window (joined stretches pieces) ≡ true
  in_joined [] pieces count h = absurd (omega (arith, count))
  in_joined (stretch ∷ stretches) [] count h = cc
  in_joined (stretch ∷ stretches) (piece ∷ pieces) count h =
      elim (or_cases (has_window piece) (list_any (λ w. bytes_eq w key) (flat_map windows pieces)) (sym (list_any-append (λ w. bytes_eq w key) (windows piece) (flat_map windows pieces)) ∙ h)) [
        | inl here ↦ behind stretch (piece ++ joined stretches pieces) (before piece (joined stretches pieces) here)
        | inr later ↦ behind stretch (piece ++ joined stretches pieces) (behind piece (joined stretches pieces) (in_joined stretches pieces (omega (arith, count)) later))
      ]

  -- a window of the pieces is one of each of these texts, if they fit one
  pub in_fitting : (front back : Bool) (pieces : List (List ℕ)) → ((text : List ℕ) → (fits front back pieces text ≡ true) ↔ Fits front back pieces text)
      → list_any (λ w. bytes_eq w key) (flat_map windows pieces) ≡ true
      → (texts : List (List ℕ)) → list_any (fits front back pieces) texts ≡ true → list_any (λ w. bytes_eq w key) (flat_map windows texts) ≡ true
  in_fitting front back pieces told there [] h = cc
  in_fitting front back pieces told there (text ∷ texts) h =
      list_any-append (λ w. bytes_eq w key) (windows text) (flat_map windows texts)
      ∙ elim (or_cases (fits front back pieces text) (list_any (fits front back pieces) texts) h) [
        | inl fit ↦
            let at = (told text).0 fit in
            or_left (has_window text) (list_any (λ w. bytes_eq w key) (flat_map windows texts)) (ap has_window at.whole ∙ in_joined at.stretches pieces at.count there)
        | inr later ↦ or_right (has_window text) (list_any (λ w. bytes_eq w key) (flat_map windows texts)) (in_fitting front back pieces told there texts later)
      ]

-- what holds of each key that a list has holds of all
pub of_each : (p : List ℕ → Bool) (keys : List (List ℕ)) → ((key : List ℕ) → list_any (λ w. bytes_eq w key) keys ≡ true → p key ≡ true) → list_all p keys ≡ true
of_each p [] h = refl
of_each p (key ∷ keys) h =
    and_from (p key) (list_all p keys) (h key (or_left (bytes_eq key key) (list_any (λ w. bytes_eq w key) keys) (nat_list_eq_equiv.refl key)))
    (of_each p keys (λ w there. h w (or_right (bytes_eq key w) (list_any (λ u. bytes_eq u w) keys) there)))

-- ---- windows one by one

and_grouped : (a b c : Bool) → ((a && b) && c) ≡ (a && (b && c))
and_grouped true b c = refl
and_grouped false b c = refl

and_true : (a : Bool) → a ≡ (a && true)
and_true true = refl
and_true false = refl

pub one_window : (p : List ℕ → Bool) (a b : Bool) (key : List ℕ) (keys more : List (List ℕ)) → b ≡ (a && p key) → keys ≡ key ∷ more → (b && list_all p more) ≡ (a && list_all p keys)
one_window p a b key keys more is_b is_keys = ap (λ x. x && list_all p more) is_b ∙ and_grouped a (p key) (list_all p more) ∙ ap (λ (ks : List (List ℕ)). a && list_all p ks) (sym is_keys)

pub no_window : (p : List ℕ → Bool) (a : Bool) (keys : List (List ℕ)) → keys ≡ [] → a ≡ (a && list_all p keys)
no_window p a keys none = and_true a ∙ ap (λ (ks : List (List ℕ)). a && list_all p ks) (sym none)

module _ (shown : Shown) (n slot : ℕ) (pieces : List (List ℕ)) where
  pub one_piece : (a b : Bool) (piece : List ℕ) (i : ℕ) (d : List ℕ) → i < length pieces → piece ≡ get_or pieces i d → b ≡ (a && list_all (is_member shown n slot) (windows piece))
      → (b && has_windows shown n slot (drop (i + 1) pieces)) ≡ (a && has_windows shown n slot (drop i pieces))
  one_piece a b piece i d lt is is_b =
      ap (λ x. x && has_windows shown n slot (drop (i + 1) pieces)) (is_b ∙ ap (λ (text : List ℕ). a && list_all (is_member shown n slot) (windows text)) is)
      ∙ and_grouped a (list_all (is_member shown n slot) (windows (get_or pieces i d))) (has_windows shown n slot (drop (i + 1) pieces))
      ∙ ap (λ x. a && x) (rw (add-one, drop-cons pieces i d lt) (sym (list_all-append (is_member shown n slot) (windows (get_or pieces i d)) (flat_map windows (drop (suc i) pieces)))))

  pub no_piece : (a : Bool) (i : ℕ) → length pieces ≤ i → a ≡ (a && has_windows shown n slot (drop i pieces))
  no_piece a i le = and_true a ∙ ap (λ (ps : List (List ℕ)). a && has_windows shown n slot ps) (sym (drop_of_length-le pieces le))

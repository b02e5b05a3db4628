-- A loop that reads parts up to a parenthesis.
use Rattle.std.proofs.Common.{◌≡◌, ℕ, ◌+◌, ◌<◌, ◌≤◌, List, [], ◌∷◌, ◌++◌, length, drop, Option, Some, None, refl, sym, ap, ◌∙◌, append_assoc}
use Rattle.std.proofs.lemmas.List.{drop_more, drop_all, append-nil}
use Rattle.definitions.specs.Words.{◌>>>◌, Cut, sign_at}
use Rattle.definitions.specs.Texts.{Cuts, onto, closed_by, to_close}

pub with_front : List (List ℕ) → Option Cuts → Option Cuts
with_front front None = None
with_front front (Some parts) = Some (front ++ parts.0, parts.1)

more : (front : List (List ℕ)) (text : List ℕ) (r : Option Cuts) → with_front (front ++ text ∷ []) r ≡ with_front front (r >>> onto text)
unfolding with_front
more front text None = refl
more front text (Some parts) = ap (λ (texts : List (List ℕ)). some (texts, parts.1)) (append_assoc front (text ∷ []) parts.0) where
  some : Cuts → Option Cuts
  some parts = Some parts

pub nothing_front : (r : Option Cuts) → with_front [] r ≡ r
unfolding with_front
nothing_front None = refl
nothing_front (Some parts) = refl

module _ (part_at : List ℕ → Option Cut) (bytes : List ℕ) (i : ℕ) (rest : List ℕ) (front : List (List ℕ)) (total : Option Cuts) where
  cut : i < length bytes → to_close part_at (drop i bytes) rest ≡ closed_by (sign_at 41 rest) (part_at rest >>> λ part. (to_close part_at (drop (i + 1) bytes) part.1 >>> onto part.0))
  unfolding to_close
  cut lt = ap (λ (fuel : List ℕ). to_close part_at fuel rest) (drop_more bytes i 0 lt)

  pub goes_on : (part : Cut) → i < length bytes → sign_at 41 rest ≡ None → part_at rest ≡ Some part
      → with_front front (to_close part_at (drop i bytes) rest) ≡ total → with_front (front ++ part.0 ∷ []) (to_close part_at (drop (i + 1) bytes) part.1) ≡ total
  goes_on part lt unclosed is so_far =
      more front part.0 (to_close part_at (drop (i + 1) bytes) part.1)
      ∙ sym (ap (with_front front) (cut lt ∙ (λ j. closed_by (unclosed j) (is j >>> λ part. (to_close part_at (drop (i + 1) bytes) part.1 >>> onto part.0)))))
      ∙ so_far

  pub closes : (behind : List ℕ) → i < length bytes → sign_at 41 rest ≡ Some behind
      → with_front front (to_close part_at (drop i bytes) rest) ≡ total → total ≡ Some (front, behind)
  unfolding with_front
  closes behind lt closed so_far =
      sym so_far ∙ ap (with_front front) (cut lt ∙ (λ j. closed_by (closed j) (part_at rest >>> λ part. (to_close part_at (drop (i + 1) bytes) part.1 >>> onto part.0))))
      ∙ ap (λ (texts : List (List ℕ)). some (texts, behind)) (append-nil front) where
        some : Cuts → Option Cuts
        some parts = Some parts

  pub stops : i < length bytes → sign_at 41 rest ≡ None → part_at rest ≡ None
      → with_front front (to_close part_at (drop i bytes) rest) ≡ total → total ≡ None
  unfolding with_front
  stops lt unclosed is so_far =
      sym so_far ∙ ap (with_front front) (cut lt ∙ (λ j. closed_by (unclosed j) (is j >>> λ part. (to_close part_at (drop (i + 1) bytes) part.1 >>> onto part.0))))

  pub runs_out : length bytes ≤ i → with_front front (to_close part_at (drop i bytes) rest) ≡ total → total ≡ None
  unfolding with_front to_close
  runs_out past so_far = sym so_far ∙ ap (λ (fuel : List ℕ). with_front front (to_close part_at fuel rest)) (drop_all i bytes past)

pub first_front : (text : List ℕ) (r : Option Cuts) → with_front (text ∷ []) r ≡ (r >>> onto text)
unfolding with_front
first_front text None = refl
first_front text (Some parts) = refl

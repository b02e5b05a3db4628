use Rattle.std.proofs.Common.{◌≡◌, ◌++◌, ◌∷◌, List, ℕ, length}
use Rattle.filter_text.specs.Runs.{Stops, is_star}
use Rattle.filter_text.specs.Values.{is_value_byte}
use Rattle.filter_text.specs.inner.Pieces.{IsStarred, IsPieces}
use Rattle.filter_text.proofs.pieces.pieces_of.Given as goal

abbrev pub invariant-stars : goal.invariant-stars
invariant-stars l =
    record {
      stops : Stops is_value_byte l.rest;
      found : (text : List ℕ) × (l.fn.text ≡ text ++ l.rest)
          × ((qs : List (List ℕ)) (t : List ℕ) → IsStarred qs t → (Stops is_star l.rest → Stops is_star t) → IsPieces (l.first ∷ l.others.items ++ qs) (text ++ t));
      only : (ps : List (List ℕ)) → IsPieces ps l.fn.text → (qs : List (List ℕ)) × IsStarred qs l.rest × (ps ≡ l.first ∷ l.others.items ++ qs);
    }

abbrev pub decreases-stars : goal.decreases-stars
decreases-stars l = length l.rest

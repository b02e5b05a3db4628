-- Substring assertions (RFC 4511, 4.5.1.7.2): pieces that stand in a value in order, with anything between them.
use Rattle.std.specs.Prelude.{◌≡◌, ℕ, ◌+◌, Bool, true, false, List, [], ◌∷◌, ◌++◌, length, slice_index_or, if◌then◌else◌}
use Rattle.matching.specs.declared.family.Family.{Family}
use Rattle.matching.specs.declared.family.Family.TheVariants as families
use Rattle.base.specs.Ends.{without_front, without_end}
use Rattle.matching.specs.Forms.{one_spaces, lower, norm}

-- ---- the normal form of a piece

-- without the spaces at the front, where nothing may stand before it
abbrev pub cut_front : Bool → List ℕ → List ℕ
cut_front before text = if before then text else without_front text

-- without the spaces at the end, where nothing may stand after it
abbrev pub cut_end : Bool → List ℕ → List ℕ
cut_end after text = if after then text else without_end text

-- each run of spaces made one, and none at an end of the whole value
abbrev pub tidy_piece : Bool → Bool → List ℕ → List ℕ
tidy_piece before after text = one_spaces (cut_end after (cut_front before text))

-- of a piece, with something before it perhaps, and after it
unfoldable pub piece_norm : Family → Bool → Bool → List ℕ → List ℕ
piece_norm families.Ignore before after text = lower (tidy_piece before after text)
piece_norm families.Exact before after text = tidy_piece before after text
piece_norm families.Numeric before after text = norm families.Numeric text
piece_norm families.Telephone before after text = norm families.Telephone text
piece_norm families.Integer before after text = norm families.Integer text
piece_norm families.Boolean before after text = norm families.Boolean text
piece_norm families.Octet before after text = norm families.Octet text
piece_norm families.Oid before after text = norm families.Oid text

-- whether something may stand after a piece: another one, or a star
abbrev pub follows : Bool → List (List ℕ) → Bool
follows back [] = back
follows back (piece ∷ pieces) = true

-- of all pieces, with a star before the first perhaps, and after the last
abbrev pub piece_norms : Family → Bool → Bool → List (List ℕ) → List (List ℕ)
piece_norms family front back [] = []
piece_norms family front back (piece ∷ pieces) = piece_norm family front (follows back pieces) piece ∷ piece_norms family true back pieces

-- ---- a value that they stand in

-- each stretch and the piece after it, and the last stretch
abbrev pub joined : List (List ℕ) → List (List ℕ) → List ℕ
joined [] pieces = []
joined (stretch ∷ stretches) [] = stretch
joined (stretch ∷ stretches) (piece ∷ pieces) = stretch ++ (piece ++ joined stretches pieces)

-- the text is the pieces in order with stretches between them, before the first and after the last; before the first (after
-- the last) the stretch is empty where no star stands there
pub record Fits (front back : Bool) (pieces : List (List ℕ)) (text : List ℕ) : Type 0 where
  pub stretches : List (List ℕ)
  pub count : length stretches ≡ length pieces + 1
  pub whole : text ≡ joined stretches pieces
  pub at_front : front ≡ false → slice_index_or stretches 0 [] ≡ []
  pub at_back : back ≡ false → slice_index_or stretches (length pieces) [] ≡ []

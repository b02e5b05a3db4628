-- A text cut behind its first line.
use Rattle.std.specs.Prelude.{◌≡◌, ℕ, List, ◌∷◌, ◌++◌}
use Rattle.base.specs.Ascii.{line_feed}
use Rattle.stored_index.specs.FaultyLines.{HasNoLineFeed}

-- the line, without its LF, and what stands behind that
pub record IsCutAt (text line rest : List ℕ) : Type 0 where
  pub text_is : text ≡ line ++ line_feed ∷ rest
  pub none : HasNoLineFeed line

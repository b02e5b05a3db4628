-- What a call leaves that stops while it puts a text behind what is there.
use Rattle.std.specs.Prelude.{◌≡◌, ℕ, List, ◌++◌}

-- what was there stands in front, and behind it a beginning of the text, perhaps none of it
pub record HasBegun (text before after : List ℕ) : Type 0 where
  pub begun : List ℕ
  pub rest : List ℕ
  pub parts : text ≡ begun ++ rest
  pub after_is : after ≡ before ++ begun

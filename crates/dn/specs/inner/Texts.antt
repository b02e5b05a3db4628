-- Texts that begin with a type, an equals sign and a value.
use Rattle.std.specs.Prelude.{◌≡◌, ℕ, ◌+◌, List, ◌∷◌, ◌++◌, length}
use Rattle.base.specs.Ascii.{equals_sign}
use Rattle.dn.specs.Spelling.{spaces}

-- a type, an equals sign among spaces, and what follows
pub record Starts (text ty rest : List ℕ) : Type 0 where
  pub before : ℕ
  pub behind : ℕ
  pub is : text ≡ ty ++ (spaces before ++ (equals_sign ∷ (spaces behind ++ rest)))

-- so many bytes at the front of a text are a type, an equals sign among spaces, and a value
pub record EndsAt (text ty value : List ℕ) (end : ℕ) : Type 0 where
  pub after : List ℕ
  pub starts : Starts text ty (value ++ after)
  pub ends : end + length after ≡ length text

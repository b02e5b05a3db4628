-- At which byte a text is at fault that spells no name (RFC 4514, section 3).
use Rattle.std.specs.Prelude.{ℕ, ◌<◌, ◌≤◌, List, ◌++◌, length, take}
use Rattle.dn.specs.Names.{Name}
use Rattle.dn.specs.Spelling.{Spells}

-- some text that begins so spells a name
abbrev pub BeginsName : List ℕ → Type 0
BeginsName text = (rest : List ℕ) × (n : Name) × Spells (text ++ rest) n

-- so many bytes begin a name, and no more of them: the byte behind them can't stand there in a name
pub record IsNameLike (text : List ℕ) (len : ℕ) : Type 0 where
  pub within : len ≤ length text
  pub begins : BeginsName (take len text)
  pub longest : (k : ℕ) → len < k → k ≤ length text → BeginsName (take k text) → ⊥

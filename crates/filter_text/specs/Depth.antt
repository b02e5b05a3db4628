-- How many parentheses are open at once: 512 at most.
use Rattle.std.specs.Prelude.{◌≡◌, ℕ, ◌+◌, ◌≤◌, ◌==◌, List, [], ◌∷◌, ◌++◌, length, count_by, if◌then◌else◌}
use Rattle.base.specs.Ascii.{left_parenthesis, right_parenthesis}
use Rattle.base.specs.Ends.{without_front}

abbrev pub opened : List ℕ → ℕ
opened bytes = count_by (λ b. b == left_parenthesis) bytes

abbrev pub closed : List ℕ → ℕ
closed bytes = count_by (λ b. b == right_parenthesis) bytes

abbrev pub added_before : List ℕ → ℕ
added_before [] = 0
added_before (b ∷ bytes) = if b == left_parenthesis then 0 else 1

-- the parenthesis that is added where the first byte that is no space is none that opens
abbrev pub added : List ℕ → ℕ
added text = added_before (without_front text)

-- in no beginning of these bytes are more than 512 open, some being open before
abbrev pub Within : ℕ → List ℕ → Type 0
Within before bytes = (front rest : List ℕ) → bytes ≡ front ++ rest → before + opened front ≤ closed front + 512

-- 512 are open, and the next byte opens one more, as none before did; so many bytes stand before it
pub record IsDeep (before : ℕ) (bytes : List ℕ) (at : ℕ) : Type 0 where
  pub front : List ℕ
  pub rest : List ℕ
  pub all : bytes ≡ front ++ left_parenthesis ∷ rest
  pub place : length front ≡ at
  pub full : before + opened front ≡ closed front + 512
  pub within : Within before front

-- no parenthesis of the text is too deep
abbrev pub IsShallow : List ℕ → Type 0
IsShallow text = Within (added text) text

-- the parenthesis behind so many bytes is the first that is too deep
abbrev pub IsDeepAt : List ℕ → ℕ → Type 0
IsDeepAt text at = IsDeep (added text) text at

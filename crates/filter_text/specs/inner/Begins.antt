-- What the reading of a part answers, and where it fails.
use denote.Ref.{Bor}
use Rattle.std.specs.Prelude.{◌≡◌, ℕ, List, ◌++◌, length, Result, MatchResult}
use Rattle.filter_text.specs.declared.fault.Fault.{Fault}
use Rattle.filter_text.specs.declared.fault.Fault.TheVariants.{OutOfMemory, Syntax}

abbrev pub IsMemory : Fault → Type 0
IsMemory OutOfMemory = Unit {0}
IsMemory (Syntax left) = ⊥

-- where the bytes are this text and more, y was read of it, and the rest is left; or memory ran out
abbrev pub IsRead : {X Y : Type 0} → (X → Y) → Y → List ℕ → List ℕ → List ℕ → Result (X × Bor (List ℕ)) Fault → Type 0
IsRead view y bytes text more result = bytes ≡ text ++ more → MatchResult result (λ x. (view x.0 ≡ y) × (x.1.now ≡ more)) IsMemory

-- what stands before the last `left` bytes begins a text of P
pub record Begins (P : List ℕ → Type 0) (bytes : List ℕ) (left : ℕ) : Type 0 where
  pub done : List ℕ
  pub rest : List ℕ
  pub all : bytes ≡ done ++ rest
  pub from_end : length rest ≡ left
  pub more : List ℕ
  pub viable : P (done ++ more)

abbrev pub Faulty : (List ℕ → Type 0) → List ℕ → Fault → Type 0
Faulty P bytes OutOfMemory = Unit {0}
Faulty P bytes (Syntax left) = Begins P bytes left

-- The first stanza of a text, by its length, and how far it goes.
use Rattle.std.specs.Prelude.{◌≡◌, ℕ, ◌<◌, List, [], ◌∷◌, ◌++◌, take, drop}
use Rattle.sorting.specs.Stanzas.{before_first, ended_lines, stanzas_from, stanzas}
use Rattle.sorting.specs.declared.stanzas.Begun.{Begun}

pub record IsFirstStanza (text : List ℕ) (len : ℕ) : Type 0 where
  pub some : 0 < len
  pub stanzas : stanzas text ≡ take len text ∷ stanzas (drop len text)

-- stanzas, where bytes of the first were taken
abbrev pub with_taken : List ℕ → List (List ℕ) → List (List ℕ)
with_taken [] ps = ps
with_taken (b ∷ bs) ps = before_first (b ∷ bs) ps

-- lines of a text were taken, and its first stanza goes on in the rest
pub record GoesOn (text : List ℕ) (begun : Begun) (rest : List ℕ) : Type 0 where
  pub taken : List ℕ
  pub parts : text ≡ taken ++ rest
  pub stanzas : stanzas text ≡ with_taken taken (stanzas_from begun (ended_lines rest))

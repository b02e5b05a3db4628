-- Ranks under one key, in front of others.
use Rattle.std.specs.Prelude.{◌≡◌, ℕ, false, List, [], ◌∷◌, ◌++◌, map, ⊤}
use Rattle.std.specs.Str.{bytes_eq}
use Rattle.index_keys.specs.RankedKeys.{Ranked}

-- a key with each of these ranks
abbrev pub under : List ℕ → List ℕ → List Ranked
under key ranks = map (λ rank. (key, rank)) ranks

-- ranks under the key went from the front of keys to other ranks
abbrev pub MovesRanks : List ℕ → List ℕ → List ℕ → List Ranked → List Ranked → Type 0
MovesRanks key old new keys rest = under key new ++ rest ≡ under key old ++ keys

-- the first one has another key, if there is one
abbrev pub BeginsOtherwise : List ℕ → List Ranked → Type 0
BeginsOtherwise key [] = ⊤
BeginsOtherwise key (p ∷ ps) = bytes_eq key p.0 ≡ false

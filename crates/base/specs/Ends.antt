-- How byte strings begin and end.
use Rattle.std.specs.Prelude.{ℕ, Bool, false, ◌==◌, if◌then◌else◌, List, [], ◌∷◌}
use Rattle.base.specs.Ascii.{space}

abbrev pub begins_with : ℕ → List ℕ → Bool
begins_with byte [] = false
begins_with byte (b ∷ bs) = b == byte

abbrev pub ends_with : ℕ → List ℕ → Bool
ends_with byte [] = false
ends_with byte (b ∷ []) = b == byte
ends_with byte (b ∷ c ∷ cs) = ends_with byte (c ∷ cs)

abbrev pub is_space : ℕ → Bool
is_space b = b == space

-- without the spaces at the front
abbrev pub without_front : List ℕ → List ℕ
without_front [] = []
without_front (b ∷ bs) = if is_space b then without_front bs else b ∷ bs

-- b in front of bs, where a space in front of nothing goes away
abbrev pub onto_text : ℕ → List ℕ → List ℕ
onto_text b [] = if is_space b then [] else b ∷ []
onto_text b (c ∷ cs) = b ∷ c ∷ cs

-- without the spaces at the end
abbrev pub without_end : List ℕ → List ℕ
without_end [] = []
without_end (b ∷ bs) = onto_text b (without_end bs)

-- How deep parentheses are open, counted from left to right.
use Rattle.std.specs.Prelude.{ℕ, ◌+◌, ◌==◌, nat_lt, Option, None, Some, List, [], ◌∷◌, if◌then◌else◌}
use Rattle.base.specs.Ascii.{left_parenthesis, right_parenthesis}

-- the place of the first parenthesis that leaves more than limit of them open; place bytes were before
abbrev pub deep_from : ℕ → ℕ → ℕ → ℕ → List ℕ → Option ℕ
deep_from limit place opened closed [] = None
deep_from limit place opened closed (b ∷ bytes) =
    if b == left_parenthesis
    then (if nat_lt (closed + limit) (opened + 1) then Some place else deep_from limit (place + 1) (opened + 1) closed bytes)
    else (if b == right_parenthesis then deep_from limit (place + 1) opened (closed + 1) bytes else deep_from limit (place + 1) opened closed bytes)

-- Numbers in decimal.
use Rattle.std.proofs.Common.{◌≡◌, ℕ, ◌+◌, ◌/◌, ◌%◌, ◌<◌, ◌≤◌, ◌^◌, List, [], ◌∷◌, ◌++◌}
use Rattle.std.specs.Fmt.{decimal}
use Rattle.std.proofs.lemmas.Fmt.{decimal_step}
use Rattle.std.proofs.lemmas.List.{append_assoc}

-- behind a text that ends with all digits but the last
pub decimal_last : (n c : ℕ) (out front new : List ℕ) → 10 ≤ n → n < 2 ^ 64 → c ≡ 48 + n % 10 → front ≡ out ++ decimal (n / 10) → new ≡ front ++ c ∷ []
    → new ≡ out ++ decimal n
decimal_last n c out front new large fits digit before put =
    rw (put, before, decimal_step n large fits, digit) (append_assoc out (decimal (n / 10)) ((48 + n % 10) ∷ []))

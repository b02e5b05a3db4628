-- Values of an attribute by their normal forms.
use Rattle.std.specs.Prelude.{ℕ, Bool, not, List}
use Rattle.std.specs.List.{list_any, filter}
use Rattle.std.specs.Str.{bytes_eq}
use Rattle.values.specs.Values.{Value}

-- whether one of the values has this normal form
abbrev pub has_norm : List ℕ → List Value → Bool
has_norm norm vs = list_any (λ v. bytes_eq v.norm norm) vs

-- those that have another normal form
abbrev pub but_norm : List ℕ → List Value → List Value
but_norm norm vs = filter (λ v. not (bytes_eq v.norm norm)) vs

-- Normal forms of values (RFC 4518 for ASCII): two values are equal under a matching rule where their normal forms are (RFC 4517, 4.2).
use Rattle.std.specs.Prelude.{ℕ, Bool, false, ◌&&◌, not, ◌==◌, if◌then◌else◌, List, [], ◌∷◌, map, filter}
use Rattle.std.specs.Char.{to_ascii_lowercase}
use Rattle.base.specs.Ascii.{hyphen}
use Rattle.base.specs.Ends.{is_space, without_front, without_end}
use Rattle.matching.specs.declared.family.Family.{Family}
use Rattle.matching.specs.declared.family.Family.TheVariants as families

abbrev pub begins_with_space : List ℕ → Bool
begins_with_space [] = false
begins_with_space (b ∷ bs) = is_space b

-- each run of spaces made one: a space before a space goes away
abbrev pub one_spaces : List ℕ → List ℕ
one_spaces [] = []
one_spaces (b ∷ bs) = if is_space b && begins_with_space bs then one_spaces bs else b ∷ one_spaces bs

-- no spaces at the ends, and one in each gap
abbrev pub tidy : List ℕ → List ℕ
tidy bs = without_end (one_spaces (without_front bs))

abbrev pub lower : List ℕ → List ℕ
lower bs = map to_ascii_lowercase bs

abbrev pub is_no_space : ℕ → Bool
is_no_space b = not (is_space b)

-- neither a space nor a hyphen
abbrev pub is_no_filler : ℕ → Bool
is_no_filler b = not (is_space b) && not (b == hyphen)

unfoldable pub norm : Family → List ℕ → List ℕ
norm families.Ignore bs = lower (tidy bs)
norm families.Exact bs = tidy bs
norm families.Numeric bs = filter is_no_space bs
norm families.Telephone bs = lower (filter is_no_filler bs)
norm families.Integer bs = bs
norm families.Boolean bs = bs
norm families.Octet bs = bs
norm families.Oid bs = lower bs

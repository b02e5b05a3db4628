-- The number that an `Integer` is.
use Rattle.std.specs.Prelude.{ℤ, pos, neg_ℤ, if◌then◌else◌}
use Rattle.matching.specs.declared.integer.Integer.{Integer}

abbrev pub number : Integer → ℤ
number n = if n.negative then neg_ℤ (pos n.magnitude) else pos n.magnitude

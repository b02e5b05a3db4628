-- The definitions at values worked out by hand from RFC 4517 (3.3, 4.2) and RFC 4518 (2.6).
use Rattle.std.specs.Prelude.{◌≡◌, true, false, codes, refl}
use Rattle.matching.specs.declared.family.Family.TheVariants as families
use Rattle.matching.specs.declared.syntax.Syntax.TheVariants as syntaxes
use Rattle.matching.specs.Forms.{norm}
use Rattle.matching.specs.Syntaxes.{is_valid}

-- case goes away, spaces at the ends too, and a run of them is one
pub ignored_case : norm families.Ignore (codes "  Foo   BAR ") ≡ codes "foo bar"
unfolding norm
ignored_case = refl

pub kept_case : norm families.Exact (codes "  Foo   BAR ") ≡ codes "Foo BAR"
unfolding norm
kept_case = refl

pub numeric : norm families.Numeric (codes " 12 34 5") ≡ codes "12345"
unfolding norm
numeric = refl

-- neither spaces nor hyphens count
pub telephone : norm families.Telephone (codes "+1 512-315 02 80") ≡ codes "+15123150280"
unfolding norm
telephone = refl

pub boolean : is_valid syntaxes.Boolean (codes "TRUE") ≡ true
unfolding is_valid
boolean = refl

pub boolean_in_lower_case : is_valid syntaxes.Boolean (codes "true") ≡ false
unfolding is_valid
boolean_in_lower_case = refl

-- no zero before other digits, and none below zero
pub negative : is_valid syntaxes.Integer (codes "-1321") ≡ true
unfolding is_valid
negative = refl

pub zero_in_front : is_valid syntaxes.Integer (codes "01") ≡ false
unfolding is_valid
zero_in_front = refl

pub zero_below_zero : is_valid syntaxes.Integer (codes "-0") ≡ false
unfolding is_valid
zero_below_zero = refl

pub empty_numeric : is_valid syntaxes.Numeric (codes "") ≡ false
unfolding is_valid
empty_numeric = refl

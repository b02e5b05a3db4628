-- One of the two sides of a bracket.
use Rattle.std.specs.Prelude.{Bool, true, false, ◌&&◌, ◌||◌, List}
use Rattle.std.specs.List.{list_any, list_all}
use Rattle.candidates.specs.declared.side.Side.{Side}
use Rattle.candidates.specs.declared.side.Side.TheVariants.{MayBeTrue, MayBeFalse}
use Rattle.candidates.specs.Sides.{Sides}

abbrev pub on : Side → Sides → Bool
on MayBeTrue s = s.may
on MayBeFalse s = s.may_not

abbrev pub other : Side → Side
other MayBeTrue = MayBeFalse
other MayBeFalse = MayBeTrue

abbrev pub is_may_be_true : Side → Bool
is_may_be_true MayBeTrue = true
is_may_be_true MayBeFalse = false

abbrev pub both_or_either : Bool → Bool → Bool → Bool
both_or_either true a b = a && b
both_or_either false a b = a || b

-- of all of these, or of one of them
abbrev pub all_or_one : Bool → Side → List Sides → Bool
all_or_one true side each = list_all (on side) each
all_or_one false side each = list_any (on side) each

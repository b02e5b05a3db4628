use Rattle.std.proofs.Common.{◌≡◌, take}
use Rattle.suffixes.proofs.copies.classes_of.Given as goal

abbrev pub invariant-loop-class : goal.invariant-loop-class
invariant-loop-class l = l.classes ≡ take l.class-index l.all

-- What a search has still to go through, by the form in which it does.
use Rattle.std.specs.Prelude.{List, map}
use Rattle.databases.specs.declared.untested.Left.{Left}
use Rattle.databases.specs.declared.untested.Left.TheVariants.{Marked, Picked}
use Rattle.databases.specs.inner.Marks.{MarkedEntry}
use Rattle.databases.specs.inner.Picks.{as_candidate}

abbrev pub left_of : {S : Type 0} → Left S → List MarkedEntry
left_of (Marked es) = es
left_of (Picked es) = map as_candidate es

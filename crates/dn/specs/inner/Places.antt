-- What the fields of a text hold.
use Rattle.std.specs.Prelude.{ℕ, ◌≤◌, List, take}
use Rattle.dn.specs.declared.text.Place.{Place}
use Rattle.dn.specs.declared.text.Place.TheVariants.{Few, Many}

abbrev pub bytes_in : Place → List ℕ
bytes_in (Few len bytes) = take len bytes
bytes_in (Many bytes) = bytes.items

abbrev pub IsWithin : Place → Type 0
IsWithin (Few len bytes) = len ≤ 24
IsWithin (Many bytes) = Unit {0}

-- Which entries are above which, and in which order that is kept.
use Rattle.std.specs.Prelude.{◌≡◌, Bool, false, List, [], ◌∷◌, Option, Some, None, ⊤}
use Rattle.std.specs.List.{list_any, AllByRecursion}
use Rattle.std.specs.Str.{bytes_eq}
use Rattle.sorting.specs.Turns.{names_above}
use Rattle.sorting.specs.declared.normal_names.NormalName.{NormalName}

-- whether the first name is that of an entry above the second: RDN by RDN a proper end of it
abbrev pub is_above : Option NormalName → Option NormalName → Bool
is_above None other = false
is_above (Some name) other = list_any (bytes_eq name.text) (names_above other)

-- none of these stands behind one that it is above
abbrev pub AreInOrder : List (Option NormalName) → Type 0
AreInOrder [] = ⊤
AreInOrder (name ∷ more) = AllByRecursion (λ later. is_above later name ≡ false) more × AreInOrder more

-- Entries by the normal forms of their values, in a map.
use Rattle.std.specs.Prelude.{ℕ, Bool, true, false, List, [], ◌∷◌, Option, Some, None, if◌then◌else◌}
use Rattle.std.specs.List.{flat_map, list_any}
use Rattle.std.specs.Str.{bytes_eq}
use Rattle.std.specs.BTreeMap.{BTreeMap, get, values}
use Rattle.std.specs.Cmp.Lexicographic.{slice_cmp}
use Rattle.std.specs.Ordering.{nat_cmp}
use Rattle.std.specs.Option.{option_to_list}
use Rattle.values.specs.Values.{Value}
use Rattle.paths.specs.Paths.{Path}
use Rattle.checks.specs.declared.shared_value.SharedValue.{SharedValue}
use Rattle.checks.specs.Sharing.{begins_sharing}

abbrev pub HoldersByNorm : Type 0
HoldersByNorm = BTreeMap (List ℕ) (List Path)

abbrev pub paths_in : Option (List Path) → List Path
paths_in None = []
paths_in (Some ps) = ps

-- the entries that have a value of this normal form
abbrev pub paths_at : HoldersByNorm → List ℕ → List Path
paths_at m q = paths_in (get (slice_cmp nat_cmp) m q)

abbrev pub have_same_norm : Value → Value → Bool
have_same_norm v w = bytes_eq v.norm w.norm

-- a value with the entries that have it, where these are several and this is the first
abbrev pub shared_from : HoldersByNorm → Path → Value → Option SharedValue
shared_from m p v = if begins_sharing p (paths_at m v.norm) then Some (record { value = v.raw; paths = paths_at m v.norm }) else None

abbrev pub shared_by : HoldersByNorm → Path → List Value → List SharedValue
shared_by m p vs = flat_map (λ v. option_to_list (shared_from m p v)) vs

abbrev pub are_several : List Path → Bool
are_several [] = false
are_several (p ∷ []) = false
are_several (p ∷ q ∷ more) = true

-- whether several entries have one of the values
abbrev pub some_share : HoldersByNorm → Bool
some_share m = list_any are_several (values m)

-- Keys with their members, as they are stored.
use Rattle.std.specs.Prelude.{◌≢◌, ℕ, List, Some, map}
use Rattle.std.specs.Map.{lookup}
use Rattle.std.specs.BTreeMap.{BTreeMap}
use Rattle.std.specs.Str.{bytes_eq}
use Rattle.std.specs.FinMap as finite
use Rattle.std.specs.FinSet as set
use Rattle.std.specs.declared.vec.Vec.{Vec}
use Rattle.dense_sets.specs.declared.key_set.KeySet.{KeySet}
use Rattle.index_text.specs.KeySets.{Row, SetsByKey}
use Rattle.index.specs.declared.short_key.ShortKey.{ShortKey}
use Rattle.index.specs.inner.ShortKeys.{key_in}

-- the bytes of a key, and its members
abbrev pub row_by : {K : Type 0} → (K → List ℕ) → K × KeySet → Row
row_by bytes e = (bytes e.0, e.1.members)

abbrev pub rows_by : {K : Type 0} → (K → List ℕ) → List (K × KeySet) → List Row
rows_by bytes es = map (row_by bytes) es

abbrev pub sets_by : {K : Type 0} → (K → List ℕ) → BTreeMap K KeySet → SetsByKey
sets_by bytes sets = finite.from_entries (rows_by bytes sets.entries)

-- of keys that lie in a map themselves, with room for so many bytes
abbrev pub short_rows : (n : ℕ) → List (ShortKey n × KeySet) → List Row
short_rows n es = rows_by (λ k. key_in n k.bytes) es

abbrev pub long_rows : {A : Type 0} → List (Vec ℕ A × KeySet) → List Row
long_rows es = rows_by (λ k. k.items) es

-- each key has a member
abbrev pub HaveMembers : List Row → Type 0
HaveMembers rows = (key : List ℕ) → lookup (bytes_eq key) rows ≢ Some set.empty

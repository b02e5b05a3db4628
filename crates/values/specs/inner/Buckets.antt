-- How the entries of an index are found: by buckets that hold their places.
use Rattle.std.specs.Prelude.{◌≡◌, ℕ, ◌+◌, ◌*◌, ◌-◌, ◌%◌, ◌^◌, ◌<◌, ◌&&◌, nat_le, if◌then◌else◌, List, [], ◌∷◌, map, length, slice_index, slice_index_or, bit_and, bit_or}
use Rattle.std.specs.Int.{from_le_bytes, swap_bytes, w64}
use Rattle.std.specs.List.{fold, AllByRecursion}
use Rattle.values.specs.declared.name_index.NameEntry.{NameEntry}
use Rattle.values.specs.Tables.{named, number_of}

-- in ASCII a capital and its small letter differ in this bit
abbrev pub case_bit : ℕ
case_bit = 32

abbrev pub key_with : ℕ → ℕ → ℕ
key_with key b = (key * 33 % 2 ^ 64 + bit_or b case_bit) % 2 ^ 64

abbrev pub key_by_bytes : List ℕ → ℕ
key_by_bytes name = fold key_with 0 name

-- a byte, the same in each ASCII case
abbrev pub small_at : List ℕ → ℕ → ℕ
small_at name at = bit_or (slice_index name at) case_bit

-- the eight bytes from a place on
unfoldable pub word_at : List ℕ → ℕ → ℕ
word_at name at = from_le_bytes w64 (small_at name at ∷ small_at name (at + 1) ∷ small_at name (at + 2) ∷ small_at name (at + 3) ∷ small_at name (at + 4) ∷ small_at name (at + 5) ∷ small_at name (at + 6) ∷ small_at name (at + 7) ∷ [])

-- an odd number: of a product by it each byte depends on all those below
abbrev pub spread : ℕ
spread = 11400714819323198485

-- of the words at the ends; the byte that depends on all bytes is the lowest
unfoldable pub key_by_words : List ℕ → ℕ
key_by_words name = swap_bytes w64 ((word_at name 0 * spread % 2 ^ 64 + word_at name (length name - 8)) % 2 ^ 64 * spread % 2 ^ 64)

-- a number for a name, the same in each ASCII case
unfoldable pub key_of : List ℕ → ℕ
key_of name = if nat_le 8 (length name) && nat_le (length name) 16 then key_by_words name else key_by_bytes name

-- which of so many buckets is a name's
abbrev pub bucket_of : ℕ → List ℕ → ℕ
bucket_of count name = bit_and (key_of name) (count - 1)

abbrev pub bucket_at : List (List ℕ) → ℕ → List ℕ
bucket_at buckets bucket = slice_index_or buckets bucket []

-- what stands for an entry that isn't there
abbrev pub no_entry : NameEntry
no_entry = named 0 []

abbrev pub entry_at : List NameEntry → ℕ → NameEntry
entry_at entries place = slice_index_or entries place no_entry

-- the entries at these places
abbrev pub entries_at : List NameEntry → List ℕ → List NameEntry
entries_at entries places = map (entry_at entries) places

-- places of entries, and for each name the first entry with it is the first one of its bucket
pub record AreFound (entries : List NameEntry) (buckets : List (List ℕ)) : Type 0 where
  pub some : 0 < length buckets
  pub within : (bucket : ℕ) → AllByRecursion (λ place. place < length entries) (bucket_at buckets bucket)
  pub first : (name : List ℕ) → number_of (entries_at entries (bucket_at buckets (bucket_of (length buckets) name))) name ≡ number_of entries name

-- The line of a key: the key, and the ranks of the entries that have it.
use Rattle.std.specs.Prelude.{ℕ, ◌+◌, Bool, true, false, nat_lt, nat_le, if◌then◌else◌, List, [], ◌∷◌, Option, Some, None, Result, Ok, Err}
use Rattle.std.specs.List.{list_all}
use Rattle.std.specs.Ordering.{nat_cmp, is_lt}
use Rattle.std.specs.Cmp.Lexicographic.{slice_cmp}
use Rattle.base.specs.Answers.{◌>>=◌, each}
use Rattle.base.specs.Ascii.{space}
use Rattle.index_text.specs.IndexTexts.{Row}
use Rattle.stored_index.specs.Cuts.{parts}
use Rattle.stored_index.specs.Words.{number_in, key_in}
use Rattle.stored_index.specs.declared.fault.IndexFaultKind.{IndexFaultKind}
use Rattle.stored_index.specs.declared.fault.IndexFaultKind.TheVariants.{Form, Order, Rank}

-- each is at least the least, and above the one before it
unfoldable pub are_rising : ℕ → List ℕ → Bool
are_rising least [] = true
are_rising least (rank ∷ ranks) = if nat_le least rank then are_rising (rank + 1) ranks else false

-- each is that of one of so many entries
abbrev pub are_within : ℕ → List ℕ → Bool
are_within entries ranks = list_all (λ rank. nat_lt rank entries) ranks

-- ranks that rise, behind a key that is in order itself or not
abbrev pub are_in_order : Bool → List ℕ → Bool
are_in_order key ranks = if key then are_rising 0 ranks else false

abbrev pub checked : Bool → ℕ → List ℕ → Result (List ℕ) IndexFaultKind
checked key_in_order entries ranks =
    if are_in_order key_in_order ranks then (if are_within entries ranks then Ok ranks else Err Rank) else Err Order

-- these words as ranks
unfoldable pub ranks_in : Bool → ℕ → List (List ℕ) → Result (List ℕ) IndexFaultKind
ranks_in key_in_order entries words = each number_in words >>= checked key_in_order entries

-- by their bytes
abbrev pub is_above : Option (List ℕ) → List ℕ → Bool
is_above None key = true
is_above (Some before) key = is_lt (slice_cmp nat_cmp before key)

abbrev pub row_of : Option (List ℕ) → ℕ → List (List ℕ) → Result Row IndexFaultKind
row_of before entries [] = Err Form
row_of before entries (word ∷ []) = Err Form
row_of before entries (word ∷ rank ∷ ranks) = key_in word >>= λ key. ranks_in (is_above before key) entries (rank ∷ ranks) >>= λ rs. Ok (key, rs)

-- a line, behind that of another key; its form comes first, then the order of the key and of the ranks, then whether there are such entries
unfoldable pub row_in : Option (List ℕ) → ℕ → List ℕ → Result Row IndexFaultKind
row_in before entries line = row_of before entries (parts space line)

-- Names with numbers, whose places stand in buckets.
use Rattle.std.proofs.Common.{ap, ◌≡◌, ℕ, zero, suc, ◌<◌, ◌+◌, ◌-◌, ◌*◌, ◌%◌, bit_and, bit_or, get_or, take, drop, ◌≤◌, cond, ◌&&◌, Bool, true, false, List, [], ◌∷◌, ◌++◌, length, refl, sym, ◌∙◌, arith}
use Rattle.std.specs.Prelude.{nat_eq, nat_lt, nat_le, slice_set, ◌^◌, ◌==◌}
use Rattle.std.specs.Char.{to_ascii_lowercase}
use Rattle.std.specs.Int.{from_le_bytes, swap_bytes, w64}
use Rattle.std.specs.List.{AllByRecursion, fold}
use Rattle.std.proofs.lemmas.Bool.{agree_below_at, ltb-true}
use Rattle.std.specs.Str.{str_eq_ignore_ascii_case, str_to_ascii_lowercase}
use Rattle.std.proofs.lemmas.Bool.Decides.{nat_tests, Decides-eqb}
use Rattle.std.proofs.Math.ListN.{get_or-append, get_or-map}
use Rattle.std.proofs.Math.Seq.{get_or-append_seam}
use Rattle.std.proofs.lemmas.List.{take-take, take_all, take-append-drop, length-drop, length-append, length-map, length-set, get_or-set_same, get_or-set_other, map-append}
use Rattle.std.proofs.lemmas.Slice.Eq.{bytes_eq-Decides}
use Rattle.values.specs.declared.name_index.NameEntry.{NameEntry}
use Rattle.values.specs.Tables.{number_of, or_if}
use Rattle.values.specs.inner.Buckets.{case_bit, key_with, key_by_bytes, small_at, word_at, spread, key_by_words, key_of, bucket_of, bucket_at, no_entry, entry_at, entries_at, AreFound}
use Rattle.values.proofs.Tables.{or_none, number_push}

same_bit : (b : ℕ) → bit_or (to_ascii_lowercase b) case_bit ≡ bit_or b case_bit
same_bit b = by (nat_lt b 91) refl
  where
    by : (low : Bool) → nat_lt b 91 ≡ low → bit_or (to_ascii_lowercase b) case_bit ≡ bit_or b case_bit
    by true h = (Decides-eqb (bit_or (to_ascii_lowercase b) case_bit) (bit_or b case_bit)).0 (agree_below_at (λ b. bit_or (to_ascii_lowercase b) case_bit == bit_or b case_bit) (λ _. true) 91 b refl (ltb-true b 91 h))
    by false h = ap (λ c. bit_or c case_bit) (let same : to_ascii_lowercase b ≡ b = grind (arith, nat_tests) in same)

in_lower_case : (key : ℕ) (name : List ℕ) → fold key_with key name ≡ fold key_with key (str_to_ascii_lowercase name)
in_lower_case key [] = refl
in_lower_case key (b ∷ bs) = in_lower_case (key_with key b) bs ∙ (λ j. fold key_with ((key * 33 % 2 ^ 64 + sym (same_bit b) j) % 2 ^ 64) (str_to_ascii_lowercase bs))

module _ (a b : List ℕ) (alike : str_to_ascii_lowercase a ≡ str_to_ascii_lowercase b) where
  same_length : length a ≡ length b
  same_length = sym (length-map a to_ascii_lowercase) ∙ ap length alike ∙ length-map b to_ascii_lowercase

  same_byte : (at : ℕ) → small_at a at ≡ small_at b at
  same_byte at = sym (in_small a) ∙ ap (λ (name : List ℕ). small_at name at) alike ∙ in_small b
    where
      in_small : (name : List ℕ) → small_at (str_to_ascii_lowercase name) at ≡ small_at name at
      in_small name = ap (λ c. bit_or c case_bit) (get_or-map to_ascii_lowercase name at 0) ∙ same_bit (get_or name at 0)

  same_word : (at : ℕ) → word_at a at ≡ word_at b at
  unfolding word_at
  same_word at = λ j. from_le_bytes w64 (same_byte at j ∷ same_byte (at + 1) j ∷ same_byte (at + 2) j ∷ same_byte (at + 3) j ∷ same_byte (at + 4) j ∷ same_byte (at + 5) j ∷ same_byte (at + 6) j ∷ same_byte (at + 7) j ∷ [])

  same_words : key_by_words a ≡ key_by_words b
  unfolding key_by_words
  same_words =
      let last : word_at a (length a - 8) ≡ word_at b (length b - 8) = same_word (length a - 8) ∙ ap (λ n. word_at b (n - 8)) same_length in
      λ j. swap_bytes w64 ((same_word 0 j * spread % 2 ^ 64 + last j) % 2 ^ 64 * spread % 2 ^ 64)

  same_bytes : key_by_bytes a ≡ key_by_bytes b
  same_bytes = in_lower_case 0 a ∙ ap (fold key_with 0) alike ∙ sym (in_lower_case 0 b)

  same_key : key_of a ≡ key_of b
  unfolding key_of
  same_key = λ j. cond (nat_le 8 (same_length j) && nat_le (same_length j) 16) (same_words j) (same_bytes j)

-- names alike but for case have one key
same_bucket : (count : ℕ) (a b : List ℕ) → str_eq_ignore_ascii_case a b ≡ true → bucket_of count a ≡ bucket_of count b
same_bucket count a b h =
    ap (λ key. bit_and key (count - 1)) (same_key a b ((bytes_eq-Decides (str_to_ascii_lowercase a) (str_to_ascii_lowercase b)).0 h))

-- names whose ends cover them are equal where these are
pub equal_ends : (a b : List ℕ) (k from : ℕ) → from ≤ k → take k a ≡ take k b → take (length a - from) (drop from a) ≡ take (length b - from) (drop from b) → a ≡ b
equal_ends a b k from le front back =
    let begins : take from a ≡ take from b = sym (take-take from k a le) ∙ ap (take from) front ∙ take-take from k b le in
    let all : (c : List ℕ) → take (length c - from) (drop from c) ≡ drop from c = λ c. take_all (length c - from) (drop from c) (omega (arith, length-drop from c)) in
    sym (take-append-drop from a) ∙ (λ i. begins i ++ (sym (all a) ∙ back ∙ all b) i) ∙ take-append-drop from b

-- ---- one entry more

abbrev Within : List NameEntry → List ℕ → Type 0
Within entries places = AllByRecursion (λ place. place < length entries) places

-- whatever is put behind them, the entries at these places stay
at_stays : (entries : List NameEntry) (e : NameEntry) (places : List ℕ) → Within entries places → entries_at (entries ++ e ∷ []) places ≡ entries_at entries places
at_stays entries e [] h = refl
at_stays entries e (p ∷ ps) h =
    ap (λ (d : NameEntry). d ∷ entries_at (entries ++ e ∷ []) ps) (get_or-append entries (e ∷ []) no_entry p h.0)
    ∙ ap (λ (es : List NameEntry). entry_at entries p ∷ es) (at_stays entries e ps h.1)

at_put : (entries : List NameEntry) (e : NameEntry) (places : List ℕ) → Within entries places → entries_at (entries ++ e ∷ []) (places ++ length entries ∷ []) ≡ entries_at entries places ++ e ∷ []
at_put entries e places h =
    map-append (entry_at (entries ++ e ∷ [])) places (length entries ∷ [])
    ∙ ap (λ (d : NameEntry). entries_at (entries ++ e ∷ []) places ++ d ∷ []) (get_or-append_seam entries e [] no_entry)
    ∙ ap (λ (es : List NameEntry). es ++ e ∷ []) (at_stays entries e places h)

within_more : (entries : List NameEntry) (e : NameEntry) (places : List ℕ) → Within entries places → Within (entries ++ e ∷ []) places
within_more entries e [] h = tt
within_more entries e (p ∷ ps) h = (omega (arith, h.0, length-append entries (e ∷ [])), within_more entries e ps h.1)

within_put : (entries : List NameEntry) (e : NameEntry) (places : List ℕ) → Within entries places → Within (entries ++ e ∷ []) (places ++ length entries ∷ [])
within_put entries e [] h = (omega (arith, length-append entries (e ∷ [])), tt)
within_put entries e (p ∷ ps) h = (omega (arith, h.0, length-append entries (e ∷ [])), within_put entries e ps h.1)

-- an entry at the end, and its place at the end of its bucket
module _ (entries : List NameEntry) (buckets : List (List ℕ)) (e : NameEntry) (b : ℕ) (found : AreFound entries buckets) (is : b ≡ bucket_of (length buckets) e.name) (lt : b < length buckets) where
  abbrev more : List NameEntry
  more = entries ++ e ∷ []

  abbrev put : List (List ℕ)
  put = slice_set buckets b (bucket_at buckets b ++ length entries ∷ [])

  within_all : (j : ℕ) → Within more (bucket_at put j)
  within_all j = by (nat_eq j b) refl
    where
      by : (here : Bool) → nat_eq j b ≡ here → Within more (bucket_at put j)
      by true h =
          let at : j ≡ b = grind (arith, nat_tests) in
          rw (at, get_or-set_same buckets b (bucket_at buckets b ++ length entries ∷ []) [] lt) (within_put entries e (bucket_at buckets b) (found.within b))
      by false h = rw (get_or-set_other buckets b j (bucket_at buckets b ++ length entries ∷ []) [] (λ same. absurd (grind (arith, nat_tests)))) (within_more entries e (bucket_at buckets j) (found.within j))

  pub found_put : AreFound (entries ++ e ∷ []) (slice_set buckets b (bucket_at buckets b ++ length entries ∷ []))
  found_put = record {
    some = omega (arith, found.some, length-set buckets b (bucket_at buckets b ++ length entries ∷ []));
    within = within_all;
    first = λ name. rw (length-set buckets b (bucket_at buckets b ++ length entries ∷ [])) (by name (str_eq_ignore_ascii_case e.name name) refl (nat_eq (bucket_of (length buckets) name) b) refl);
  }
    where
      by : (name : List ℕ) (alike : Bool) → str_eq_ignore_ascii_case e.name name ≡ alike → (here : Bool) → nat_eq (bucket_of (length buckets) name) b ≡ here → number_of (entries_at more (bucket_at put (bucket_of (length buckets) name))) name ≡ number_of more name
      by name alike h true k =
          let at : bucket_of (length buckets) name ≡ b = grind (arith, nat_tests) in
          rw (at, get_or-set_same buckets b (bucket_at buckets b ++ length entries ∷ []) [] lt, at_put entries e (bucket_at buckets b) (found.within b))
          (number_push (entries_at entries (bucket_at buckets b)) e name
          ∙ ap (λ o. or_if o (str_eq_ignore_ascii_case e.name name) e.number) ((λ j. number_of (entries_at entries (bucket_at buckets (sym at j))) name) ∙ found.first name)
          ∙ sym (number_push entries e name))
      by name true h false k = absurd (grind (arith, nat_tests, k, is, same_bucket (length buckets) e.name name h))
      by name false h false k =
          let j : ℕ = bucket_of (length buckets) name in
          rw (get_or-set_other buckets b j (bucket_at buckets b ++ length entries ∷ []) [] (λ same. absurd (grind (arith, nat_tests))), at_stays entries e (bucket_at buckets j) (found.within j))
          (found.first name ∙ or_none (number_of entries name) e.number ∙ ap (λ (a : Bool). or_if (number_of entries name) a e.number) (sym h) ∙ sym (number_push entries e name))

-- ---- no entry yet

empty_at : (buckets : List (List ℕ)) (i : ℕ) → AllByRecursion (λ places. places ≡ []) buckets → bucket_at buckets i ≡ []
empty_at [] i h = refl
empty_at (ps ∷ buckets) zero h = h.0
empty_at (ps ∷ buckets) (suc i) h = empty_at buckets i h.1

pub none_there : (entries : List NameEntry) (buckets : List (List ℕ)) → entries ≡ [] → 0 < length buckets → AllByRecursion (λ places. places ≡ []) buckets → AreFound entries buckets
none_there entries buckets is some h = record {
  some = some;
  within = λ b. rw (empty_at buckets b h) tt;
  first = λ name. rw (empty_at buckets (bucket_of (length buckets) name) h, is) refl;
}

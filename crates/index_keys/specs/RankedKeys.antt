-- Keys, each with the rank of an entry that has it, and the rows of an index text that they come to.
use Rattle.std.specs.Prelude.{◌≡◌, ℕ, Bool, ◌&&◌, nat_eq, List, [], ◌∷◌, ◌++◌, if◌then◌else◌}
use Rattle.std.specs.declared.cmp.Ordering.{Ordering}
use Rattle.std.specs.Ordering.{nat_cmp, ordering_then}
use Rattle.std.specs.Cmp.Lexicographic.{slice_cmp}
use Rattle.std.specs.List.{list_any, flat_map}
use Rattle.std.specs.List.Sorted.{IsStrictlySortedBy}
use Rattle.std.specs.Str.{bytes_eq}
use Rattle.schema.specs.declared.slots.IndexKind.{IndexKind}
use Rattle.index_keys.specs.declared.type_norms.NumberedNorm.{NumberedNorm}
use Rattle.index_keys.specs.TypeNorms.{has_by}
use Rattle.index_text.specs.IndexTexts.{Row, ended, key_line}

-- a key, and the rank of one entry that has it
abbrev pub Ranked : Type 0
Ranked = List ℕ × ℕ

-- by the bytes of the key, and then by the rank
abbrev pub ranked_cmp : Ranked → Ranked → Ordering
ranked_cmp p q = ordering_then (slice_cmp nat_cmp p.0 q.0) (nat_cmp p.1 q.1)

-- whether the key stands there with the rank
abbrev pub is_among : List Ranked → List ℕ → ℕ → Bool
is_among ps key rank = list_any (λ p. nat_eq rank p.1 && bytes_eq p.0 key) ps

-- in order, each once: the keys of a kind of index that normal forms give, each with the number of the entry that has it
pub record AreRanked (kind : IndexKind) (ns : List NumberedNorm) (ps : List Ranked) : Type 0 where
  pub rise : IsStrictlySortedBy ranked_cmp ps
  pub exact : (key : List ℕ) (rank : ℕ) → is_among ps key rank ≡ has_by kind ns key rank

-- the bytes of normal forms, one behind the other
abbrev pub joined : List NumberedNorm → List ℕ
joined ns = flat_map (λ x. x.norm.now) ns

-- one rank more in front, under the key of the first row or in a row of its own
abbrev pub put_front : Ranked → List Row → List Row
put_front p [] = (p.0, p.1 ∷ []) ∷ []
put_front p (row ∷ rows) = if bytes_eq p.0 row.0 then (row.0, p.1 ∷ row.1) ∷ rows else (p.0, p.1 ∷ []) ∷ row ∷ rows

-- the ranks that follow each other under one key are its row
abbrev pub rows_of : List Ranked → List Row
rows_of [] = []
rows_of (p ∷ ps) = put_front p (rows_of ps)

-- the lines of these rows
abbrev pub rows_text : List Ranked → List ℕ
rows_text ps = flat_map (λ row. ended (key_line row)) (rows_of ps)

abbrev pub line_of_first : List Row → List ℕ
line_of_first [] = []
line_of_first (row ∷ rows) = ended (key_line row)

-- the line of the first row: the first key with all its ranks
abbrev pub first_row_text : List Ranked → List ℕ
first_row_text ps = line_of_first (rows_of ps)

-- a text got one line: this line and those of the other keys' rows are the lines of all rows
abbrev pub WritesRow : List Ranked → List Ranked → List ℕ → List ℕ → Type 0
WritesRow all others old new = (line : List ℕ) × (new ≡ old ++ line) × (rows_text all ≡ line ++ rows_text others)

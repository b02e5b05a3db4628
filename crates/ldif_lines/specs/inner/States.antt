-- What a record that is being read, and the lines after it, hold.
use Rattle.std.specs.Prelude.{◌≡◌, slice_index, length, ◌-◌, All, ◌==◌, if◌then◌else◌, ℕ, ◌+◌, Bool, true, false, cond, List, [], ◌∷◌, ◌++◌, map, filter, Option, Some}
use Rattle.std.specs.List.{slice_split, enumerate_from, filter_map, cons_option}
use Rattle.std.specs.Str.Lines.{lines}
use Rattle.ldif_lines.specs.Records.{Body, RawRecord, is_blank, is_kept, number_of, bytes_of, continuation, joined, body_of, body_of_block, with_first, but_last, whole_lines}
use Rattle.ldif_lines.specs.inner.Drafts.{Draft, Numbers, none_numbered, append_last, add}

abbrev pub kept : List (ℕ × List ℕ) → List (ℕ × List ℕ)
kept ls = filter is_kept (joined ls)

-- a body of some lines, behind which no other line than these is kept
abbrev pub with_kept : Numbers → List (List ℕ) → List (ℕ × List ℕ) → Body
with_kept numbers lines ls = record { line = numbers.first; lines = lines ++ map bytes_of ls; numbers = numbers.all ++ map number_of ls }

-- the body of a block of which a draft has these lines, and the rest of it is p
unfoldable pub after : List (List ℕ) → Numbers → Bool → List (ℕ × List ℕ) → Option Body
after [] numbers true p = body_of (kept p)
after [] numbers false p = body_of_block p
after (k ∷ ks) numbers true p = Some (with_kept numbers (k ∷ ks) (kept p))
after (k ∷ ks) numbers false p = Some (with_kept numbers (append_last (k ∷ ks) (continuation p)) (kept p))

abbrev pub body_after : Draft → List (ℕ × List ℕ) → Option Body
body_after d p = after d.lines d.numbers d.comment p

unfoldable pub in_blocks : Bool → Draft → List (List (ℕ × List ℕ)) → List RawRecord
in_blocks first d [] = []
in_blocks first d (p ∷ ps) = with_first first (cons_option (body_after d p) (filter_map body_of_block ps))

-- `only` says whether only records count whose closing empty line is there, and only lines whose end is there

abbrev pub cut : {A : Type 0} → Bool → List A → List A
cut only xs = cond only (but_last xs) xs

abbrev pub lines_in : Bool → List ℕ → List (List ℕ)
lines_in only text = cond only (whole_lines text) (lines text)

-- what a draft and the lines after it hold
unfoldable pub pending : Bool → Bool → Draft → List (ℕ × List ℕ) → List RawRecord
pending only first d ls = in_blocks first d (cut only (slice_split is_blank ls))

-- A text that was read up to some place, maybe within a line.
pub record State : Type 0 where
  pub draft : Draft
  pub first : Bool
  pub count : ℕ  -- the lines that came before
  pub inside : Bool  -- whether bytes of the line were taken; what follows them goes in like a continuation
  pub after_return : Bool  -- whether a carriage return was taken that may belong to the line's end

abbrev pub space_of : Bool → List ℕ
space_of inside = cond inside (32 ∷ []) []

abbrev pub return_of : Bool → List ℕ
return_of after_return = cond after_return (13 ∷ []) []

-- what a state still has to give when this text follows
unfoldable pub gives : Bool → State → List ℕ → List RawRecord
gives only s rest = pending only s.first s.draft (enumerate_from (s.count + 1) (lines_in only (space_of s.inside ++ return_of s.after_return ++ rest)))

-- the state after bytes of a line
abbrev pub put : State → List ℕ → State
put s bytes = record { draft = add s.draft (s.count + 1, space_of s.inside ++ bytes); first = s.first; count = s.count; inside = true; after_return = s.after_return }

-- the state once a carriage return that waits belongs to the line
abbrev pub settle : State → State
settle s = if s.after_return then put (record s { after_return = false }) (13 ∷ []) else s

-- the record that is read, as it is
abbrev pub raw_of : State → RawRecord
raw_of s = record { line = s.draft.numbers.first; first = s.first; lines = s.draft.lines; numbers = s.draft.numbers.all }

-- after a record
abbrev pub next_state : ℕ → State
next_state count = record { draft = record { numbers = none_numbered; comment = false; lines = [] }; first = false; count = count; inside = false; after_return = false }

abbrev pub HasNoFeed : List ℕ → Type 0
HasNoFeed xs = All (λ b. (b == 10) ≡ false) xs

abbrev pub ends_with_return : List ℕ → Bool
ends_with_return l = slice_index l (length l - 1) == 13

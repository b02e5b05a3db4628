-- The records of short texts and the folds of some lines, by computation (RFC 2849, notes 2, 5 and 6).
use Rattle.std.specs.Prelude.{◌≡◌, ℕ, Bool, true, false, List, [], ◌∷◌, ◌++◌, map, codes, replicate, refl}
use Rattle.ldif_lines.specs.Records.{RawRecord, number_of, bytes_of, continuation, joined, joined_block, body_of, body_of_block, with_first, records_from, records, but_last, whole_lines, closed_from}
use Rattle.ldif_lines.specs.Folding.{folded, folded_line, folded_to, written_blocks}

-- a record of these lines, each with its number
abbrev raw : ℕ → Bool → List (ℕ × List ℕ) → RawRecord
raw line first lines = record { line = line; first = first; lines = map bytes_of lines; numbers = map number_of lines }

-- a line with its end
abbrev ended : List ℕ → List ℕ
ended line = line ++ 10 ∷ []

-- a line with a carriage return before its end
abbrev returned : List ℕ → List ℕ
returned line = line ++ 13 ∷ 10 ∷ []

-- a text of nothing, and one of empty lines
no_text : records (ended [] ++ returned []) ≡ []
unfolding records_from with_first body_of_block body_of joined_block joined continuation
no_text = refl

-- the last line may lack its end
one_record : records (ended (codes "dn: x") ++ codes "cn: a") ≡ raw 1 true ((1, codes "dn: x") ∷ (2, codes "cn: a") ∷ []) ∷ []
unfolding records_from with_first body_of_block body_of joined_block joined continuation
one_record = refl

-- further empty lines are skipped
two_records : records (returned (codes "dn: x") ++ returned [] ++ returned [] ++ ended (codes "dn: y")) ≡ raw 1 true ((1, codes "dn: x") ∷ []) ∷ raw 4 false ((4, codes "dn: y") ∷ []) ∷ []
unfolding records_from with_first body_of_block body_of joined_block joined continuation
two_records = refl

-- one carriage return goes with a line feed, and no other
inner_return : records (13 ∷ 97 ∷ 13 ∷ 13 ∷ 10 ∷ []) ≡ raw 1 true ((1, 13 ∷ 97 ∷ 13 ∷ []) ∷ []) ∷ []
unfolding records_from with_first body_of_block body_of joined_block joined continuation
inner_return = refl

-- a line of one carriage return isn't empty
only_returns : records (ended (codes "dn: x") ++ returned (13 ∷ []) ++ 13 ∷ []) ≡ raw 1 true ((1, codes "dn: x") ∷ (2, 13 ∷ []) ∷ (3, 13 ∷ []) ∷ []) ∷ []
unfolding records_from with_first body_of_block body_of joined_block joined continuation
only_returns = refl

-- a continuation loses its space and no more
fold : records (ended (codes "cn: a") ++ ended (codes " b") ++ ended (codes "  c")) ≡ raw 1 true ((1, codes "cn: ab c") ∷ []) ∷ []
unfolding records_from with_first body_of_block body_of joined_block joined continuation
fold = refl

-- a line of spaces is a continuation, and ends no record
spaces : records (ended (codes "cn: a") ++ ended (codes " ") ++ ended (codes "  ") ++ ended (codes "sn: b")) ≡ raw 1 true ((1, codes "cn: a ") ∷ (4, codes "sn: b") ∷ []) ∷ []
unfolding records_from with_first body_of_block body_of joined_block joined continuation
spaces = refl

-- a block's first line stays as it is, and is continued
stray : records (ended (codes " x") ++ ended (codes " y") ++ ended (codes "cn: a")) ≡ raw 1 true ((1, codes " xy") ∷ (3, codes "cn: a") ∷ []) ∷ []
unfolding records_from with_first body_of_block body_of joined_block joined continuation
stray = refl

-- a record's number is that of its first line that is kept
comment : records (ended (codes "#c") ++ ended (codes " d") ++ ended (codes "dn: x")) ≡ raw 3 true ((3, codes "dn: x") ∷ []) ∷ []
unfolding records_from with_first body_of_block body_of joined_block joined continuation
comment = refl

-- the continuations of a comment go with it, and not to the line before it
comment_within : records (ended (codes "cn: a") ++ ended (codes "#c") ++ ended (codes " b") ++ ended (codes "sn: d")) ≡ raw 1 true ((1, codes "cn: a") ∷ (4, codes "sn: d") ∷ []) ∷ []
unfolding records_from with_first body_of_block body_of joined_block joined continuation
comment_within = refl

-- a block of comments is no record, and so not the first
comments_alone : records (ended (codes "#c") ++ ended [] ++ ended (codes " x") ++ ended [] ++ ended (codes "#d") ++ ended (codes " y")) ≡ raw 3 true ((3, codes " x") ∷ []) ∷ []
unfolding records_from with_first body_of_block body_of joined_block joined continuation
comments_alone = refl

-- `#` begins a comment at the front of a line alone
inner_hash : records (ended (codes "a#b") ++ ended (codes " #c")) ≡ raw 1 true ((1, codes "a#b#c") ∷ []) ∷ []
unfolding records_from with_first body_of_block body_of joined_block joined continuation
inner_hash = refl

-- each line has the number of the line on which it begins, whatever is folded, left out or ends in a carriage return
numbers : records (returned (codes "#c") ++ returned (codes "dn: x") ++ returned (codes " y") ++ returned (codes "#d") ++ returned (codes " e") ++ returned (codes "cn: a") ++ ended (codes "sn: b"))
    ≡ raw 2 true ((2, codes "dn: xy") ∷ (6, codes "cn: a") ∷ (7, codes "sn: b") ∷ []) ∷ []
unfolding records_from with_first body_of_block body_of joined_block joined continuation
numbers = refl

-- a record is closed by the line feed of the empty line behind it
open_record : closed_from true 1 (ended (codes "dn: x") ++ ended (codes "cn: a")) ≡ []
unfolding closed_from whole_lines but_last with_first body_of_block body_of joined_block joined continuation
open_record = refl

closed_record : closed_from true 1 (ended (codes "dn: x") ++ ended (codes "cn: a") ++ ended []) ≡ raw 1 true ((1, codes "dn: x") ∷ (2, codes "cn: a") ∷ []) ∷ []
unfolding closed_from whole_lines but_last with_first body_of_block body_of joined_block joined continuation
closed_record = refl

-- a carriage return closes none, before its line feed comes
returned_record : closed_from true 1 (returned (codes "dn: x") ++ 13 ∷ []) ≡ []
unfolding closed_from whole_lines but_last with_first body_of_block body_of joined_block joined continuation
returned_record = refl

closed_by_return : closed_from false 7 (returned [] ++ returned (codes "dn: x") ++ returned [] ++ codes "dn: y") ≡ raw 8 false ((8, codes "dn: x") ∷ []) ∷ []
unfolding closed_from whole_lines but_last with_first body_of_block body_of joined_block joined continuation
closed_by_return = refl

-- a line of 76 bytes is not folded
whole : folded 76 (replicate 76 97) ≡ ended (replicate 76 97)
unfolding folded_to
whole = refl

-- 76 bytes, then a space and at most 75
folds : folded 76 (replicate 152 97) ≡ ended (replicate 76 97) ++ ended (32 ∷ replicate 75 97) ++ ended (32 ∷ 97 ∷ [])
unfolding folded_to
folds = refl

-- to other widths: the smallest, and one that the line just fits into
smallest_width : folded_line 2 (codes "abcd") ≡ ended (codes "ab") ++ ended (codes " c") ++ ended (codes " d")
unfolding folded_to
smallest_width = refl

three_bytes : folded_line 3 (codes "abcdefg") ≡ ended (codes "abc") ++ ended (codes " de") ++ ended (codes " fg")
unfolding folded_to
three_bytes = refl

just_fits : folded_line 4 (codes "abcd") ≡ ended (codes "abcd")
unfolding folded_to
just_fits = refl

empty_line : folded 76 [] ≡ ended []
unfolding folded_to
empty_line = refl

written : written_blocks ((codes "dn: x" ∷ codes "cn: a" ∷ []) ∷ (codes "dn: y" ∷ []) ∷ []) ≡ ended (codes "dn: x") ++ ended (codes "cn: a") ++ ended [] ++ ended (codes "dn: y") ++ ended []
unfolding folded_to
written = refl

-- The numbers of the lines of a record.
use Rattle.std.proofs.Common.{ℕ, suc, Bool, true, false, List, [], ◌∷◌, filter, refl, sym, ap, ◌∙◌}
use Rattle.std.specs.List.{slice_split, enumerate_from, filter_map, cons_option, AllByRecursion}
use Rattle.std.specs.Str.Lines.{lines}
use Rattle.std.proofs.lemmas.List.{length-map}
use Rattle.ldif_lines.specs.Records.{Body, IsNumbered, is_blank, is_kept, number_of, bytes_of, joined_block, body_of, body_of_block, with_first, records_from, records}

one_more : (first : Bool) (ls : List (ℕ × List ℕ)) (rest : List Body) → ((b : Bool) → AllByRecursion IsNumbered (with_first b rest)) → AllByRecursion IsNumbered (with_first first (cons_option (body_of ls) rest))
unfolding with_first body_of
one_more first [] rest h = h first
one_more first (l ∷ ls) rest h = (record { each = ap suc (length-map ls number_of ∙ sym (length-map ls bytes_of)); first = refl }, h false)

all_blocks : (blocks : List (List (ℕ × List ℕ))) (first : Bool) → AllByRecursion IsNumbered (with_first first (filter_map body_of_block blocks))
unfolding with_first body_of_block
all_blocks [] first = tt
all_blocks (b ∷ bs) first = one_more first (filter is_kept (joined_block b)) (filter_map body_of_block bs) (all_blocks bs)

pub numbered : (text : List ℕ) → AllByRecursion IsNumbered (records text)
unfolding records_from
numbered text = all_blocks (slice_split is_blank (enumerate_from 1 (lines text))) true

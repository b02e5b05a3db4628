-- Worked examples of what check says of index.txt, by computation.
use Rattle.std.proofs.Common.{◌≡◌, ◌++◌, [], Some, codes, refl}
use Rattle.std.specs.Fmt.{decimal}
use Rattle.stored_index.specs.declared.fault.IndexFaultKind.TheVariants.{Stale}
use Rattle.commands.specs.Checks.{line_of_difference, index_what}

first_line : line_of_difference (codes "ab\nc\n") (codes "aB\nc\n") ≡ 1
unfolding line_of_difference
first_line = refl

third_line : line_of_difference (codes "a\nb\nc\n") (codes "a\nb\nd\n") ≡ 3
unfolding line_of_difference
third_line = refl

-- one text has ended, behind a line and within one
ends_behind : line_of_difference (codes "a\n") (codes "a\nb\n") ≡ 2
unfolding line_of_difference
ends_behind = refl

ends_within : line_of_difference (codes "a\nb") (codes "a\nbc") ≡ 2
unfolding line_of_difference
ends_within = refl

empty : line_of_difference [] (codes "slapindex") ≡ 1
unfolding line_of_difference
empty = refl

stale : index_what (Some Stale) 1 [] ≡ codes "I" ++ (decimal 2 ++ codes " stale")
stale = refl

-- Lists, patterns and comments in small, by computation.
use Rattle.std.specs.Prelude.{◌≡◌, [], ◌∷◌, codes, refl}
use Rattle.commands.specs.Lists.{lines, filled, comment}

-- each end is taken, also that of an empty line; behind the last one there is no line
ended_lines : lines (codes "a\r\n\nb\n") ≡ codes "a" ∷ [] ∷ codes "b" ∷ []
unfolding lines
ended_lines = refl

-- the last one may lack its end, and then keeps its CR; one within a line stays, too
last_line : lines (codes "a\rb\nc\r") ≡ codes "a\rb" ∷ codes "c\r" ∷ []
unfolding lines
last_line = refl

no_line : lines [] ≡ []
unfolding lines
no_line = refl

-- only the first `%s` is filled, as it is
first_mark : filled (codes "a*%s") (codes "(|(cn=%s)(sn=%s))") ≡ codes "(|(cn=a*%s)(sn=%s))"
unfolding filled
first_mark = refl

no_mark : filled (codes "a") (codes "(cn=100%)") ≡ codes "(cn=100%)"
unfolding filled
no_mark = refl

-- no byte of a filter ends the comment
comment_of_ends : comment (codes "(cn=a\nb\r)") ≡ codes "# filter: (cn=a\\0Ab\\0D)\n"
unfolding comment
comment_of_ends = refl

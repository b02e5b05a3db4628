-- Texts and what they spell, worked out by hand.
use Rattle.std.proofs.Common.{◌≡◌, lit<, lit≤, [], ◌∷◌, Some, None, refl, inl, inr}
use Rattle.std.specs.Prelude.{codes}
use Rattle.filter_text.specs.declared.items.Item.TheVariants.{Equality, Present, Substrings, Extensible}
use Rattle.filter_text.specs.Depth.{added}
use Rattle.filter_text.specs.Items.{IsName, IsItem}
use Rattle.filter_text.specs.Spells.{All_of, Not_of, Leaf, No_more, And_then, IsFilter, FilterText}
use Rattle.filter_text.specs.Values.{IsValue}

-- ---- items

letter : IsName (codes "a")
letter = (lit< tt, (refl, tt))

name : IsName (codes "cn")
name = (lit< tt, (refl, (refl, tt)))

value : IsValue (codes "v") (codes "v")
value = ([], inl (refl, refl), refl)

-- an equality with an empty value
empty_value : IsItem (Equality (codes "cn") []) (codes "cn=")
empty_value = ([], refl, name, refl)

-- any byte may be escaped, by digits of either case
escaped_star : IsValue (codes "a*") (codes "a\\2A")
escaped_star = (codes "\\2A", inl (refl, refl), ([], inr (50, 65, 2, 10, refl, refl, refl, refl), refl))

-- stars side by side count as one
two_stars : IsItem (Present (codes "cn")) (codes "cn=**")
two_stars = (codes "*", refl, name, (refl, tt))

between : IsItem (Substrings (codes "cn") (Some (codes "v")) [] (Some (codes "v"))) (codes "cn=v**v")
between = (codes "v**v", refl, name, (codes "v", codes "**v", refl, (lit< tt, value), (codes "*", codes "v", refl, (refl, tt), (lit< tt, value))), tt)

in_the_middle : IsItem (Substrings (codes "cn") None (codes "v" ∷ []) None) (codes "cn=*v*")
in_the_middle = (codes "*v*", refl, name, ([], codes "*v*", refl, refl, ([], codes "v", codes "*", refl, tt, (lit< tt, value), ([], [], refl, tt, refl))), tt)

-- extensible matches: an attribute alone, a word alone, an attribute and two words
attribute_alone : IsItem (Extensible (Some (codes "a")) [] (codes "v")) (codes "a:=v")
attribute_alone = (codes ":=v", refl, letter, lit≤ tt, (codes "v", refl, value))

word_alone : IsItem (Extensible None (codes "a" ∷ []) (codes "v")) (codes ":a:=v")
word_alone = (lit< tt, lit≤ tt, (codes ":=v", refl, letter, (codes "v", refl, value)))

two_words : IsItem (Extensible (Some (codes "a")) (codes "a" ∷ codes "a" ∷ []) (codes "v")) (codes "a:a:a:=v")
two_words = (codes ":a:a:=v", refl, letter, lit≤ tt, (codes ":a:=v", refl, letter, (codes ":=v", refl, letter, (codes "v", refl, value))))

-- ---- filters

a_is_v : IsItem (Equality (codes "a") (codes "v")) (codes "a=v")
a_is_v = (codes "v", refl, letter, value)

wrapped : IsFilter (Leaf (Equality (codes "a") (codes "v"))) (codes "(a=v)")
wrapped = (codes "a=v", refl, a_is_v)

-- spaces round the whole
spaces_round : FilterText (Leaf (Equality (codes "a") (codes "v"))) (codes " (a=v) ")
spaces_round = inl (codes " ", codes "(a=v)", codes " ", refl, (refl, tt), wrapped, (refl, tt))

-- without parentheses spaces at the end belong to the value
space_of_the_value : FilterText (Leaf (Equality (codes "a") (codes "v "))) (codes " a=v ")
space_of_the_value = inr (codes " ", codes "a=v ", refl, (refl, tt), (codes "v ", refl, letter, (codes " ", inl (refl, refl), ([], inl (refl, refl), refl))))

-- spaces behind an operator and behind a filter
spaces_within : IsFilter (Not_of (Leaf (Equality (codes "a") (codes "v")))) (codes "(! (a=v) )")
spaces_within = (codes "! (a=v) ", refl, (codes " ", codes "(a=v)", codes " ", refl, (refl, tt), wrapped, (refl, tt)))

none_of_all : IsFilter (All_of No_more) (codes "(&)")
none_of_all = (codes "&", refl, ([], refl, ([], [], refl, tt, refl)))

one_of_all : IsFilter (All_of (And_then (Leaf (Equality (codes "a") (codes "v"))) No_more)) (codes "(& (a=v) )")
one_of_all = (codes "& (a=v) ", refl, (codes " (a=v) ", refl, (codes " ", codes "(a=v) ", refl, (refl, tt), (codes "(a=v)", codes " ", refl, wrapped, (codes " ", [], refl, (refl, tt), refl)))))

-- ---- the parenthesis that is added

none_is_added_to_spaces : added (codes "  ") ≡ 0
none_is_added_to_spaces = refl

one_is_added : added (codes " cn") ≡ 1
one_is_added = refl

none_is_added : added (codes " (") ≡ 0
none_is_added = refl

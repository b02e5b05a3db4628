-- Lists of names in a definition (RFC 4512, 4.1).
use Rattle.std.specs.Prelude.{ℕ, Bool, if◌then◌else◌, List, [], ◌∷◌, Option, Some, None}
use Rattle.base.specs.Ascii.{dollar_sign, left_parenthesis, right_parenthesis}
use Rattle.definitions.specs.Words.{◌>>>◌, Cut, sign_at, word_at, quoted_at, plain_or_named_at}

abbrev pub Cuts : Type 0
Cuts = List (List ℕ) × List ℕ

abbrev pub onto : List ℕ → Cuts → Option Cuts
onto text rest = Some (text ∷ rest.0, rest.1)

abbrev pub closed_by : Option (List ℕ) → Option Cuts → Option Cuts
closed_by None others = others
closed_by (Some rest) others = Some ([], rest)

-- parts up to `)`; each takes at least one of the bytes that come
unfoldable pub to_close : (List ℕ → Option Cut) → List ℕ → List ℕ → Option Cuts
to_close part_at [] text = None
to_close part_at (b ∷ bytes) text = closed_by (sign_at right_parenthesis text) (part_at text >>> λ part. (to_close part_at bytes part.1 >>> onto part.0))

abbrev pub not_none : Cuts → Option Cuts
not_none ([], rest) = None
not_none (text ∷ texts, rest) = Some (text ∷ texts, rest)

abbrev pub alone : Cut → Option Cuts
alone part = Some (part.0 ∷ [], part.1)

abbrev pub in_parentheses : Option (List ℕ) → Option Cuts → Option Cuts
in_parentheses None single = single
in_parentheses (Some inside) single = to_close quoted_at inside inside >>> not_none

-- `'a'`, or `( 'a' 'b' )`: one text in quotes, or some in parentheses
unfoldable pub quoted_texts_at : List ℕ → Option Cuts
quoted_texts_at text = in_parentheses (sign_at left_parenthesis text) (quoted_at text >>> alone)

-- ---- lists with `$` between

-- a word; or in quotes, where it may stand so, a name or an OID
abbrev pub name_at : Bool → List ℕ → Option Cut
name_at quotes text = if quotes then plain_or_named_at text else word_at text

-- `$` and a name
abbrev pub next_name_at : Bool → List ℕ → Option Cut
next_name_at quotes text = sign_at dollar_sign text >>> name_at quotes

-- names with `$` between, up to `)`
unfoldable pub names_to_close : Bool → List ℕ → Option Cuts
names_to_close quotes text = name_at quotes text >>> λ part. (to_close (next_name_at quotes) part.1 part.1 >>> onto part.0)

abbrev pub list_in_parentheses : Bool → Option (List ℕ) → Option Cuts → Option Cuts
list_in_parentheses quotes None single = single
list_in_parentheses quotes (Some inside) single = names_to_close quotes inside

-- `a`, or `( a $ b )`
unfoldable pub names_at : Bool → List ℕ → Option Cuts
names_at quotes text = list_in_parentheses quotes (sign_at left_parenthesis text) (name_at quotes text >>> alone)

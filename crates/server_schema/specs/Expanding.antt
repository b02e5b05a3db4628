-- Where macros stand in a definition: as its own OID, the first word behind the parenthesis, and as that of its syntax (slapd.conf(5), attributetype).
use Rattle.std.specs.Prelude.{ℕ, Bool, true, false, ◌||◌, ◌==◌, if◌then◌else◌, List, [], ◌∷◌, ◌++◌, take, drop, length, position, unwrap_or, codes}
use Rattle.std.specs.Str.{str_eq_ignore_ascii_case}
use Rattle.base.specs.Ascii.{tab, space, apostrophe, left_parenthesis, right_parenthesis, dollar_sign, left_brace}
use Rattle.server_schema.specs.Macros.{oid_for}
use Rattle.server_schema.specs.declared.macros.Macro.{Macro}
use Rattle.server_schema.specs.declared.expanding.Due.{Due}
use Rattle.server_schema.specs.declared.expanding.Due.TheVariants.{Opening, Oid, Other, Syntax, QuotedSyntax, Text}

-- ---- what is due

-- blanks, and the signs of a definition
abbrev pub ends_word : ℕ → Bool
ends_word b = b == space || (b == tab || (b == apostrophe || (b == left_parenthesis || (b == right_parenthesis || b == dollar_sign))))

abbrev pub is_due : Due → Bool
is_due Oid = true
is_due Syntax = true
is_due QuotedSyntax = true
is_due Opening = false
is_due Other = false
is_due Text = false

-- behind a word, which may be empty
abbrev pub behind_word : Due → List ℕ → Due
behind_word due [] = due
behind_word Oid (b ∷ bs) = Other
behind_word Syntax (b ∷ bs) = Other
behind_word Other (b ∷ bs) = if str_eq_ignore_ascii_case (b ∷ bs) (codes "SYNTAX") then Syntax else Other
behind_word Opening (b ∷ bs) = Opening
behind_word QuotedSyntax (b ∷ bs) = QuotedSyntax
behind_word Text (b ∷ bs) = Text

abbrev pub behind_quote : Due → Due
behind_quote Text = Other
behind_quote QuotedSyntax = Other
behind_quote Syntax = QuotedSyntax
behind_quote Opening = Opening
behind_quote Oid = Text
behind_quote Other = Text

abbrev pub behind_opening : Due → Due
behind_opening Opening = Oid
behind_opening Oid = Oid
behind_opening Other = Other
behind_opening Syntax = Syntax
behind_opening QuotedSyntax = QuotedSyntax
behind_opening Text = Text

abbrev pub behind_sign : Due → ℕ → Due
behind_sign due sign = if sign == apostrophe then behind_quote due else (if sign == left_parenthesis then behind_opening due else due)

-- ---- words

abbrev pub is_left_brace : ℕ → Bool
is_left_brace b = b == left_brace

-- a syntax may have a length behind it, `{64}`
abbrev pub length_start : List ℕ → ℕ
length_start word = unwrap_or (position is_left_brace word) (length word)

abbrev pub oid_and_length : List Macro → List ℕ → List ℕ
oid_and_length macros word = oid_for macros (take (length_start word) word) ++ drop (length_start word) word

abbrev pub put_word : List Macro → Due → List ℕ → List ℕ
put_word macros due [] = []
put_word macros due (b ∷ bs) = if is_due due then oid_and_length macros (b ∷ bs) else b ∷ bs

-- ---- the whole

-- what is due, the word as far as it was read, and what stands behind that
unfoldable pub expanded_from : List Macro → Due → List ℕ → List ℕ → List ℕ
expanded_from macros due word [] = put_word macros due word
expanded_from macros due word (b ∷ bs) =
    if ends_word b then put_word macros due word ++ b ∷ expanded_from macros (behind_sign (behind_word due word) b) [] bs
    else expanded_from macros due (word ++ b ∷ []) bs

abbrev pub expanded : List Macro → List ℕ → List ℕ
expanded macros text = expanded_from macros Opening [] text

-- Words, signs and quoted texts of a definition (RFC 4512, 4.1).
use Rattle.std.specs.Prelude.{ℕ, ◌+◌, Bool, not, ◌||◌, ◌==◌, nat_lt, if◌then◌else◌, List, take, drop, length, position, unwrap_or, Option, Some, None}
use Rattle.base.specs.Ascii.{tab, space, dollar_sign, apostrophe, left_parenthesis, right_parenthesis}
use Rattle.base.specs.Ends.{begins_with}
use Rattle.base.specs.Naming.{is_name_or_oid}

infixl 10 ◌>>>◌
abbrev pub ◌>>>◌ : {A B : Type 0} → Option A → (A → Option B) → Option B
(Some x) >>> f = f x
None >>> f = None

-- a part of a text, and what follows it
abbrev pub Cut : Type 0
Cut = List ℕ × List ℕ

abbrev pub is_blank : ℕ → Bool
is_blank b = b == space || b == tab

abbrev pub is_no_blank : ℕ → Bool
is_no_blank b = not (is_blank b)

-- the place of the first byte that passes, or the end
abbrev pub end_of : (ℕ → Bool) → List ℕ → ℕ
end_of p text = unwrap_or (position p text) (length text)

-- without the spaces and tabs at the front
abbrev pub skip : List ℕ → List ℕ
skip text = drop (end_of is_no_blank text) text

-- a line's first word: up to the first space or tab
abbrev pub first_word : List ℕ → List ℕ
first_word line = take (end_of is_blank line) line

abbrev pub after_word : List ℕ → List ℕ
after_word line = drop (end_of is_blank line) line

-- space, tab, `'`, `(`, `)` and `$`
abbrev pub ends_word : ℕ → Bool
ends_word b = is_blank b || b == apostrophe || b == left_parenthesis || b == right_parenthesis || b == dollar_sign

abbrev pub cut_word : ℕ → List ℕ → Option Cut
cut_word n text = if n == 0 then None else Some (take n text, drop n text)

-- a word and what follows it
unfoldable pub word_at : List ℕ → Option Cut
word_at text = cut_word (end_of ends_word (skip text)) (skip text)

-- what follows this sign
unfoldable pub sign_at : ℕ → List ℕ → Option (List ℕ)
sign_at sign text = if begins_with sign (skip text) then Some (drop 1 (skip text)) else None

abbrev pub is_quote : ℕ → Bool
is_quote b = b == apostrophe

abbrev pub cut_quoted : ℕ → List ℕ → Option Cut
cut_quoted n text = if nat_lt n (length text) then Some (take n text, drop (n + 1) text) else None

-- a text between two quotes, and what follows it
unfoldable pub quoted_at : List ℕ → Option Cut
quoted_at text = sign_at apostrophe text >>> λ inside. cut_quoted (end_of is_quote inside) inside

-- a word, or a text in quotes
unfoldable pub plain_or_quoted_at : List ℕ → Option Cut
plain_or_quoted_at text = if begins_with apostrophe (skip text) then quoted_at text else word_at text

abbrev pub named : Cut → Option Cut
named part = if is_name_or_oid part.0 then Some part else None

-- a word; or in quotes, a name or an OID
unfoldable pub plain_or_named_at : List ℕ → Option Cut
plain_or_named_at text = if begins_with apostrophe (skip text) then (quoted_at text >>> named) else word_at text

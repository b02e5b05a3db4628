-- The tokens of a definition (RFC 4512, 4.1), and the texts that are made of them. Spaces and tabs may stand round each.
use Rattle.std.specs.Prelude.{◌≡◌, ℕ, Bool, true, not, ◌||◌, ◌==◌, ◌<◌, List, [], ◌∷◌, ◌++◌, length}
use Rattle.std.specs.List.{list_all}
use Rattle.base.specs.Ascii.{tab, space, dollar_sign, apostrophe, left_parenthesis, right_parenthesis}

pub data Token : Type 0 where
  -- `(`, `)` and `$`
  Opening : Token
  Closing : Token
  Dollar : Token
  -- a text between two quotes
  Quoted : (text : List ℕ) → Token
  -- what stands bare
  Word : (text : List ℕ) → Token

abbrev pub written : Token → List ℕ
written Opening = left_parenthesis ∷ []
written Closing = right_parenthesis ∷ []
written Dollar = dollar_sign ∷ []
written (Quoted text) = apostrophe ∷ (text ++ apostrophe ∷ [])
written (Word text) = text

-- a space or a tab
abbrev pub is_blank : ℕ → Bool
is_blank b = b == space || b == tab

-- no quote
abbrev pub is_in_quotes : ℕ → Bool
is_in_quotes b = not (b == apostrophe)

-- no space, tab, quote, parenthesis or `$`
abbrev pub is_in_word : ℕ → Bool
is_in_word b = not (b == space || b == tab || b == apostrophe || b == left_parenthesis || b == right_parenthesis || b == dollar_sign)

-- no byte of a word comes next
abbrev pub ends_here : List ℕ → Bool
ends_here [] = true
ends_here (b ∷ bs) = not (is_in_word b)

-- whether a token may stand before what follows it: a word takes each byte of a word that comes
abbrev pub CanStand : Token → List ℕ → Type 0
CanStand Opening rest = Unit {0}
CanStand Closing rest = Unit {0}
CanStand Dollar rest = Unit {0}
CanStand (Quoted text) rest = list_all is_in_quotes text ≡ true
CanStand (Word text) rest = (0 < length text) × (list_all is_in_word text ≡ true) × (ends_here rest ≡ true)

-- blanks, perhaps none, then a token, and the rest
pub record Begins (text : List ℕ) (token : Token) (rest : List ℕ) : Type 0 where
  pub blanks : List ℕ
  pub are_blanks : list_all is_blank blanks ≡ true
  pub text_is : text ≡ blanks ++ (written token ++ rest)
  pub stands : CanStand token rest

-- a text is these tokens, with blanks alone behind them
abbrev pub AreTokens : List Token → List ℕ → Type 0
AreTokens [] text = list_all is_blank text ≡ true
AreTokens (token ∷ tokens) text = (rest : List ℕ) × Begins text token rest × AreTokens tokens rest

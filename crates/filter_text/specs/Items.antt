-- Which text spells which item (RFC 4515, section 3: item).
use Rattle.std.specs.Prelude.{◌≡◌, ℕ, ◌<◌, ◌≤◌, List, [], ◌∷◌, ◌++◌, length, Option, Some, None}
use Rattle.base.specs.Ascii.{colon, equals_sign, greater_than_sign, less_than_sign, asterisk}
use Rattle.filter_text.specs.declared.items.Item.{Item}
use Rattle.filter_text.specs.declared.items.Item.TheVariants.{Equality, Approx, GreaterOrEqual, LessOrEqual, Present, Substrings, Extensible}
use Rattle.filter_text.specs.Runs.{Run, is_name_byte, is_star, tilde}
use Rattle.filter_text.specs.Values.{IsValue}

-- letters, digits, `-`, `.`, `;` and `_`, not empty
abbrev pub IsName : List ℕ → Type 0
IsName name = (0 < length name) × Run is_name_byte name

-- an attribute, the sign of the comparison, and the value
abbrev pub IsSimple : List ℕ → List ℕ → List ℕ → List ℕ → Type 0
IsSimple sign attribute value text = (rest : List ℕ) × (text ≡ attribute ++ (sign ++ rest)) × IsName attribute × IsValue value rest

-- a piece that isn't empty, or none
abbrev pub IsPiece : Option (List ℕ) → List ℕ → Type 0
IsPiece None text = text ≡ []
IsPiece (Some value) text = (0 < length value) × IsValue value text

-- stars, as many as there are, and a piece, and so on; stars, and the last piece
abbrev pub IsAnyAndLast : List (List ℕ) → Option (List ℕ) → List ℕ → Type 0
IsAnyAndLast [] last text = (s : List ℕ) × (a : List ℕ) × (text ≡ asterisk ∷ (s ++ a)) × Run is_star s × IsPiece last a
IsAnyAndLast (value ∷ any) last text = (s : List ℕ) × (a : List ℕ) × (rest : List ℕ) × (text ≡ asterisk ∷ (s ++ (a ++ rest)))
    × Run is_star s × IsPiece (Some value) a × IsAnyAndLast any last rest

abbrev pub IsSubstrings : Option (List ℕ) → List (List ℕ) → Option (List ℕ) → List ℕ → Type 0
IsSubstrings initial any last text = (a : List ℕ) × (rest : List ℕ) × (text ≡ a ++ rest) × IsPiece initial a × IsAnyAndLast any last rest

-- there is a piece
abbrev pub SomePiece : Option (List ℕ) → List (List ℕ) → Option (List ℕ) → Type 0
SomePiece None [] None = ⊥
SomePiece initial any last = Unit {0}

-- each word behind a colon, then `:=` and the value
abbrev pub IsWords : List (List ℕ) → List ℕ → List ℕ → Type 0
IsWords [] value text = (rest : List ℕ) × (text ≡ colon ∷ equals_sign ∷ rest) × IsValue value rest
IsWords (word ∷ words) value text = (rest : List ℕ) × (text ≡ colon ∷ (word ++ rest)) × IsName word × IsWords words value rest

abbrev pub IsItem : Item → List ℕ → Type 0
IsItem (Equality attribute value) text = IsSimple (equals_sign ∷ []) attribute value text
IsItem (Approx attribute value) text = IsSimple (tilde ∷ equals_sign ∷ []) attribute value text
IsItem (GreaterOrEqual attribute value) text = IsSimple (greater_than_sign ∷ equals_sign ∷ []) attribute value text
IsItem (LessOrEqual attribute value) text = IsSimple (less_than_sign ∷ equals_sign ∷ []) attribute value text
IsItem (Present attribute) text = (s : List ℕ) × (text ≡ attribute ++ (equals_sign ∷ asterisk ∷ s)) × IsName attribute × Run is_star s
IsItem (Substrings attribute initial any last) text = (rest : List ℕ) × (text ≡ attribute ++ (equals_sign ∷ rest)) × IsName attribute
    × IsSubstrings initial any last rest × SomePiece initial any last
IsItem (Extensible None words value) text = (0 < length words) × (length words ≤ 2) × IsWords words value text
IsItem (Extensible (Some attribute) words value) text = (rest : List ℕ) × (text ≡ attribute ++ rest) × IsName attribute × (length words ≤ 2)
    × IsWords words value rest

abbrev pub SomeItem : List ℕ → Type 0
SomeItem text = (item : Item) × IsItem item text

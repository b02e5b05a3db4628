-- Items by what the reader sees first: the pieces behind `=`, the sign of a comparison, or words behind colons.
use Rattle.std.specs.Prelude.{◌≡◌, ℕ, ◌<◌, ◌≤◌, ◌+◌, ◌==◌, Bool, true, if◌then◌else◌, List, [], ◌∷◌, ◌++◌, length, Option, Some, None}
use Rattle.filter_text.specs.declared.comparison.Comparison.{Comparison}
use Rattle.filter_text.specs.declared.comparison.Comparison.TheVariants as by
use Rattle.filter_text.specs.declared.items.Item.{Item}
use Rattle.filter_text.specs.declared.items.Item.TheVariants.{Equality, Approx, GreaterOrEqual, LessOrEqual, Present, Substrings, Extensible}
use Rattle.filter_text.specs.Runs.{Run, is_name_byte}
use Rattle.filter_text.specs.Values.{IsValue}
use Rattle.filter_text.specs.Items.{IsName, IsWords}
use Rattle.filter_text.specs.inner.Pieces.{IsPieces}

-- a piece, unless it is empty
abbrev pub unless_empty : List ℕ → Option (List ℕ)
unless_empty [] = None
unless_empty (b ∷ piece) = Some (b ∷ piece)

-- a piece, which is empty where there is none
abbrev pub or_empty : Option (List ℕ) → List ℕ
or_empty None = []
or_empty (Some piece) = piece

-- a presence where all pieces are empty
abbrev pub of_many : List ℕ → List ℕ → List (List ℕ) → List ℕ → Item
of_many attribute [] [] [] = Present attribute
of_many attribute first any last = Substrings attribute (unless_empty first) any (unless_empty last)

-- all but the last, and the last
abbrev pub ends : List ℕ → List (List ℕ) → List (List ℕ) × List ℕ
ends piece [] = ([], piece)
ends piece (next ∷ pieces) = (piece ∷ (ends next pieces).0, (ends next pieces).1)

-- what an attribute and the pieces behind `=` come to
abbrev pub of_pieces : List ℕ → List (List ℕ) → Item
of_pieces attribute [] = Present attribute
of_pieces attribute (first ∷ []) = Equality attribute first
of_pieces attribute (first ∷ next ∷ pieces) = of_many attribute first (ends next pieces).0 (ends next pieces).1

abbrev pub compared : Comparison → List ℕ → List ℕ → Item
compared by.Approx attribute value = Approx attribute value
compared by.Greater attribute value = GreaterOrEqual attribute value
compared by.Less attribute value = LessOrEqual attribute value

pub data Shape : Type 0 where
  Same : (name : List ℕ) (pieces : List (List ℕ)) → Shape
  Order : (sort : Comparison) (name value : List ℕ) → Shape
  Rule : (name : List ℕ) (words : List (List ℕ)) (value : List ℕ) → Shape

abbrev pub item_of : Shape → Item
item_of (Same name pieces) = of_pieces name pieces
item_of (Order sort name value) = compared sort name value
item_of (Rule name words value) = Extensible (unless_empty name) words value

abbrev pub shape : Item → Shape
shape (Equality name value) = Same name (value ∷ [])
shape (Approx name value) = Order by.Approx name value
shape (GreaterOrEqual name value) = Order by.Greater name value
shape (LessOrEqual name value) = Order by.Less name value
shape (Present name) = Same name ([] ∷ [] ∷ [])
shape (Substrings name initial any last) = Same name (or_empty initial ∷ (any ++ or_empty last ∷ []))
shape (Extensible name words value) = Rule (or_empty name) words value

abbrev pub sign : Comparison → ℕ
sign by.Approx = 126
sign by.Greater = 62
sign by.Less = 60

abbrev pub is_sign : ℕ → Bool
is_sign b = if b == 126 then true else (if b == 62 then true else b == 60)

-- a name or none, none to two words, with a name or a word
abbrev pub IsRule : List ℕ → List (List ℕ) → Type 0
IsRule name words = Run is_name_byte name × (0 < length name + length words) × (length words ≤ 2)

abbrev pub IsShape : Shape → List ℕ → Type 0
IsShape (Same name pieces) text = (rest : List ℕ) × (text ≡ name ++ 61 ∷ rest) × IsName name × IsPieces pieces rest
IsShape (Order sort name value) text = (rest : List ℕ) × (text ≡ name ++ (sign sort ∷ 61 ∷ rest)) × IsName name × IsValue value rest
IsShape (Rule name words value) text = (rest : List ℕ) × (text ≡ name ++ rest) × IsRule name words × IsWords words value rest

-- enough words, and at most two
abbrev pub IsAmount : ℕ → List (List ℕ) → Type 0
IsAmount least words = (least ≤ length words) × (length words ≤ 2)

abbrev pub SomeWords : ℕ → List ℕ → Type 0
SomeWords least text = (words : List (List ℕ)) × (value : List ℕ) × IsWords words value text × IsAmount least words

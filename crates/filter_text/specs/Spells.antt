-- Which text spells which filter (RFC 4515, section 3; RFC 4526 for lists of none). Spaces may stand after `&`, `|`, `!` and after a filter.
use Rattle.std.specs.Prelude.{◌≡◌, ℕ, List, [], ◌∷◌, ◌++◌, map, ◌⊎◌}
use Rattle.base.specs.Ascii.{left_parenthesis, right_parenthesis}
use Rattle.base.specs.Ends.{is_space}
use Rattle.filter_text.specs.declared.filters.Filter.{Filter}
use Rattle.filter_text.specs.declared.filters.Filter.TheOpen.{Filter-F, And, Or, Not, Item}
use Rattle.filter_text.specs.declared.filters.Filter.TheFolds.{fold-Filter}
use Rattle.filter_text.specs.declared.items.Item as items
use Rattle.filter_text.specs.Items.{IsItem}
use Rattle.filter_text.specs.Runs.{Run, ampersand, vertical_line, exclamation_mark}

-- a filter without where it lies in memory
mutual
  pub data FilterContent : Type 0 where
    All_of : (operands : FilterContents) → FilterContent
    Any_of : (operands : FilterContents) → FilterContent
    Not_of : (operand : FilterContent) → FilterContent
    Leaf : (item : items.Item) → FilterContent

  pub data FilterContents : Type 0 where
    No_more : FilterContents
    And_then : (first : FilterContent) (rest : FilterContents) → FilterContents

-- the filters of a list, and then these
abbrev pub contents_then : List FilterContent → FilterContents → FilterContents
contents_then [] us = us
contents_then (t ∷ ts) us = And_then t (contents_then ts us)

abbrev pub view_step : Filter-F FilterContent → FilterContent
view_step (And fs) = All_of (contents_then fs.items No_more)
view_step (Or fs) = Any_of (contents_then fs.items No_more)
view_step (Not f) = Not_of f.value
view_step (Item item) = Leaf item

abbrev pub view : Filter → FilterContent
view = fold-Filter FilterContent view_step

abbrev pub views : List Filter → FilterContents
views fs = contents_then (map view fs) No_more

-- a text between parentheses
abbrev pub Wrapped : (List ℕ → Type 0) → List ℕ → Type 0
Wrapped P text = (inside : List ℕ) × (text ≡ left_parenthesis ∷ (inside ++ right_parenthesis ∷ [])) × P inside

-- spaces, and then
abbrev pub Spaced : (List ℕ → Type 0) → List ℕ → Type 0
Spaced P text = (s : List ℕ) × (rest : List ℕ) × (text ≡ s ++ rest) × Run is_space s × P rest

abbrev mutual
  -- what stands between the parentheses of a filter (filtercomp)
  pub IsFilterComp : FilterContent → List ℕ → Type 0
  IsFilterComp (All_of operands) text = (list : List ℕ) × (text ≡ ampersand ∷ list) × Spaced (IsFilterList operands) list
  IsFilterComp (Any_of operands) text = (list : List ℕ) × (text ≡ vertical_line ∷ list) × Spaced (IsFilterList operands) list
  IsFilterComp (Not_of operand) text = (s : List ℕ) × (a : List ℕ) × (z : List ℕ) × (text ≡ exclamation_mark ∷ (s ++ (a ++ z))) × Run is_space s
      × Wrapped (IsFilterComp operand) a × Run is_space z
  IsFilterComp (Leaf item) text = IsItem item text

  -- filters, each with the spaces after it (filterlist)
  pub IsFilterList : FilterContents → List ℕ → Type 0
  IsFilterList No_more text = text ≡ []
  IsFilterList (And_then first rest) text = (a : List ℕ) × (b : List ℕ) × (text ≡ a ++ b) × Wrapped (IsFilterComp first) a × Spaced (IsFilterList rest) b

abbrev pub IsFilter : FilterContent → List ℕ → Type 0
IsFilter f text = Wrapped (IsFilterComp f) text

abbrev pub IsSpacedList : FilterContents → List ℕ → Type 0
IsSpacedList fs text = Spaced (IsFilterList fs) text

abbrev pub SomeFilter : List ℕ → Type 0
SomeFilter text = (f : FilterContent) × IsFilter f text

abbrev pub SomeFilterComp : List ℕ → Type 0
SomeFilterComp text = (f : FilterContent) × IsFilterComp f text

abbrev pub SomeSpacedList : List ℕ → Type 0
SomeSpacedList text = (fs : FilterContents) × IsSpacedList fs text

-- a whole text: spaces round a filter, or spaces and what stands between parentheses
abbrev pub FilterText : FilterContent → List ℕ → Type 0
FilterText f text = ((s : List ℕ) × (a : List ℕ) × (z : List ℕ) × (text ≡ s ++ (a ++ z)) × Run is_space s × IsFilter f a × Run is_space z)
    ⊎ ((s : List ℕ) × (a : List ℕ) × (text ≡ s ++ a) × Run is_space s × IsFilterComp f a)

abbrev pub SomeText : List ℕ → Type 0
SomeText text = (f : FilterContent) × FilterText f text

-- no text has two readings
abbrev pub OneReading : Type 0
OneReading = (f g : FilterContent) (text : List ℕ) → FilterText f text → FilterText g text → f ≡ g

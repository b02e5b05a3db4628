-- The two sides of a bracket: whether a filter may be True of an entry, and whether it may be False, by the keys under which the entry's
-- number stands. What is known of an item follows from what it asks for, and of a filter from its operands, by the truths of RFC 4511, 4.5.1.7.
use Rattle.std.specs.Prelude.{ℕ, Bool, true, false, not, List, [], ◌∷◌, Option, Some, None}
use Rattle.std.specs.List.{list_any, list_all, flat_map}
use Rattle.std.specs.FinSet.{contains}
use Rattle.schema.specs.declared.slots.IndexKind.{IndexKind}
use Rattle.schema.specs.declared.slots.IndexKind.TheVariants as kinds
use Rattle.filter.specs.declared.assertion.Assertion.{Assertion}
use Rattle.filter.specs.declared.assertion.Assertion.TheVariants.{Equality, GreaterOrEqual, LessOrEqual, Present, Substrings}
use Rattle.filter.specs.declared.prepared_item.PreparedItem.{PreparedItem}
use Rattle.filter.specs.declared.prepared_item.PreparedItem.TheVariants.{Undefined, Asserts}
use Rattle.filter.specs.Prepared.{PreparedContent, PreparedContents, All_of, Any_of, Not_of, Leaf, No_more, And_then}
use Rattle.index_keys.specs.EntryKeys.{windows}
use Rattle.index_text.specs.Postings.{Shown}

-- whether it may be True, and whether it may be False
pub record Sides : Type 0 where
  pub may : Bool
  pub may_not : Bool

-- ---- items

-- nothing is known
abbrev pub unknown : Sides
unknown = record { may = true; may_not = true }

-- neither True nor False
abbrev pub neither : Sides
neither = record { may = false; may_not = false }

-- True where the test passes, and else False
abbrev pub exactly : Bool → Sides
exactly b = record { may = b; may_not = not b }

-- True at most where the test passes; it may be False there too
abbrev pub at_most : Bool → Sides
at_most b = record { may = b; may_not = true }

-- what the slot says, where there is one
abbrev pub if_indexed : Option ℕ → (ℕ → Sides) → Sides
if_indexed None by = unknown
if_indexed (Some slot) by = by slot

module _ (shown : Shown) (n : ℕ) where
  -- whether the number is one of those under a key
  abbrev pub is_member : ℕ → List ℕ → Bool
  is_member slot key = contains (shown.members slot key) n

  -- whether it is one of those under each window of a piece
  abbrev pub has_piece : ℕ → List ℕ → Bool
  has_piece slot piece = list_all (is_member slot) (windows piece)

  -- whether it is one of those under each window of the pieces
  abbrev pub has_windows : ℕ → List (List ℕ) → Bool
  has_windows slot pieces = list_all (is_member slot) (flat_map windows pieces)

  -- what the slot says of an item that is True of exactly the members of a key
  abbrev pub key_sides : ℕ → IndexKind → List ℕ → Sides
  key_sides t kind key = if_indexed (shown.slot_of t kind) (λ slot. exactly (is_member slot key))

  -- the same of an item that is True only where there is a value
  abbrev pub value_sides : ℕ → Sides
  value_sides t = if_indexed (shown.slot_of t kinds.Presence) (λ slot. at_most (is_member slot []))

  -- the same of an item that is True only of a value that has the pieces
  abbrev pub pieces_sides : ℕ → List (List ℕ) → Sides
  pieces_sides t pieces = if_indexed (shown.slot_of t kinds.Substrings) (λ slot. at_most (has_windows slot pieces))

  -- What an assertion about a type asks for, by a slot of that very type. Equality and presence have keys of their own. A value in an order is a
  -- value that is present, and one that pieces fit has their windows.
  abbrev pub assertion_sides : ℕ → Assertion → Sides
  assertion_sides t (Equality value) = key_sides t kinds.Equality value
  assertion_sides t Present = key_sides t kinds.Presence []
  assertion_sides t (GreaterOrEqual family value) = value_sides t
  assertion_sides t (LessOrEqual family value) = value_sides t
  assertion_sides t (Substrings pieces) = pieces_sides t pieces.pieces

  abbrev pub item_sides : PreparedItem → Sides
  item_sides Undefined = neither
  item_sides (Asserts t types assertion) = assertion_sides t assertion

-- ---- filters

-- an And is True where all operands are, and False where one is
abbrev pub all_sides : List Sides → Sides
all_sides each = record { may = list_all (λ s. s.may) each; may_not = list_any (λ s. s.may_not) each }

-- an Or is True where one operand is, and False where all are
abbrev pub any_sides : List Sides → Sides
any_sides each = record { may = list_any (λ s. s.may) each; may_not = list_all (λ s. s.may_not) each }

abbrev pub swapped : Sides → Sides
swapped s = record { may = s.may_not; may_not = s.may }

-- of a filter whose items are prepared
abbrev mutual
  pub sides : Shown → ℕ → PreparedContent → Sides
  sides shown n (All_of operands) = all_sides (sides_each shown n operands)
  sides shown n (Any_of operands) = any_sides (sides_each shown n operands)
  sides shown n (Not_of operand) = swapped (sides shown n operand)
  sides shown n (Leaf item) = item_sides shown n item

  pub sides_each : Shown → ℕ → PreparedContents → List Sides
  sides_each shown n No_more = []
  sides_each shown n (And_then first rest) = sides shown n first ∷ sides_each shown n rest

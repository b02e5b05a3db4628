-- Worked examples, by computation: what postings say of the entry with a number, whichever numbers they have under their keys.
use Rattle.std.proofs.Common.{◌≡◌, ℕ, Bool, true, false, not, ◌&&◌, ◌||◌, List, [], ◌∷◌, refl}
use Rattle.std.specs.Prelude.{⊤, Option, Some, None, codes}
use Rattle.std.specs.Str.{is_utf8, chars}
use Rattle.std.specs.FinSet.{contains}
use lib.Utf8.{encode}
use Rattle.matching.specs.declared.family.Family.{Family}
use Rattle.matching.specs.declared.family.Family.TheVariants as families
use Rattle.matching.specs.declared.syntax.Syntax.{Syntax}
use Rattle.matching.specs.declared.syntax.Syntax.TheVariants as syntaxes
use Rattle.matching.specs.Forms.{norm}
use Rattle.matching.specs.Substrings.{piece_norm}
use Rattle.matching.specs.Syntaxes.{is_valid}
use Rattle.values.specs.declared.types.AttributeType.{AttributeType}
use Rattle.values.specs.declared.types.TypeSyntax.TheVariants as type_syntaxes
use Rattle.values.specs.declared.types.EqualityRule.TheVariants as rules
use Rattle.values.specs.Types.{type_of}
use Rattle.schema.specs.declared.slots.IndexKind.TheVariants as kinds
use Rattle.schema.specs.declared.slots.Slot.{Slot}
use Rattle.schema.specs.TypeRules.{object_class}
use Rattle.schema.specs.Values.{is_valid_at, norm_at}
use Rattle.filter_text.specs.declared.items.Item.TheVariants.{Equality, Approx, GreaterOrEqual, Present, Substrings}
use Rattle.filter_text.specs.Spells.{FilterContent, FilterContents, All_of, Any_of, Not_of, Leaf, No_more, And_then}
use Rattle.filter.specs.Prepared.{prepared_filter}
use Rattle.index_text.specs.KeySets.{Members}
use Rattle.index_text.specs.Postings.{Shown, slot_in}
use Rattle.index_text.specs.SlotKeys.{slot_key}
use Rattle.index_text.specs.declared.slot_key.SlotKey.{SlotKey}
use Rattle.candidates.specs.Asked.{asked_keys}
use Rattle.candidates.specs.Sides.{Sides, unknown, neither, exactly, at_most, sides}

abbrev type_with : List ℕ → List ℕ → Option ℕ → Syntax → Family → Bool → Bool → AttributeType
type_with oid name superior syntax family is_ordered has_substrings =
    record { oid = oid; names = name ∷ []; superior = superior; syntax = type_syntaxes.Plain syntax; equality = Some (rules.Plain family); is_ordered = is_ordered; has_substrings = has_substrings; single_value = false; is_fixed = false; is_operational = false }

-- cn stands below name
abbrev types : List AttributeType
types =
    object_class
    ∷ type_with (codes "2.5.4.41") (codes "name") None syntaxes.Text families.Ignore false true
    ∷ type_with (codes "2.5.4.3") (codes "cn") (Some 1) syntaxes.Text families.Ignore false true
    ∷ type_with (codes "1.1") (codes "uidNumber") None syntaxes.Integer families.Integer true false
    ∷ []

-- cn has the slots 0 to 2, uidNumber has the slot 3
abbrev slots : List Slot
slots =
    record { type_id = 2; kind = kinds.Equality }
    ∷ record { type_id = 2; kind = kinds.Presence }
    ∷ record { type_id = 2; kind = kinds.Substrings }
    ∷ record { type_id = 3; kind = kinds.Presence }
    ∷ []

-- what values and names are compared by
unfoldable compares : ⊤
unfolding type_of is_valid_at norm_at norm piece_norm is_valid is_utf8 chars encode
compares = tt

abbrev two : FilterContent → FilterContent → FilterContents
two f g = And_then f (And_then g No_more)

abbrev bob : FilterContent
bob = Leaf (Equality (codes "cn") (codes "Bob"))

abbrev has_obby : FilterContent
has_obby = Leaf (Substrings (codes "cn") None (codes "OBBY" ∷ []) None)

abbrev no_type : FilterContent
no_type = Leaf (Present (codes "mail"))

module _ (numbers : ℕ → List ℕ → Members) (n : ℕ) where
  -- whether the number stands under a key
  abbrev has : ℕ → List ℕ → Bool
  has slot key = contains (numbers slot key) n

  abbrev shown : Shown
  shown = record { slot_of = slot_in slots; members = numbers }

  abbrev said : FilterContent → Sides
  said f = sides shown n (prepared_filter types f)

  -- ---- items

  equality : said bob ≡ exactly (has 0 (codes "bob"))
  unfolding compares
  equality = refl

  approx_is_equality : said (Leaf (Approx (codes "2.5.4.3") (codes " BOB"))) ≡ said bob
  unfolding compares
  approx_is_equality = refl

  presence : said (Leaf (Present (codes "cn"))) ≡ exactly (has 1 [])
  unfolding compares
  presence = refl

  order_by_presence : said (Leaf (GreaterOrEqual (codes "uidNumber") (codes "7"))) ≡ at_most (has 3 [])
  unfolding compares
  order_by_presence = refl

  all_windows : said has_obby ≡ at_most (has 2 (codes "obb") && (has 2 (codes "bby") && true))
  unfolding compares
  all_windows = refl

  -- the windows of each piece, and none where two meet
  each_piece : said (Leaf (Substrings (codes "cn") (Some (codes "Bob")) [] (Some (codes "by")))) ≡ at_most (has 2 (codes "bob") && true)
  unfolding compares
  each_piece = refl

  no_window : said (Leaf (Substrings (codes "cn") (Some (codes "Bo")) [] (Some (codes "by")))) ≡ unknown
  unfolding compares
  no_window = refl

  no_slot : said (Leaf (Equality (codes "uidNumber") (codes "7"))) ≡ unknown
  unfolding compares
  no_slot = refl

  -- a slot of a subtype has the values of that type alone
  no_slot_of_a_subtype : said (Leaf (Equality (codes "name") (codes "Bob"))) ≡ unknown
  unfolding compares
  no_slot_of_a_subtype = refl

  no_such_type : said no_type ≡ neither
  unfolding compares
  no_such_type = refl

  -- ---- filters

  not_of_undefined : said (Not_of no_type) ≡ neither
  unfolding compares
  not_of_undefined = refl

  not_of_equality : said (Not_of bob) ≡ record { may = not (has 0 (codes "bob")); may_not = has 0 (codes "bob") }
  unfolding compares
  not_of_equality = refl

  -- that pieces don't fit is so of entries that have all windows, too
  not_of_pieces : (said (Not_of has_obby)).may ≡ true
  unfolding compares
  not_of_pieces = refl

  and_of_none : said (All_of No_more) ≡ record { may = true; may_not = false }
  and_of_none = refl

  or_of_none : said (Any_of No_more) ≡ record { may = false; may_not = true }
  or_of_none = refl

  and_with_undefined : said (All_of (two no_type bob)) ≡ record { may = false; may_not = not (has 0 (codes "bob")) || false }
  unfolding compares
  and_with_undefined = refl

  or_with_undefined : said (Any_of (two no_type bob)) ≡ record { may = has 0 (codes "bob") || false; may_not = false }
  unfolding compares
  or_with_undefined = refl

-- ---- the keys that are asked for

abbrev asked : FilterContent → List SlotKey
asked f = asked_keys (slot_in slots) (prepared_filter types f)

asks_for_windows : asked has_obby ≡ slot_key 2 (codes "obb") ∷ slot_key 2 (codes "bby") ∷ []
unfolding compares
asks_for_windows = refl

-- of each item, also where it is negated; an order asks for the empty key
asks_for_each : asked (All_of (two (Not_of bob) (Leaf (GreaterOrEqual (codes "uidNumber") (codes "7"))))) ≡ slot_key 0 (codes "bob") ∷ slot_key 3 [] ∷ []
unfolding compares
asks_for_each = refl

asks_for_none : asked (Any_of (two no_type (Leaf (Equality (codes "uidNumber") (codes "7"))))) ≡ []
unfolding compares
asks_for_none = refl

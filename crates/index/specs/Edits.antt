-- The number of edits that is seen with an index: how it rises.
use Rattle.std.specs.Prelude.{◌≡◌, ◌≤◌, ℕ, ◌+◌, Bool, true, false, not, ◌&&◌, nat_eq, List, [], length}
use Rattle.std.specs.List.{list_any, IsDistinct}
use Rattle.std.specs.FinSet as set
use Rattle.schema.specs.Conf.{Conf}
use Rattle.index_text.specs.KeySets.{Members}
use Rattle.index_text.specs.SlotKeys.{same_slot_key}
use Rattle.index_text.specs.Indexes.{Index, members}

-- whether one of two holds, and not both
abbrev pub differ : Bool → Bool → Bool
differ true b = not b
differ false b = b

-- whether a member of a key came or went
abbrev pub has_changed : {K : Type 0} → (K → Members) → (K → Members) → K × ℕ → Bool
has_changed old new a = differ (set.contains (old a.0) a.1) (set.contains (new a.0) a.1)

module _ {K : Type 0} (same_key : K → K → Bool) where
  -- one member of one key
  abbrev pub same_member : K × ℕ → K × ℕ → Bool
  same_member a b = same_key a.0 b.0 && nat_eq a.1 b.1

  -- the members that came or went, each once, and as many edits more
  pub record CountsEach (old new : K → Members) (edits edits' : ℕ) : Type 0 where
    pub changed : List (K × ℕ)
    pub apart : IsDistinct same_member changed
    pub exact : (a : K × ℕ) → list_any (λ x. same_member x a) changed ≡ has_changed old new a
    pub rise : edits' ≡ edits + length changed

-- The number of edits rose by one for each member of a key that came or went, and by nothing else.
abbrev pub CountsEdits : Index → Index → Type 0
CountsEdits old new = CountsEach same_slot_key (members old) (members new) old.edits new.edits

-- the index without a key, before an edit was made
abbrev pub no_index : Conf → Index
no_index conf = record { conf = conf; slots = []; edits = 0 }

-- The number of edits didn't fall, and rose by so many at most.
pub record RisesUpTo (most : ℕ) (old new : Index) : Type 0 where
  pub rises : old.edits ≤ new.edits
  pub few : new.edits ≤ old.edits + most

-- What goes and what comes, in small, by computation.
use Rattle.std.specs.Prelude.{◌≡◌, ℕ, List, [], ◌∷◌, codes, refl}
use Rattle.std.specs.Fmt.{digits}
use Rattle.ldif.specs.Writing.{is_plain, line_text}
use Rattle.ldif.specs.declared.record.Mod.{Mod}
use Rattle.ldif.specs.declared.record.Op.{Op}
use Rattle.ldif.specs.declared.record.Op.TheVariants as ops
use Rattle.differences.specs.Comments.{modified}
use Rattle.values.specs.declared.types.AttributeType.{AttributeType}
use Rattle.entries.specs.Entries.{Attributes}
use Rattle.schema.specs.Values.{norm_at}
use Rattle.differences.specs.AsSets.{settled_values, settled_attributes}
use Rattle.differences.specs.EntryChanges.{Values, values_between, Block, block_of, blocks_between}

-- which values go, and which come
abbrev cut : Values → Values → Values × Values → Type 0
cut before after said = values_between before after ≡ said

a : List ℕ
a = codes "ann"

b : List ℕ
b = codes "bob"

c : List ℕ
c = codes "cy"

-- a group has one member more
one_comes : cut (a ∷ b ∷ []) (a ∷ b ∷ c ∷ []) ([], c ∷ [])
unfolding values_between a b c
one_comes = refl

-- one in the middle goes
one_goes : cut (a ∷ b ∷ c ∷ []) (a ∷ c ∷ []) (b ∷ [], [])
unfolding values_between a b c
one_goes = refl

-- one is new in front: those behind it can't stay, as what comes is put last
one_in_front : cut (a ∷ b ∷ []) (c ∷ a ∷ b ∷ []) (a ∷ b ∷ [], c ∷ a ∷ b ∷ [])
unfolding values_between a b c
one_in_front = refl

-- two change places: the second one stays, the first one goes and comes again
turned : cut (a ∷ b ∷ []) (b ∷ a ∷ []) (a ∷ [], a ∷ [])
unfolding values_between a b c
turned = refl

-- another spelling is another value
spelled : cut (codes "Ann" ∷ []) (a ∷ []) (codes "Ann" ∷ [], a ∷ [])
unfolding values_between a
spelled = refl

-- ---- attributes, by the numbers of their types

-- which blocks there are, whatever the types
abbrev blocks : Attributes → Attributes → List Block → Type 0
blocks before after said = (types : List AttributeType) → blocks_between types before after ≡ said

-- a type in the middle goes, and those around it stay
type_goes : blocks ((0, a ∷ []) ∷ (1, b ∷ []) ∷ (2, c ∷ []) ∷ []) ((0, a ∷ []) ∷ (2, c ∷ []) ∷ []) (block_of 1 ops.Delete [] ∷ [])
unfolding values_between blocks_between a b c
type_goes types = refl

-- a type that comes is put last, with all its values
type_comes : blocks ((0, a ∷ []) ∷ []) ((0, a ∷ []) ∷ (1, b ∷ c ∷ []) ∷ []) (block_of 1 ops.Add (b ∷ c ∷ []) ∷ [])
unfolding values_between blocks_between a b c
type_comes types = refl

-- one is new in front: the one behind it goes, and comes again
type_in_front : blocks ((0, a ∷ []) ∷ []) ((1, b ∷ []) ∷ (0, a ∷ []) ∷ [])
    (block_of 0 ops.Delete [] ∷ block_of 1 ops.Add (b ∷ []) ∷ block_of 0 ops.Add (a ∷ []) ∷ [])
unfolding values_between blocks_between a b c
type_in_front types = refl

-- ---- as sets, without an equality rule

-- which values are to be there
abbrev settled : Values → Values → Values → Type 0
settled before after said = settled_values [] 0 before after ≡ said

-- order alone changes nothing
in_another_order : settled (a ∷ b ∷ []) (b ∷ a ∷ []) (a ∷ b ∷ [])
unfolding norm_at a b
in_another_order = refl

-- one goes and one comes: those that stay are where they were, and the new one is behind them
one_for_another : settled (a ∷ b ∷ []) (c ∷ b ∷ []) (b ∷ c ∷ [])
unfolding norm_at a b c
one_for_another = refl

-- a type that both have stays in its place, and a new one is behind it
types_as_sets : settled_attributes [] ((0, a ∷ []) ∷ (1, b ∷ []) ∷ []) ((2, c ∷ []) ∷ (1, b ∷ []) ∷ []) ≡ (1, b ∷ []) ∷ (2, c ∷ []) ∷ []
unfolding norm_at a b c
types_as_sets = refl

-- ---- the comment

change : Op → List ℕ → Values → Mod
change op name values = record { op = op; attr = name; values = values }

-- the comment of three blocks
three : modified (change ops.Add (codes "member") (c ∷ []) ∷ change ops.Delete (codes "cn") [] ∷ change ops.Replace (codes "sn") (a ∷ b ∷ []) ∷ [])
    ≡ codes "# modify: 1 value of member added, cn deleted, sn replaced by 2 values"
unfolding change line_text is_plain digits a b c
three = refl

-- What a filter says of an entry (RFC 4511, 4.5.1.7).
use Rattle.std.specs.Prelude.{List, [], ◌∷◌}
use Rattle.values.specs.declared.types.AttributeType.{AttributeType}
use Rattle.entries.specs.Entries.{Attributes}
use Rattle.filter_text.specs.Spells.{FilterContent, FilterContents, All_of, Any_of, Not_of, Leaf, No_more, And_then}
use Rattle.filter.specs.declared.truth.Truth.{Truth}
use Rattle.filter.specs.Truths.{and_of, or_of, opposite}
use Rattle.filter.specs.Items.{item_truth}

abbrev mutual
  pub truth : List AttributeType → Attributes → FilterContent → Truth
  truth types attrs (All_of operands) = and_of (truths types attrs operands)
  truth types attrs (Any_of operands) = or_of (truths types attrs operands)
  truth types attrs (Not_of operand) = opposite (truth types attrs operand)
  truth types attrs (Leaf item) = item_truth types attrs item

  pub truths : List AttributeType → Attributes → FilterContents → List Truth
  truths types attrs No_more = []
  truths types attrs (And_then first rest) = truth types attrs first ∷ truths types attrs rest

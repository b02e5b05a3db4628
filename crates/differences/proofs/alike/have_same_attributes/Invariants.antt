use Rattle.std.proofs.Common.{◌≡◌}
use Rattle.entries.specs.StoredEntries.{attributes_of}
use Rattle.differences.proofs.alike.have_same_attributes.Given as goal

-- if what is left is the same, all is
abbrev pub invariant-loop-attribute : goal.invariant-loop-attribute
invariant-loop-attribute l = attributes_of l.attribute-iterator ≡ attributes_of l.others → attributes_of l.before.attrs ≡ attributes_of l.after.attrs

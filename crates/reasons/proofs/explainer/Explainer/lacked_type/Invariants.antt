use Rattle.std.proofs.Common.{◌≡◌, drop}
use Rattle.std.specs.List.{list_all}
use Rattle.entries.specs.EntryClasses.{has_type}
use Rattle.entries.specs.StoredEntries.{attributes_of}
use Rattle.reasons.proofs.explainer.Explainer.lacked_type.Given as goal

abbrev pub invariant-loop-t : goal.invariant-loop-t
invariant-loop-t l = list_all (has_type (attributes_of l.attrs)) (drop l.t-index l.types) ≡ list_all (has_type (attributes_of l.attrs)) l.types

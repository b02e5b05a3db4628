use Rattle.entries.proofs.LeftFrom.{AtStart}
use Rattle.entries.proofs.values_draft.first_places.Given as goal

abbrev pub invariant-loop-value : goal.invariant-loop-value
invariant-loop-value l = record {
  can : (goal.iterator-loop-value).can_next l.value-iterator × (goal.iterator-loop-value).is_finite l.value-iterator;
  start : AtStart l.places.since l.places.count l.value-iterator l.values;
}

use Rattle.std.proofs.Common.{◌≡◌, ◌<◌, ◌++◌, length}
use Rattle.std.specs.List.{AllByRecursion}
use Rattle.entries.specs.EntryClasses.{are_classes, named_classes}
use Rattle.entries.specs.StoredEntries.{raws}
use Rattle.reasons.specs.inner.Entries.{IsBehind}
use Rattle.reasons.proofs.explainer.Explainer.named_classes.Given as goal

abbrev pub invariant-loop-value : goal.invariant-loop-value
invariant-loop-value l = record {
  can : (goal.iterator-loop-value).can_next l.value-iterator × (goal.iterator-loop-value).is_finite l.value-iterator;
  all : are_classes l.self.conf.now.classes (raws l.value-iterator) ≡ are_classes l.self.conf.now.classes (raws l.fn.values);
  named : l.named.items ++ named_classes l.self.conf.now.classes (raws l.value-iterator) ≡ named_classes l.self.conf.now.classes (raws l.fn.values);
  known : AllByRecursion (λ c. c < length l.self.conf.now.classes) l.named.items;
  place : IsBehind l.index (raws l.value-iterator) (raws l.fn.values);
}

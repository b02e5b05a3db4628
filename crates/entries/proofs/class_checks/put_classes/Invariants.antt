use Rattle.std.proofs.Common.{◌≡◌, ◌<◌, ◌++◌, length}
use Rattle.std.specs.List.{AllByRecursion}
use Rattle.entries.specs.EntryClasses.{are_classes, named_classes}
use Rattle.entries.specs.StoredEntries.{raws}
use Rattle.entries.proofs.class_checks.put_classes.Given as goal

abbrev pub invariant-loop-value : goal.invariant-loop-value
invariant-loop-value l = record {
  can : (goal.iterator-loop-value).can_next l.value-iterator × (goal.iterator-loop-value).is_finite l.value-iterator;
  all : are_classes l.fn.conf.classes (raws l.value-iterator) ≡ are_classes l.fn.conf.classes (raws l.fn.values);
  named : l.classes.items ++ named_classes l.fn.conf.classes (raws l.value-iterator) ≡ named_classes l.fn.conf.classes (raws l.fn.values);
  known : AllByRecursion (λ c. c < length l.fn.conf.classes) l.classes.items;
}

use Rattle.std.proofs.Common.{◌≡◌, ◌<◌, drop, length}
use Rattle.std.specs.List.{AllByRecursion}
use Rattle.entries.specs.inner.ClassChecks.{has_all_required}
use Rattle.entries.specs.StoredEntries.{attributes_of}
use Rattle.reasons.proofs.explainer.Explainer.lack.Given as goal

abbrev pub invariant-loop-class : goal.invariant-loop-class
invariant-loop-class l = record {
  known : AllByRecursion (λ c. c < length l.self.conf.now.classes) (drop l.class-index l.named);
  rest : has_all_required l.self.conf.now.classes (attributes_of l.attrs) (drop l.class-index l.named) ≡ has_all_required l.self.conf.now.classes (attributes_of l.attrs) l.named;
}

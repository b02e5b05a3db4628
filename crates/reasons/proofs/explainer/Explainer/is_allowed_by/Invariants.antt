use Rattle.std.proofs.Common.{◌≡◌, ◌<◌, drop, length}
use Rattle.std.specs.List.{AllByRecursion}
use Rattle.entries.specs.inner.ClassChecks.{is_allowed_by}
use Rattle.reasons.proofs.explainer.Explainer.is_allowed_by.Given as goal

abbrev pub invariant-loop-class : goal.invariant-loop-class
invariant-loop-class l = record {
  known : AllByRecursion (λ c. c < length l.self.conf.now.classes) (drop l.class-index l.named);
  rest : is_allowed_by l.self.conf.now.classes (drop l.class-index l.named) l.t ≡ is_allowed_by l.self.conf.now.classes l.named l.t;
}

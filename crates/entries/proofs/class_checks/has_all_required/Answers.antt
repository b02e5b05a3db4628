use Rattle.std.proofs.Common.{sym, ◌∙◌, ℕ, Bool, ◌<◌, length}
use Rattle.schema.specs.Superclasses.{lineage}
use Rattle.entries.specs.StoredEntries.{attributes_of}
use Rattle.entries.specs.EntryClasses.{has_required}
use Rattle.entries.proofs.LoopSteps.{one_and_others, one_passes, one_fails, all_passed}
use Rattle.entries.proofs.class_checks.has_all_required.Goals as goal

pub has_required-requires : goal.has_required-requires
has_required-requires c = (one_and_others (λ k. k < length c.args.conf.now.classes) c.args.named.now c.loop-class.class-index 0 c.loop-class-test.true c.loop-class.invariant.known).0

pub loop-class-preserved : goal.loop-class-preserved
loop-class-preserved c =
    let test : ℕ → Bool = λ k. has_required c.args.conf.now.classes (attributes_of c.args.attrs.now.entries) (lineage c.args.conf.now.classes k) in
    record {
      known = (one_and_others (λ k. k < length c.args.conf.now.classes) c.args.named.now c.loop-class.class-index 0 c.loop-class-test.true c.loop-class.invariant.known).1;
      rest = one_passes test c.args.named.now c.loop-class.class-index 0 c.loop-class-test.true (sym c.has_required.ensures ∙ c.if-not-has_required.false) ∙ c.loop-class.invariant.rest;
    }

pub returns-then-not-has_required : goal.returns-then-not-has_required
returns-then-not-has_required c =
    let test : ℕ → Bool = λ k. has_required c.args.conf.now.classes (attributes_of c.args.attrs.now.entries) (lineage c.args.conf.now.classes k) in
    sym (sym c.loop-class.invariant.rest ∙ one_fails test c.args.named.now c.loop-class.class-index 0 c.loop-class-test.true (sym c.has_required.ensures ∙ c.if-not-has_required.true))

pub returns : goal.returns
returns c = sym (sym c.loop-class.invariant.rest ∙ all_passed (λ k. has_required c.args.conf.now.classes (attributes_of c.args.attrs.now.entries) (lineage c.args.conf.now.classes k)) c.args.named.now c.loop-class.class-index c.loop-class-test.false)

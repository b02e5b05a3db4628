use Rattle.std.proofs.Common.{sym, ◌∙◌, ℕ, Bool, ◌<◌, ◌||◌, length}
use Rattle.schema.specs.Superclasses.{is_extensible, is_named}
use Rattle.entries.proofs.LoopSteps.{one_and_others, one_other, one_found, none_found}
use Rattle.reasons.proofs.explainer.Explainer.is_allowed_by.Goals as goal

pub allows-requires : goal.allows-requires
allows-requires c = (one_and_others (λ k. k < length c.args.self.now.conf.now.classes) c.args.named.now c.loop-class.class-index 0 c.loop-class-test.true c.loop-class.invariant.known).0

pub loop-class-preserved : goal.loop-class-preserved
loop-class-preserved c =
    let test : ℕ → Bool = λ k. is_extensible c.args.self.now.conf.now.classes k || is_named c.args.self.now.conf.now.classes k c.args.t in
    record {
      known = (one_and_others (λ k. k < length c.args.self.now.conf.now.classes) c.args.named.now c.loop-class.class-index 0 c.loop-class-test.true c.loop-class.invariant.known).1;
      rest = one_other test c.args.named.now c.loop-class.class-index 0 c.loop-class-test.true (sym c.allows.ensures ∙ c.if-allows.false) ∙ c.loop-class.invariant.rest;
    }

pub returns-then-allows : goal.returns-then-allows
returns-then-allows c =
    let test : ℕ → Bool = λ k. is_extensible c.args.self.now.conf.now.classes k || is_named c.args.self.now.conf.now.classes k c.args.t in
    sym (sym c.loop-class.invariant.rest ∙ one_found test c.args.named.now c.loop-class.class-index 0 c.loop-class-test.true (sym c.allows.ensures ∙ c.if-allows.true))

pub returns : goal.returns
returns c = sym (sym c.loop-class.invariant.rest ∙ none_found (λ k. is_extensible c.args.self.now.conf.now.classes k || is_named c.args.self.now.conf.now.classes k c.args.t) c.args.named.now c.loop-class.class-index c.loop-class-test.false)

use Rattle.std.proofs.Common.{◌≡◌, ◌+◌, ◌++◌, false, drop, List, ℕ, sym, subst, refl, ap, ◌∙◌, arith}
use Rattle.server_schema.specs.declared.taking.Candidate.{Candidate}
use Rattle.server_schema.specs.declared.definition.Definition.{Definition}
use Rattle.server_schema.specs.Growth.{Grows, AreRefused, AreAmong, definitions_of_all}
use Rattle.server_schema.proofs.Growing.{stays, none_refused}
use Rattle.server_schema.proofs.Passing.{some_taken, within, none_taken, moved, first_refused, pushed_refused}
use Rattle.server_schema.proofs.Marking.{none_among, among_pushed}
use Rattle.server_schema.proofs.taking.pass.Goals as goal

pub candidates-init : goal.candidates-init
candidates-init c =
    let text = c.args.text.now.items in
    let ds = definitions_of_all c.args.candidates.now in (
      omega arith,
      subst (λ (cs : List Candidate). Grows text ds text (definitions_of_all cs ++ ds) false) (sym c.new-left.ensures.items) (stays text ds),
      λ only grew. (refl, subst (λ (cs : List Candidate). AreRefused text (definitions_of_all cs)) (sym c.new-left.ensures.items) (none_refused text)),
      subst (λ (cs : List Candidate). AreAmong cs c.args.candidates.now) (sym c.new-left.ensures.items) (none_among c.args.candidates.now),
    )

pub candidates-preserved-then-taken-eq0 : goal.candidates-preserved-then-taken-eq0
candidates-preserved-then-taken-eq0 c =
    let cs = c.args.candidates.now in
    let at = c.candidates.at in
    let x = c.index-candidates-at.result in
    let t = c.candidates.text.items in
    let u = c.try_some.new.text.items in
    let left = c.candidates.left.items in
    let same : u ≡ t = none_taken t u _ _ c.if-taken-eq0.true c.in_ok-taken.ensures.took in
    let is = c.in_ok-push.ensures.items in
    let all = definitions_of_all cs in (
      omega (arith, c.candidates-test.true),
      subst (λ (v : List ℕ). Grows c.args.text.now.items all v (definitions_of_all c.push.new.self.items ++ definitions_of_all (drop (at + 1) cs)) false) (sym same)
          (subst (λ (ds : List Definition). Grows c.args.text.now.items all t ds false)
          (sym (ap (λ (ls : List Candidate). definitions_of_all ls ++ definitions_of_all (drop (at + 1) cs)) is ∙ moved left cs at x x c.candidates-test.true c.index-candidates-at.is refl)) c.candidates.invariant.1),
      λ only grew.
          let before = c.candidates.invariant.2 only grew in (
            same ∙ before.0,
            subst (λ (v : List ℕ). AreRefused v (definitions_of_all c.push.new.self.items)) (sym same)
                (subst (λ (ls : List Candidate). AreRefused t (definitions_of_all ls)) (sym is)
                (pushed_refused t left x before.1 (first_refused t cs at x c.candidates-test.true c.index-candidates-at.is (c.in_ok-taken.ensures.refused only c.if-taken-eq0.true)))),
          ),
      among_pushed left _ cs at x is c.candidates-test.true c.index-candidates-at.is c.candidates.invariant.3,
    )

pub candidates-preserved : goal.candidates-preserved
candidates-preserved c =
    let cs = c.args.candidates.now in
    let at = c.candidates.at in (
      within cs at _ c.candidates-test.true c.in_ok-taken.ensures.within,
      some_taken _ _ _ _ c.candidates.left.items cs at _ c.candidates.invariant.1 c.in_ok-taken.ensures.took c.in_ok-taken.ensures.read,
      λ only no_growth. let bad : ⊥ = cc in absurd bad,
      c.candidates.invariant.3,
    )

use Rattle.std.proofs.Common.{◌≡◌, ℕ, ◌+◌, suc, List, take, drop, sym, subst, ◌∙◌, arith}
use Rattle.std.proofs.lemmas.List.{take_all}
use Rattle.ldif.specs.Attrs.{Attr}
use Rattle.reasons.specs.Flaws.{HasFlaw, line_checks}
use Rattle.reasons.specs.inner.Found.{Leaves}
use Rattle.reasons.specs.inner.Lines.{AreSeen}
use Rattle.reasons.proofs.LinesFound.{line_found, line_passed, lines_done, kept_at, none_kept}
use Rattle.reasons.proofs.explainer.Explainer.lines_reason.Goals as goal

pub returns-then-is_some-clause-found : goal.returns-then-is_some-clause-found
returns-then-is_some-clause-found c =
    line_found c.args.self.now.conf.now c.args.self.now.mode c.args.self.now.tree.now.entries c.args.self.now.asked.now c.args.lines.now c.loop-index.index c.loop-index-test.true c.loop-index.invariant.left
    c.in_ok-found.found (sym c.is_some.ensures ∙ c.if-is_some.true) c.in_ok-found.ensures.found

pub returns-then-is_some-clause-seen : goal.returns-then-is_some-clause-seen
returns-then-is_some-clause-seen c = none_kept (AreSeen c.args.self.now.conf.now.types c.args.lines.now c.line_reason.new.seen) c.in_ok-found.found (sym c.is_some.ensures ∙ c.if-is_some.true)

pub loop-index-preserved : goal.loop-index-preserved
loop-index-preserved c =
    let conf = c.args.self.now.conf.now in
    let mode = c.args.self.now.mode in
    let d = c.args.self.now.tree.now.entries in
    let r = c.args.self.now.asked.now in
    let lines = c.args.lines.now in
    let i = c.loop-index.index in
    let none = sym c.is_some.ensures ∙ c.if-is_some.false in
    let one : suc i ≡ i + 1 = omega arith in
    record {
      seen = kept_at (AreSeen conf.types (take (i + 1) lines) c.line_reason.new.seen) c.in_ok-found.found none c.in_ok-found.ensures.seen;
      left = subst (λ (n : ℕ). Leaves (HasFlaw conf mode d r) (line_checks 0 lines) (line_checks n (drop n lines))) one
          (line_passed conf mode d r lines i c.loop-index-test.true c.loop-index.invariant.left c.in_ok-found.found none c.in_ok-found.ensures.found);
    }

pub returns-clause-found : goal.returns-clause-found
returns-clause-found c = lines_done c.args.self.now.conf.now c.args.self.now.mode c.args.self.now.tree.now.entries c.args.self.now.asked.now c.args.lines.now c.loop-index.index c.loop-index-test.false c.loop-index.invariant.left

pub returns-clause-seen : goal.returns-clause-seen
returns-clause-seen c = subst (λ (ls : List Attr). AreSeen c.args.self.now.conf.now.types ls c.loop-index.seen) (take_all _ _ c.loop-index-test.false) c.loop-index.invariant.seen

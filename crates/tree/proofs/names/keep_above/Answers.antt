use Rattle.std.proofs.Common.{◌≡◌, ◌∙◌, true, false, sym, ap, subst, List, take, ℕ, IfSome}
use Rattle.paths.specs.Paths.{Path, is_below, parent_of}
use Rattle.tree.specs.inner.Above.{IsFor, last_of}
use Rattle.tree.proofs.Above.{above_taken, above_pushed, last_above}
use Rattle.tree.proofs.names.keep_above.Goals as goal

pub name_by-requires-clause-named : goal.name_by-requires-clause-named
name_by-requires-clause-named c = (above_taken c.args.lent.conf.now c.args.lent.tree.now.entries c.args.kept.now.items c.requires.above _ _ (c.as_slice-in-Some.ensures.value ∙ c.truncate.ensures.items)).named

pub returns-then-is_for-2 : goal.returns-then-is_for-2
returns-then-is_for-2 c = above_taken c.args.lent.conf.now c.args.lent.tree.now.entries c.args.kept.now.items c.requires.above _ _ c.truncate.ensures.items

pub returns-in_err-above : goal.returns-in_err-above
returns-in_err-above c = above_taken c.args.lent.conf.now c.args.lent.tree.now.entries c.args.kept.now.items c.requires.above _ _ c.truncate.ensures.items

pub returns-in_err-name : goal.returns-in_err-name
returns-in_err-name c = above_taken c.args.lent.conf.now c.args.lent.tree.now.entries c.args.kept.now.items c.requires.above _ _ c.truncate.ensures.items

pub returns-in_default : goal.returns-in_default
returns-in_default c = above_taken c.args.lent.conf.now c.args.lent.tree.now.entries c.args.kept.now.items c.requires.above _ _ c.truncate.ensures.items

pub returns-in_err-push : goal.returns-in_err-push
returns-in_err-push c = above_taken c.args.lent.conf.now c.args.lent.tree.now.entries c.args.kept.now.items c.requires.above _ _ (c.in_err-push.ensures.items ∙ c.truncate.ensures.items)

-- the path right above isn't kept yet
apart : (c : goal.In_ok-push) → IsFor (parent_of c.args.path.now) (last_of c.truncate.new.self.items) → ⊥
apart c for =
    let on = c.is_for-2.ensures.1 (subst (λ (left : List (Path × List ℕ)). IsFor (parent_of c.args.path.now) (last_of left)) (sym c.as_slice-3.ensures.value) for) in
    let bad : true ≡ false = sym on ∙ c.if-is_for-2.false in
    cc

pub returns-in_ok-push : goal.returns-in_ok-push
returns-in_ok-push c =
    let last = subst (λ (left : List (Path × List ℕ)). IfSome (last_of left) (λ k. is_below k.0 c.args.path.now ≡ true))
    (ap (take c.count_above.result) c.as_slice-2.ensures.value ∙ sym c.truncate.ensures.items) c.count_above.ensures.last in
    above_pushed c.args.lent.conf.now c.args.lent.tree.now.entries c.truncate.new.self.items (above_taken c.args.lent.conf.now c.args.lent.tree.now.entries c.args.kept.now.items c.requires.above _ _ c.truncate.ensures.items)
    (c.in_ok-above.above, c.in_ok-name.name) _ c.in_ok-push.ensures.items c.in_ok-name.ensures
    (last_above c.args.path.now _ last (apart c) c.in_ok-above.above c.in_ok-above.ensures)

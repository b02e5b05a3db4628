use Rattle.std.proofs.Common.{◌∙◌, ◌+◌, List, ℕ, Bool, cond, Bor, map, drop, sym, ap}
use Rattle.std.proofs.lemmas.List.{at_drop_more}
use Rattle.checks.specs.LostNames.{behind_name}
use Rattle.checks.proofs.lost_names.behind_name.Goals as goal

abbrev texts : List (Bor (List ℕ)) → List (List ℕ)
texts ps = map (λ p. p.now) ps

abbrev behind : List (Bor (List ℕ)) → List (List ℕ)
behind ps = behind_name (texts ps)

pub loop-at-preserved : goal.loop-at-preserved
unfolding behind_name
loop-at-preserved c =
    let pieces = c.args.pieces.now in
    let at = c.loop-at.at in
    let rest = drop (at + 1) pieces in
    sym (ap (λ (b : Bool). cond b (texts rest) (behind rest)) (sym c.is_name_word.ensures ∙ c.if-is_name_word.false)) ∙ sym (at_drop_more behind pieces at _ c.loop-at-test.true) ∙ c.loop-at.invariant

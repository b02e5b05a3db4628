use Rattle.std.proofs.Common.{◌≡◌, ℕ, ◌+◌, ◌<◌, Bool, List, [], ◌∷◌, ◌++◌, Some, length, map, sym, ap, subst, ◌∙◌, arith, rules, length-append}
use Rattle.databases.specs.Selections.{selects, is_selected}
use Rattle.databases.proofs.SelectedTypes.{one_more}
use Rattle.databases.proofs.selection.Selection.of.Goals as goal

pub loop-number-preserved : goal.loop-number-preserved
loop-number-preserved c =
    let words : List (List ℕ) = map (λ w. w.now) c.args.words.now in
    let flags : List Bool = c.loop-number.flags in
    let last : List Bool = c.is_selected.result ∷ [] in
    let pushed : c.push.new.self ≡ flags ++ last = c.in_ok-push.ensures.ok in
    let number : c.from_number-t.result ≡ c.loop-number.number = search rules in
    let parts = length-append flags last in
    let longer = ap (λ (fs : List Bool). length fs) pushed in
    let len = c.loop-number.invariant.len in
    record {
      len = omega (arith, parts, longer, len);
      are = subst (λ (fs : List Bool). (t : ℕ) → t < c.loop-number.number + 1 → selects (Some fs) t ≡ is_selected c.args.conf.now.types words t) (sym pushed)
          (one_more (is_selected c.args.conf.now.types words) flags c.loop-number.number c.is_selected.result len c.loop-number.invariant.are (c.is_selected.ensures ∙ ap (is_selected c.args.conf.now.types words) number));
    }

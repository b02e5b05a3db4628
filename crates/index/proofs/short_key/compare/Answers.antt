use Rattle.std.proofs.Common.{sym, drop, ◌∙◌, arith}
use Rattle.std.specs.Cmp.Lexicographic.{slice_cmp}
use Rattle.std.specs.Ordering.{nat_cmp}
use Rattle.std.proofs.lemmas.List.{drop-drop}
use Rattle.index.proofs.ShortKeys.{next_four}
use Rattle.index.proofs.short_key.compare.Goals as goal

pub loop-at-preserved : goal.loop-at-preserved
loop-at-preserved c =
    let at = c.loop-at.at in
    record {
      within = let more = c.loop-at-test.true in let fits = c.loop-at.invariant.within in omega (arith, more, fits);
      rest =
          (λ i. slice_cmp nat_cmp (sym (drop-drop 4 at c.args.left.now) i) (sym (drop-drop 4 at c.args.right.now) i))
          ∙ next_four c.word-one.result c.word-other.result (drop at c.args.left.now) (drop at c.args.right.now) c.if-one-other.false c.word-one.ensures c.word-other.ensures
          ∙ c.loop-at.invariant.rest;
    }

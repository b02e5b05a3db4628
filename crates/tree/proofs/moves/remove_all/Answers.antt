use Rattle.std.proofs.Common.{List, ap, arith, drop, subst, sym, ℕ, ◌+◌, ◌∙◌, ◌∷◌, ◌≡◌}
use Rattle.std.proofs.lemmas.Grind.{common_steps}
use Rattle.std.proofs.lemmas.List.{drop_more}
use Rattle.paths.specs.Paths.{Path}
use Rattle.tree.specs.inner.Trees.{numbers_of}
use Rattle.tree.proofs.Moving.{without_goes_on}
use Rattle.tree.proofs.Numbered.{IsRising, rising_remove, numbers_remove}
use Rattle.tree.proofs.moves.remove_all.Goals as goal

pub loop-path-preserved : goal.loop-path-preserved
loop-path-preserved c =
    let e : Path × ℕ = c.loop-path-item.result in
    let old : List (Path × ℕ) = c.loop-path.numbers.entries in
    let rest : List (Path × ℕ) = drop (c.loop-path.path-index + 1) c.args.entries.now in
    let cut : drop c.loop-path.path-index c.args.entries.now ≡ e ∷ rest = drop_more c.args.entries.now c.loop-path.path-index e c.loop-path-test.true ∙ ap (λ (x : Path × ℕ). x ∷ rest) (sym c.loop-path-item.is) in
    record {
      sorted = subst IsRising (sym c.remove.ensures.entries) (rising_remove old e.0 c.loop-path.invariant.sorted);
      rest = without_goes_on (numbers_of old) (numbers_of c.remove.new.self.entries) e (drop c.loop-path.path-index c.args.entries.now) rest _ cut
          (ap numbers_of c.remove.ensures.entries ∙ numbers_remove old e.0 c.loop-path.invariant.sorted) c.loop-path.invariant.rest;
    }

pub returns-clause-all : goal.returns-clause-all
returns-clause-all c = grind (arith, common_steps)

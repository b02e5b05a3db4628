use Rattle.std.proofs.Common.{◌≡◌, ◌∷◌, ◌+◌, ℕ, List, subst, sym, ap, ◌∙◌, drop}
use Rattle.std.proofs.lemmas.Result.{IfOk-from_err}
use Rattle.std.specs.FinMap as finite
use Rattle.std.proofs.lemmas.List.{drop_more}
use Rattle.paths.specs.Paths.{Path}
use Rattle.tree.specs.inner.Trees.{numbers_of}
use Rattle.tree.proofs.Numbered.{IsRising, rising_put, numbers_put}
use Rattle.tree.proofs.Moving.{put_goes_on, others_go_on}
use Rattle.tree.proofs.moves.put_all.Goals as goal

pub loop-path-preserved : goal.loop-path-preserved
loop-path-preserved c =
    let e : Path × ℕ = c.loop-path-item.result in
    let old : List (Path × ℕ) = c.loop-path.numbers.entries in
    let rest : List (Path × ℕ) = drop (c.loop-path.path-index + 1) c.args.entries.now in
    let cut : drop c.loop-path.path-index c.args.entries.now ≡ e ∷ rest = drop_more c.args.entries.now c.loop-path.path-index e c.loop-path-test.true ∙ ap (λ (x : Path × ℕ). x ∷ rest) (sym c.loop-path-item.is) in
    let came = c.in_ok-insert.ensures.entries in
    let put : numbers_of c.insert.new.self.entries ≡ finite.insert (numbers_of old) e.0 e.1 =
    ap numbers_of came ∙ numbers_put old c.in_ok-copy.field-0 e.1 c.loop-path.invariant.sorted ∙ ap (λ (p : Path). finite.insert (numbers_of old) p e.1) c.in_ok-copy.ensures in
    record {
      sorted = subst IsRising (sym came) (rising_put old c.in_ok-copy.field-0 e.1 c.loop-path.invariant.sorted);
      rest = put_goes_on (numbers_of old) (numbers_of c.insert.new.self.entries) e (drop c.loop-path.path-index c.args.entries.now) rest _ cut put c.loop-path.invariant.rest;
      others = λ q off.
          let o = c.loop-path.invariant.others q off in
          let n = others_go_on (numbers_of old) (numbers_of c.insert.new.self.entries) e (drop c.loop-path.path-index c.args.entries.now) rest q cut put o.0 in
          (n.0, n.1 ∙ o.1);
    }

pub returns-in_err-insert-clause-all : goal.returns-in_err-insert-clause-all
returns-in_err-insert-clause-all c = IfOk-from_err _ _ c.from_residual-in_err-insert.ensures.0

pub returns-in_err-copy-clause-all : goal.returns-in_err-copy-clause-all
returns-in_err-copy-clause-all c = IfOk-from_err _ _ c.from_residual.ensures.0

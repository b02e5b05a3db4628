use Rattle.std.proofs.Common.{subst, ◌∙◌, List, ℕ}
use Rattle.checks.specs.inner.Holders.{HoldersByNorm}
use Rattle.checks.proofs.Holding.{Puts, one_more, distinct_rest}
use Rattle.checks.proofs.holders.add_holder_of_values.Goals as goal

pub loop-value-preserved : goal.loop-value-preserved
loop-value-preserved c =
    let m : HoldersByNorm = c.loop-value.holders in
    let n : HoldersByNorm = c.add_holder.new.holders in
    let v = c.in-Some.value.now in
    let p = c.args.path.now in
    let all = c.loop-value.value-iterator in
    let rest = c.next.new.self in
    let puts = subst (λ (k : List ℕ). Puts m n k p) c.norm.ensures c.in_ok-add_holder.ensures in
    record {
      can = (tt, tt);
      distinct = distinct_rest v all rest c.in-Some.ensures.steps c.loop-value.invariant.distinct;
      so_far = λ q. one_more m n p v all rest c.in-Some.ensures.steps c.loop-value.invariant.distinct puts q ∙ c.loop-value.invariant.so_far q;
    }

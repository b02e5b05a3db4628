use Rattle.std.proofs.Common.{sym, ◌∙◌, arith}
use Rattle.index_keys.proofs.RowsInOrder.{one_taken}
use Rattle.index_keys.proofs.rows.take_ranks.Goals as goal

pub loop-parts-preserved : goal.loop-parts-preserved
loop-parts-preserved g c =
    let fewer = c.loop-parts.invariant.fewer in
    let cut = c.in-Some.ensures.cases.0 in
    let length_is = c.in-Some.ensures.cases.1 in
    record {
      parts = one_taken g.K.RankedKey.pair c.args.first.now c.in-Some.parts.0.now c.loop-parts.left.now c.in-Some.parts.1.now c.loop-parts.ranks.items c.push.new.self.items c.rank.result
          cut (sym c.if-not-has_key_of.ensures) c.rank.ensures c.in_ok-push.ensures.items
          ∙ c.loop-parts.invariant.parts;
      fewer = omega (arith, length_is, fewer);
    }

use Rattle.std.proofs.Common.{get_or, ap, arith}
use Rattle.std.proofs.lemmas.List.{drop_more, drop_all}
use Rattle.std.proofs.lemmas.Nat.{ones-le}
use Rattle.dense_sets.proofs.Counts.{bits_in, len_words}
use Rattle.dense_sets.proofs.words.count.Goals as goal

pub loop-word-preserved : goal.loop-word-preserved
loop-word-preserved c =
    let most = ones-le 64 (get_or c.args.words.now c.loop-word.word-index 0) (c.type_inv.words c.loop-word.word-index).fits in
    let same = c.from-ones.ensures in
    let few = c.loop-word.invariant.few in
    let counted = c.loop-word.invariant.counted in
    let next = ap bits_in (drop_more c.args.words.now c.loop-word.word-index 0 c.loop-word-test.true) in
    record {
      few = omega (arith, most, same, few);
      counted = omega (arith, same, counted, next);
    }

pub returns : goal.returns
returns c =
    let counted = c.loop-word.invariant.counted in
    let none = ap bits_in (drop_all c.loop-word.word-index c.args.words.now c.loop-word-test.false) in
    let all = len_words c.args.words.now (λ k. (c.type_inv.words k).fits) in
    omega (arith, counted, none, all)

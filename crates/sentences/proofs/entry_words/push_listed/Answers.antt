use Rattle.std.proofs.Common.{arith}
use Rattle.sentences.proofs.Lists.{types_listed}
use Rattle.sentences.proofs.entry_words.push_listed.Goals as goal

pub loop-place-preserved : goal.loop-place-preserved
loop-place-preserved c =
    types_listed c.args.conf.now c.args.types.now c.loop-place.place c.index-types-place.result _ _ _ _ (omega arith) c.index-types-place.is
    c.loop-place.invariant c.in_ok-push_comma.ensures c.in_ok-push_type.ensures

use Rattle.index.proofs.ShortKeys.{made_few, made_padded}
use Rattle.index.proofs.short_key.ShortKey.of.Goals as goal

pub invariant_of-result : goal.invariant_of-result
invariant_of-result g c = record {
  few = made_few g.row.N c.args.key.now c.copy_from_slice.new.self c.copy_from_slice.ensures.after c.if-key.false;
  padded = made_padded g.row.N c.args.key.now c.copy_from_slice.new.self c.copy_from_slice.ensures.after c.if-key.false;
}

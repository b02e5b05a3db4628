use Rattle.std.proofs.Common.{◌∷◌, [], sym, ap}
use Rattle.schema.specs.declared.slots.IndexKind.TheVariants.{Presence}
use Rattle.index_keys.proofs.Gathered.{all_gathered, key_more}
use Rattle.index_keys.proofs.gathering.ranked_presence.Goals as goal

pub loop-numbered-preserved : goal.loop-numbered-preserved
loop-numbered-preserved c = record { so_far = key_more Presence _ _ _ _ _ _ c.loop-numbered-test.true c.in_ok-push.ensures.items (ap (λ q. q ∷ []) (sym c.of.ensures.norm)) c.of.ensures.rank c.loop-numbered.invariant.so_far }

pub returns : goal.returns
returns c = all_gathered Presence _ _ _ _ c.loop-numbered-test.false c.in_order.ensures.rise c.in_order.ensures.same c.loop-numbered.invariant.so_far

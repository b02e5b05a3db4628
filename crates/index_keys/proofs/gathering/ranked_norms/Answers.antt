use Rattle.std.proofs.Common.{◌∷◌, [], sym, ap, ◌∙◌}
use Rattle.schema.specs.declared.slots.IndexKind.TheVariants.{Equality}
use Rattle.index_keys.proofs.Gathered.{all_gathered, key_more, norm_in_front, rest_behind}
use Rattle.index_keys.proofs.gathering.ranked_norms.Goals as goal

pub loop-numbered-preserved : goal.loop-numbered-preserved
loop-numbered-preserved c =
    let lt = c.loop-numbered-test.true in
    let rest = c.loop-numbered.invariant.rest in record {
      so_far = key_more Equality _ _ _ _ _ _ lt c.in_ok-push.ensures.items (ap (λ q. q ∷ []) (sym (c.of.ensures.norm ∙ norm_in_front _ _ _ _ lt rest _ c.split_at.ensures.front))) c.of.ensures.rank c.loop-numbered.invariant.so_far;
      rest = rest_behind _ _ _ _ lt rest _ c.split_at.ensures.back;
    }

pub returns : goal.returns
returns c = all_gathered Equality _ _ _ _ c.loop-numbered-test.false c.in_order.ensures.rise c.in_order.ensures.same c.loop-numbered.invariant.so_far

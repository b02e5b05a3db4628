use Rattle.std.proofs.Common.{◌++◌, ◌+◌, List, map, drop, sym, ap, ◌∙◌, append_assoc}
use Rattle.std.proofs.lemmas.List.{append-nil, drop_more, drop_all}
use Rattle.schema.specs.declared.slots.IndexKind.{IndexKind}
use Rattle.schema.specs.declared.slots.Slot.{Slot}
use Rattle.dir_conf.proofs.index_lines.put_slots.Goals as goal

pub loop-kind-preserved : goal.loop-kind-preserved
loop-kind-preserved c =
    let kinds = c.args.kinds.now in
    let before = c.loop-kind.slots.items in
    let slots = λ (ks : List IndexKind). map {B = Slot} (λ k. record { type_id = c.args.type_id; kind = k }) ks in
    let rest = slots (drop (c.loop-kind.kind-index + 1) kinds) in
    ap (λ (ss : List Slot). ss ++ rest) c.in_ok-push.ensures.items
    ∙ append_assoc before _ rest
    ∙ sym (ap (λ (ks : List IndexKind). before ++ slots ks) (drop_more kinds c.loop-kind.kind-index _ c.loop-kind-test.true))
    ∙ c.loop-kind.invariant

pub returns : goal.returns
returns c =
    let before = c.loop-kind.slots.items in
    let slots = λ (ks : List IndexKind). map {B = Slot} (λ k. record { type_id = c.args.type_id; kind = k }) ks in
    sym (ap (λ (ks : List IndexKind). before ++ slots ks) (drop_all c.loop-kind.kind-index c.args.kinds.now c.loop-kind-test.false) ∙ append-nil before) ∙ c.loop-kind.invariant

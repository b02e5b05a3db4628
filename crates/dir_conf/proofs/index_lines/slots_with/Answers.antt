use Rattle.std.proofs.lemmas.Grind.{common_steps}
use Rattle.std.proofs.lemmas.Result.{IfOk-from_err}
use Rattle.std.proofs.Common.{ℕ, ◌+◌, List, ◌∷◌, ◌++◌, map, drop, sym, ap, ◌∙◌, append_assoc, arith}
use Rattle.std.proofs.lemmas.List.{drop_more}
use Rattle.schema.specs.declared.slots.Slot.{Slot}
use Rattle.dir_conf.specs.IndexLines.{slots_with}
use Rattle.dir_conf.proofs.index_lines.slots_with.Goals as goal

pub loop-t-preserved : goal.loop-t-preserved
loop-t-preserved c =
    let ts = c.args.ts.now in
    let kinds = c.args.kinds.now in
    let i = c.loop-t.t-index in
    let t = c.t-item.result in
    let old = c.loop-t.slots.items in
    ap (λ (ss : List Slot). ss ++ slots_with (drop (i + 1) ts) kinds) c.in_ok-put_slots.ensures
    ∙ append_assoc old (map (λ k. record { type_id = t; kind = k }) kinds) (slots_with (drop (i + 1) ts) kinds)
    ∙ ap (λ (u : ℕ). old ++ slots_with (u ∷ drop (i + 1) ts) kinds) c.t-item.is
    ∙ ap (λ (us : List ℕ). old ++ slots_with us kinds) (sym (drop_more ts i t c.loop-t-test.true))
    ∙ c.loop-t.invariant

pub returns-in_err-put_slots : goal.returns-in_err-put_slots
returns-in_err-put_slots c = IfOk-from_err _ _ c.from_residual.ensures.0

pub returns : goal.returns
returns c = grind (arith, common_steps)

use Rattle.std.proofs.Common.{Some, None, sym, ◌∙◌}
use Rattle.reasons.proofs.DraftLemmas.{set_removed, set_written, set_pushed, set_kept, place_in}
use Rattle.reasons.proofs.draft.set_values.Goals as goal

pub returns-then-is_empty : goal.returns-then-is_empty
returns-then-is_empty c =
    let es = c.args.attrs.now.items in
    let i = c.in-Some.place in
    c.remove.ensures.by_index.2
    ∙ sym (set_removed c.args.t c.args.values es i (place_in c.args.t c.deref.result.now es c.place_of.result (Some i) c.deref.ensures.value c.in-Some.is c.place_of.ensures) (sym c.is_empty.ensures ∙ c.if-is_empty.true))

pub returns-else-is_empty : goal.returns-else-is_empty
returns-else-is_empty c =
    let es = c.args.attrs.now.items in
    let i = c.in-Some.place in
    set_written c.args.t c.args.values es i (place_in c.args.t c.deref.result.now es c.place_of.result (Some i) c.deref.ensures.value c.in-Some.is c.place_of.ensures) (sym c.is_empty.ensures ∙ c.if-is_empty.false)

pub returns-in_ok-push-in-None : goal.returns-in_ok-push-in-None
returns-in_ok-push-in-None c =
    let es = c.args.attrs.now.items in
    c.in_ok-push-in-None.ensures.items
    ∙ set_pushed c.args.t c.args.values es (place_in c.args.t c.deref.result.now es c.place_of.result None c.deref.ensures.value c.in-None.is c.place_of.ensures) (sym c.is_empty-in-None.ensures ∙ c.if-not-is_empty.true)

pub returns-else-not-is_empty : goal.returns-else-not-is_empty
returns-else-not-is_empty c =
    let es = c.args.attrs.now.items in
    set_kept c.args.t c.args.values es (place_in c.args.t c.deref.result.now es c.place_of.result None c.deref.ensures.value c.in-None.is c.place_of.ensures) (sym c.is_empty-in-None.ensures ∙ c.if-not-is_empty.false)

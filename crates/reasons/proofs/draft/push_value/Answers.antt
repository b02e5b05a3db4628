use Rattle.std.proofs.Common.{Some, None, List, ◌∷◌, [], ◌++◌, sym, ap, ◌∙◌}
use Rattle.std.specs.List.{slice_set}
use Rattle.values.specs.Values.{Value}
use Rattle.entries.specs.StoredEntries.{EntryAttribute}
use Rattle.reasons.proofs.DraftLemmas.{push_there, push_last, place_in, element_at}
use Rattle.reasons.proofs.draft.push_value.Goals as goal

pub returns-in_ok-push-in-Some : goal.returns-in_ok-push-in-Some
returns-in_ok-push-in-Some c =
    let es = c.args.attrs.now.items in
    let i = c.in-Some.place in
    let a = c.index_mut.result.now in
    let is = place_in c.args.t c.deref.result.now es c.place_of.result (Some i) c.deref.ensures.value c.in-Some.is c.place_of.ensures in
    ap (λ (vs : List Value). slice_set es i (a.0, vs)) c.in_ok-push-in-Some.ensures.ok ∙ push_there c.args.t c.args.value es i a is (element_at c.args.t es i a is ∙ ap (λ (x : EntryAttribute). Some x) (sym c.index_mut.ensures.value))

pub returns-in_ok-push-in-None : goal.returns-in_ok-push-in-None
returns-in_ok-push-in-None c =
    let es = c.args.attrs.now.items in
    c.in_ok-push-in-None.ensures.items
    ∙ ap (λ (vs : List Value). es ++ (c.args.t, vs) ∷ []) c.one.ensures
    ∙ push_last c.args.t c.args.value es (place_in c.args.t c.deref.result.now es c.place_of.result None c.deref.ensures.value c.in-None.is c.place_of.ensures)

use Rattle.std.proofs.Common.{Some, None, sym}
use Rattle.reasons.proofs.DraftLemmas.{found_there, found_nowhere, place_is, element_at}
use Rattle.reasons.proofs.draft.values_at.Goals as goal

pub returns-in-Some : goal.returns-in-Some
returns-in-Some c =
    let es = c.args.attrs.now in
    let i = c.in-Some.place in
    let there = place_is c.args.t es c.place_of.result (Some i) c.in-Some.is c.place_of.ensures in
    sym (found_there c.args.t es i there _ (element_at c.args.t es i c.index-attrs-place.result there))

pub returns-in-None : goal.returns-in-None
returns-in-None c = sym (found_nowhere c.args.t c.args.attrs.now (place_is c.args.t c.args.attrs.now c.place_of.result None c.in-None.is c.place_of.ensures))

use Rattle.std.proofs.Common.{rules, tests, ◌≡◌}
use Rattle.std.proofs.lemmas.Iterator.{YieldsList-from_slice}
use Rattle.std.proofs.lemmas.Iterator.Search.{position_from_yields_List}
use Rattle.schema.specs.Slots.{same_slot}
use Rattle.index_text.specs.Postings.{slot_in}
use Rattle.index_text.proofs.postings.slot_number.Goals as goal

place : (c : goal.After-map) → c.position.result ≡ slot_in c.args.slots.now c.args.type_id c.args.kind
place c =
    position_from_yields_List (same_slot (record { type_id = c.args.type_id; kind = c.args.kind })) _ _ c.position.result c.position.ensures.ran (YieldsList-from_slice c.args.slots.now c.iter.ensures.rest)
    (λ x b q k. search (rules, tests))

pub returns : goal.returns
returns c = let is = place c in search (rules, is)

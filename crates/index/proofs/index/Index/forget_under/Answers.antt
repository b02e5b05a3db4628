use Rattle.std.proofs.Common.{◌≡◌, ◌+◌, length, filter, get_or, sym, ap, ◌∙◌, arith}
use Rattle.std.proofs.lemmas.List.{get_or_default}
use Rattle.index.proofs.Edits.{has_number}
use Rattle.std.specs.FinMap as finite
use Rattle.index_text.specs.Indexes.{Index, members}
use Rattle.index.proofs.Forgotten.{under_counted}
use Rattle.index.proofs.index.Index.forget_under.Goals as goal

pub returns-clause-edits : goal.returns-clause-edits
returns-clause-edits c =
    under_counted c.args.slot.0 c.args.number c.args.self.now (record { conf = c.self.inside.made.value; slots = c.self.inside.sets.items; edits = c.count_holders.new.edits }) c.take_under.new.self c.index.result.now c.rows.result
    (λ p. ap (λ (x : Index). members x p) c.self.view_is)
    (
    let lens : length c.self.inside.sets.items ≡ length c.args.self.now.conf.slots = c.self.invariant.1 ∙ ap (λ (x : Index). length x.conf.slots) c.self.view_is in
    ap (λ (x : Index). get_or x.slots c.args.slot.0 finite.empty) (sym c.self.view_is)
    ∙ sym (c.index.ensures ∙ get_or_default c.self.inside.sets.items c.args.slot.0 c.index.result.now finite.empty (omega (arith, lens, c.requires)))
    )
    c.rows.ensures c.take_under.ensures.members
    (c.count_holders.ensures ∙ ap (λ (x : Index). x.edits + length (filter (has_number c.args.number) c.rows.result)) c.self.view_is)
    c.take_under.ensures.edits

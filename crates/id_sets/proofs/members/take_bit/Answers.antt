use Rattle.std.proofs.Common.{◌≡◌, [], ap, ◌∙◌}
use Rattle.id_sets.specs.inner.Walks.{ids_left}
use Rattle.id_sets.specs.Words.{set_of_words}
use Rattle.id_sets.proofs.Ids.{ids_none, ids_step}
use Rattle.id_sets.proofs.members.take_bit.Goals as goal

pub returns-in_err-id : goal.returns-in_err-id
returns-in_err-id c =
    let members = set_of_words c.args.words.now in
    let none : ids_left members c.args.from.now ≡ [] = ap (ids_left members) c.in_ok-first.was ∙ ids_none members c.in_ok-first.first c.in_err-id.ensures.next in
    rw c.from_residual-in_err-id.ensures (none, none)

pub returns : goal.returns
returns c =
    let members = set_of_words c.args.words.now in
    ap (ids_left members) c.in_ok-first.was
    ∙ ids_step members c.in_ok-first.first c.in_ok-id.id c.checked_add.result c.in_ok-id.ensures.ids c.in_ok-id.ensures.next c.checked_add.ensures

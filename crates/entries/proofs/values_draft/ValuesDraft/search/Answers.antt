use Rattle.std.proofs.Common.{◌∙◌, sym}
use Rattle.entries.proofs.LeftFrom.{all_left, all_kept, none_since}
use Rattle.entries.proofs.values_draft.ValuesDraft.search.Goals as goal

pub invariant_of-self-2 : goal.invariant_of-self-2
invariant_of-self-2 c = all_kept c.in_ok-places.places c.self.inside.values c.in_ok-places.ensures

pub returns : goal.returns
returns c =
    all_left c.in_ok-places.places.since c.self.inside.values c.in_ok-places.ensures.start
    ∙ sym (none_since c.self.inside.places c.self.inside.values (sym c.is_some.ensures ∙ c.if-is_some.false))
    ∙ c.self.view_is

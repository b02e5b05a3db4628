use Rattle.std.proofs.Common.{◌&&◌, ap, ◌∙◌}
use Rattle.std.specs.FinSet.{contains}
use Rattle.index_keys.specs.EntryKeys.{windows}
use Rattle.candidates.specs.Numbers.{numbers_contain}
use Rattle.candidates.specs.Sides.{is_member}
use Rattle.candidates.specs.inner.Held.{members_of}
use Rattle.candidates.proofs.Windows.{one_window, no_window}
use Rattle.candidates.proofs.items.with_windows.Goals as goal

pub loop-first-preserved : goal.loop-first-preserved
loop-first-preserved g c n =
    let members = members_of g.P.Set.IdSet.members in
    one_window (is_member (g.P.Postings.shown c.args.postings.now) n c.args.slot.0) (numbers_contain members c.loop-first.left n) (numbers_contain members c.in_ok-left.left n) c.in-Some.first.0.now
    (windows c.loop-first.rest.now) (windows c.in-Some.first.1.now)
    (c.in_ok-left.ensures n ∙ ap (λ s. numbers_contain members c.loop-first.left n && contains s n) c.members.ensures)
    c.in-Some.ensures.windows
    ∙ c.loop-first.invariant n

pub returns : goal.returns
returns g c n =
    no_window (is_member (g.P.Postings.shown c.args.postings.now) n c.args.slot.0) (numbers_contain (members_of g.P.Set.IdSet.members) c.loop-first.left n) (windows c.loop-first.rest.now) c.in_default.ensures.windows
    ∙ c.loop-first.invariant n

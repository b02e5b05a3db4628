use Rattle.std.proofs.Common.{List, ℕ, ◌&&◌, ap, ◌∙◌}
use Rattle.std.specs.List.{list_all}
use Rattle.index_keys.specs.EntryKeys.{windows}
use Rattle.candidates.specs.Numbers.{numbers_contain}
use Rattle.candidates.specs.Sides.{is_member, has_windows}
use Rattle.candidates.specs.inner.Held.{members_of}
use Rattle.candidates.proofs.Windows.{one_piece, no_piece}
use Rattle.candidates.proofs.items.by_windows.Goals as goal

pub loop-piece-init : goal.loop-piece-init
loop-piece-init g c n = ap (λ b. b && has_windows (g.P.Postings.shown c.args.postings.now) n c.args.slot.0 c.as_slice-piece-items.result.now) (c.all_or_none-left.ensures n)

pub loop-piece-preserved : goal.loop-piece-preserved
loop-piece-preserved g c n =
    let shown = g.P.Postings.shown c.args.postings.now in
    let pieces = c.as_slice-piece-items.result.now in
    one_piece shown n c.args.slot.0 pieces (numbers_contain (members_of g.P.Set.IdSet.members) c.loop-piece.left n) (numbers_contain (members_of g.P.Set.IdSet.members) c.in_ok-left.left n) c.piece-item.result c.loop-piece.piece-index
    c.piece-item.result c.loop-piece-test.true c.piece-item.is
    (c.in_ok-left.ensures n ∙ ap (λ (text : List ℕ). numbers_contain (members_of g.P.Set.IdSet.members) c.loop-piece.left n && list_all (is_member shown n c.args.slot.0) (windows text)) c.as_slice.ensures)
    ∙ c.loop-piece.invariant n

pub returns : goal.returns
returns g c n =
    let shown = g.P.Postings.shown c.args.postings.now in
    no_piece shown n c.args.slot.0 c.as_slice-piece-items.result.now (numbers_contain (members_of g.P.Set.IdSet.members) c.loop-piece.left n) c.loop-piece.piece-index c.loop-piece-test.false
    ∙ c.loop-piece.invariant n
    ∙ ap (has_windows shown n c.args.slot.0) c.as_slice-piece-items.ensures

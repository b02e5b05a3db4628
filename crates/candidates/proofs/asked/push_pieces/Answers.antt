use Rattle.std.proofs.Common.{ap, ◌∙◌, ℕ, List, ◌++◌, map}
use Rattle.std.proofs.lemmas.Result.{IfOk-from_err}
use Rattle.candidates.proofs.Asking.{piece_put}
use Rattle.index_keys.specs.EntryKeys.{windows}
use Rattle.index_text.specs.SlotKeys.{slot_key}
use Rattle.candidates.proofs.asked.push_pieces.Goals as goal

pub loop-piece-preserved : goal.loop-piece-preserved
loop-piece-preserved c =
    let slot = c.args.slot.0 in
    piece_put c.loop-piece.keys.items c.push_windows.new.keys.items slot c.as_slice-piece-items.result.now c.loop-piece.piece-index c.piece-item.result c.loop-piece-test.true
    (c.in_ok-push_windows.ensures ∙ ap (λ (x : List ℕ). c.loop-piece.keys.items ++ map (slot_key slot) (windows x)) (c.as_slice.ensures ∙ c.piece-item.is))
    ∙ c.loop-piece.invariant

pub returns-in_err-push_windows : goal.returns-in_err-push_windows
returns-in_err-push_windows c = IfOk-from_err _ _ c.from_residual.ensures.0

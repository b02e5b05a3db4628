use Rattle.std.proofs.Common.{[], ◌∷◌}
use Rattle.std.specs.List.{flat_map}
use Rattle.base.specs.Ascii.{line_feed}
use Rattle.base.proofs.Extended.{on_err_too}
use Rattle.index_text.specs.IndexTexts.{key_text, key_line, rank_text}
use Rattle.index_text.proofs.Putting.{then_put, none_begun, part_begun, begun_behind, begun_more}
use Rattle.index_text.proofs.writing.put_key.Goals as goal

pub returns-in_err-put_key_text-clause-kept : goal.returns-in_err-put_key_text-clause-kept
returns-in_err-put_key_text-clause-kept c = on_err_too c.from_residual.result (none_begun _ c.args.out.now.items _ c.in_err-put_key_text.ensures.kept)

pub returns-in_err-put_ranks-clause-kept : goal.returns-in_err-put_ranks-clause-kept
returns-in_err-put_ranks-clause-kept c =
    let out = c.args.out.now.items in
    on_err_too c.from_residual-in_err-put_ranks.result
    (begun_more (key_line (c.args.key.now, c.args.ranks.now)) (line_feed ∷ []) out _
    (begun_behind (key_text c.args.key.now) (flat_map rank_text c.args.ranks.now) out c.put_key_text.new.out.items _ c.in_ok-put_key_text.ensures.put c.in_err-put_ranks.ensures.kept))

pub returns-in_err-push-clause-kept : goal.returns-in_err-push-clause-kept
returns-in_err-push-clause-kept c =
    let out = c.args.out.now.items in
    on_err_too c.from_residual-in_err-push.result
    (part_begun (key_line (c.args.key.now, c.args.ranks.now)) (line_feed ∷ []) out c.put_ranks.new.out.items _
    (then_put out (key_text c.args.key.now) (flat_map rank_text c.args.ranks.now) c.in_ok-put_key_text.ensures.put c.in_ok-put_ranks.ensures.put) c.in_err-push.ensures.items)

pub returns-clause-put : goal.returns-clause-put
returns-clause-put c =
    let out = c.args.out.now.items in
    then_put out (key_line (c.args.key.now, c.args.ranks.now)) _ (then_put out (key_text c.args.key.now) (flat_map rank_text c.args.ranks.now) c.in_ok-put_key_text.ensures.put c.in_ok-put_ranks.ensures.put) c.in_ok-push.ensures.items

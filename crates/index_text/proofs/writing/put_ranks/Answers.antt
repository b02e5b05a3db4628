use Rattle.std.proofs.lemmas.List.{drop_all}
use Rattle.base.proofs.Extended.{on_err_too}
use Rattle.index_text.specs.IndexTexts.{rank_text}
use Rattle.index_text.proofs.Putting.{none_put, one_put, one_begun, all_put}
use Rattle.index_text.proofs.writing.put_ranks.Goals as goal

pub loop-rank-init : goal.loop-rank-init
loop-rank-init c = none_put rank_text c.args.ranks.now c.args.out.now.items

pub returns-in_err-put_rank-clause-kept : goal.returns-in_err-put_rank-clause-kept
returns-in_err-put_rank-clause-kept c =
    on_err_too c.from_residual.result
    (one_begun rank_text c.args.ranks.now c.loop-rank.rank-index 0 c.loop-rank-test.true c.args.out.now.items c.loop-rank.out.items c.loop-rank.invariant c.put_rank.new.out.items c.in_err-put_rank.ensures.kept)

pub loop-rank-preserved : goal.loop-rank-preserved
loop-rank-preserved c =
    one_put rank_text c.args.ranks.now c.loop-rank.rank-index 0 c.loop-rank-test.true c.args.out.now.items c.loop-rank.out.items c.loop-rank.invariant c.put_rank.new.out.items c.in_ok-put_rank.ensures.put

pub returns-clause-put : goal.returns-clause-put
returns-clause-put c =
    all_put rank_text c.args.ranks.now _ c.args.out.now.items c.loop-rank.out.items c.loop-rank.invariant (drop_all c.loop-rank.rank-index c.args.ranks.now c.loop-rank-test.false)

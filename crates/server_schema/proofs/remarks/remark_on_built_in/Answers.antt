use Rattle.std.proofs.Common.{◌∙◌, sym}
use Rattle.std.proofs.lemmas.Result.{on_ok_weaker}
use Rattle.server_schema.proofs.Gathering.{one_comment, some_comment}
use Rattle.server_schema.proofs.remarks.remark_on_built_in.Goals as goal

pub returns-clause-adds : goal.returns-clause-adds
returns-clause-adds c = on_ok_weaker c.put_comment.result (λ put. one_comment _ _ _ put) c.put_comment.ensures

pub returns-clause-none : goal.returns-clause-none
returns-clause-none c = on_ok_weaker c.put_comment.result (λ put none. absurd (some_comment _ _ (sym put ∙ none))) c.put_comment.ensures

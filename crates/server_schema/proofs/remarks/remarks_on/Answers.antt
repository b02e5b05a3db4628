use Rattle.std.proofs.Common.{◌∙◌, [], sym}
use Rattle.std.proofs.lemmas.Result.{IfOk-weaker}
use Rattle.server_schema.specs.Transfers.{no_definition}
use Rattle.server_schema.proofs.Gathering.{one_is_comments, some_comment}
use Rattle.server_schema.proofs.remarks.remarks_on.Goals as goal

pub returns-then-is_empty-clause-comments : goal.returns-then-is_empty-clause-comments
returns-then-is_empty-clause-comments c = IfOk-weaker c.none_stands.result _ _ (λ v is. one_is_comments v.items no_definition is) c.none_stands.ensures

pub returns-then-is_empty-clause-whole : goal.returns-then-is_empty-clause-whole
returns-then-is_empty-clause-whole c = IfOk-weaker c.none_stands.result _ _ (λ v is none. absurd (some_comment [] no_definition (sym is ∙ none))) c.none_stands.ensures

pub returns-then-is_empty-clause-built_in : goal.returns-then-is_empty-clause-built_in
returns-then-is_empty-clause-built_in c = IfOk-weaker c.none_stands.result _ _ (λ v is none. absurd (some_comment [] no_definition (sym is ∙ none))) c.none_stands.ensures

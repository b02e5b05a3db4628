use Rattle.std.proofs.Common.{List, ℕ, [], subst}
use Rattle.server_schema.specs.Transfers.{AddsComments}
use Rattle.server_schema.proofs.Gathering.{more_comments, are_comments, nothing_before}
use Rattle.server_schema.proofs.remarks.all_remarks.Goals as goal

pub returns-clause-comments : goal.returns-clause-comments
returns-clause-comments c =
    are_comments _ (more_comments [] _ _ (subst (λ (t : List ℕ). AddsComments t c.put_built_in.new.out.items) c.new-out.ensures.items c.in_ok-put_built_in.ensures.adds) c.in_ok-put_left.ensures.adds)

pub returns-clause-built_in : goal.returns-clause-built_in
returns-clause-built_in c = λ none. c.in_ok-put_built_in.ensures.none (nothing_before _ _ c.in_ok-put_left.ensures.adds none)

use Rattle.std.proofs.Common.{ℕ, List, subst, sym}
use Rattle.matching.specs.Differences.{Differs}
use Rattle.matching.specs.Forms.{lower}
use Rattle.matching.proofs.normal.Form.of_tidy_case.Goals as goal

pub returns-then-is_tidy : goal.returns-then-is_tidy
returns-then-is_tidy c = subst (λ (text : List ℕ). Differs c.of_case.result c.args.bytes.now (lower text)) (sym (c.is_tidy.ensures c.if-is_tidy.true)) c.of_case.ensures

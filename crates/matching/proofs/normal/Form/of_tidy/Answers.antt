use Rattle.matching.proofs.normal.Form.of_tidy.Goals as goal

pub returns-then-is_tidy : goal.returns-then-is_tidy
returns-then-is_tidy c = c.is_tidy.ensures c.if-is_tidy.true

use Rattle.checks.proofs.Told.{told_dangles, dangling_is_told}
use Rattle.checks.proofs.Once.{dangling_once}
use Rattle.checks.proofs.laws.dangling_values_are_told.Goals as goal

pub returns-clause-told : goal.returns-clause-told
returns-clause-told c = told_dangles

pub returns-clause-all : goal.returns-clause-all
returns-clause-all c = dangling_is_told

pub returns-clause-once : goal.returns-clause-once
returns-clause-once c = dangling_once

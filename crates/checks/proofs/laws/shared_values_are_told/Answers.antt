use Rattle.checks.proofs.SharedTold.{told_is_shared, shared_is_told, each_once}
use Rattle.checks.proofs.laws.shared_values_are_told.Goals as goal

pub returns-clause-told : goal.returns-clause-told
returns-clause-told c = λ types d t. told_is_shared types t d

pub returns-clause-all : goal.returns-clause-all
returns-clause-all c = λ conf d is t. shared_is_told conf d is t

pub returns-clause-once : goal.returns-clause-once
returns-clause-once c = each_once

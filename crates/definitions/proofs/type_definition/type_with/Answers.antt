use Rattle.std.proofs.Common.{arith}
use Rattle.definitions.proofs.type_definition.type_with.Goals as goal

pub returns-in_err-put_fields : goal.returns-in_err-put_fields
returns-in_err-put_fields c = grind arith

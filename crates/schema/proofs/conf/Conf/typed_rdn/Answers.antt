use Rattle.std.proofs.Common.{List, subst}
use Rattle.dn.specs.Names as names
use Rattle.values.specs.declared.types.AttributeType.{AttributeType}
use Rattle.schema.specs.Rdns.{typed_rdn}
use Rattle.schema.specs.Gives.{Gives}
use Rattle.schema.proofs.Found.{answered_is}
use Rattle.schema.proofs.conf.Conf.typed_rdn.Goals as goal

pub returns-clause-good : goal.returns-clause-good
returns-clause-good c =
    answered_is c.args.self.now.types c.args.rdn.now c.typed_rdn.result c.avas.ensures.good
    (subst (λ (n : names.Rdn). Gives (λ r. r) c.typed_rdn.result (typed_rdn c.args.self.now.types n)) c.avas.ensures.avas
    (subst (λ (ts : List AttributeType). Gives (λ r. r) c.typed_rdn.result (typed_rdn ts c.avas.result.now)) c.table.ensures c.typed_rdn.ensures.gives))

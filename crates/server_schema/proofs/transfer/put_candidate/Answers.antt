use Rattle.std.proofs.Common.{◌++◌, List, refl, sym, subst}
use Rattle.server_schema.specs.declared.taking.Candidate.{Candidate}
use Rattle.server_schema.specs.Growth.{definitions_of_all}
use Rattle.server_schema.specs.Transfers.{IsOneMore}
use Rattle.server_schema.proofs.Passing.{types_more, classes_more}
use Rattle.server_schema.proofs.Marking.{fresh_pushed}
use Rattle.server_schema.proofs.transfer.put_candidate.Goals as goal

pub returns-in_ok-push-in-AttributeType-clause-one : goal.returns-in_ok-push-in-AttributeType-clause-one
returns-in_ok-push-in-AttributeType-clause-one c =
    let ts = c.args.types.now.items in
    let cs = c.args.classes.now.items in
    subst (λ (ls : List Candidate). IsOneMore (definitions_of_all ts ++ definitions_of_all cs) c.args.definition.now (definitions_of_all ls ++ definitions_of_all cs))
    (sym c.in_ok-push-in-AttributeType.ensures.items) (types_more ts cs _)

pub returns-in_ok-push-in-ObjectClass-clause-one : goal.returns-in_ok-push-in-ObjectClass-clause-one
returns-in_ok-push-in-ObjectClass-clause-one c =
    let ts = c.args.types.now.items in
    let cs = c.args.classes.now.items in
    subst (λ (ls : List Candidate). IsOneMore (definitions_of_all ts ++ definitions_of_all cs) c.args.definition.now (definitions_of_all ts ++ definitions_of_all ls))
    (sym c.in_ok-push-in-ObjectClass.ensures.items) (classes_more ts cs _)

pub returns-in_ok-push-in-AttributeType-clause-fresh : goal.returns-in_ok-push-in-AttributeType-clause-fresh
returns-in_ok-push-in-AttributeType-clause-fresh c = λ types classes. (fresh_pushed _ _ _ c.in_ok-push-in-AttributeType.ensures.items refl types, classes)

pub returns-in_ok-push-in-ObjectClass-clause-fresh : goal.returns-in_ok-push-in-ObjectClass-clause-fresh
returns-in_ok-push-in-ObjectClass-clause-fresh c = λ types classes. (types, fresh_pushed _ _ _ c.in_ok-push-in-ObjectClass.ensures.items refl classes)

use Rattle.std.proofs.Common.{List, sym, subst}
use Rattle.std.specs.List.{IsDistinct}
use Rattle.std.proofs.lemmas.Result.{IfOk-weaker}
use Rattle.checks.specs.declared.shared_value.SharedValue.{SharedValue}
use Rattle.checks.specs.Sharing.{tell_the_same, EachIsShared, EqualsAreTold}
use Rattle.checks.proofs.sharing.find_shared.Goals as goal

pub returns-clause-told : goal.returns-clause-told
returns-clause-told c =
    let types = c.args.tree.now.conf.types in
    let d = c.args.tree.now.entries in
    IfOk-weaker c.shared_values.result _ _ (λ found is. subst (EachIsShared types d c.args.t) (sym is) (c.shared_values_are_told.ensures.told types d c.args.t)) c.shared_values.ensures

pub returns-clause-all : goal.returns-clause-all
returns-clause-all c =
    let conf = c.args.tree.now.conf in
    let d = c.args.tree.now.entries in
    IfOk-weaker c.shared_values.result _ _ (λ found is. subst (EqualsAreTold conf.types d c.args.t) (sym is) (c.shared_values_are_told.ensures.all conf d c.entries_are_a_directory.ensures c.args.t)) c.shared_values.ensures

pub returns-clause-once : goal.returns-clause-once
returns-clause-once c =
    let conf = c.args.tree.now.conf in
    let d = c.args.tree.now.entries in
    IfOk-weaker c.shared_values.result _ _ (λ found is. subst (λ (rs : List SharedValue). IsDistinct (tell_the_same conf.types c.args.t) rs) (sym is) (c.shared_values_are_told.ensures.once conf d c.entries_are_a_directory.ensures c.args.t)) c.shared_values.ensures

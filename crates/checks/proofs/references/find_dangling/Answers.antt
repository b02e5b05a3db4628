use Rattle.std.proofs.Common.{List, sym, subst}
use Rattle.std.specs.List.{IsDistinct}
use Rattle.std.proofs.lemmas.Result.{IfOk-weaker}
use Rattle.schema.specs.Conf.{Conf}
use Rattle.tree.specs.Directories.{IsDirectory}
use Rattle.checks.specs.declared.entry_value.EntryValue.{EntryValue}
use Rattle.checks.specs.EntryValues.{is_same_value}
use Rattle.checks.specs.References.{EachDangles, EachIsTold}
use Rattle.checks.proofs.references.find_dangling.Goals as goal

pub returns-clause-told : goal.returns-clause-told
returns-clause-told c =
    let conf = c.args.lent.conf.now in
    let d = c.args.lent.tree.now.entries in
    IfOk-weaker c.dangling.result _ _ (λ found is. subst (EachDangles conf d c.args.named.now) (sym is) (c.dangling_values_are_told.ensures.told conf d c.args.named.now)) c.dangling.ensures

pub returns-clause-all : goal.returns-clause-all
returns-clause-all c =
    let conf = c.args.lent.conf.now in
    let d = c.args.lent.tree.now.entries in
    IfOk-weaker c.dangling.result _ _ (λ found is. subst (EachIsTold conf d c.args.named.now) (sym is) (c.dangling_values_are_told.ensures.all conf d c.args.named.now)) c.dangling.ensures

pub returns-clause-once : goal.returns-clause-once
returns-clause-once c =
    let conf : Conf = c.args.lent.conf.now in
    let d = c.args.lent.tree.now.entries in
    let is_one = subst (λ (k : Conf). IsDirectory k d) c.args.lent.same_conf c.entries_are_a_directory.ensures in
    IfOk-weaker c.dangling.result _ _ (λ found is. subst (λ (vs : List EntryValue). IsDistinct is_same_value vs) (sym is) (c.dangling_values_are_told.ensures.once conf d is_one c.args.named.now)) c.dangling.ensures

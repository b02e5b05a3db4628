use Rattle.std.proofs.Common.{refl, sym, ap, ◌∙◌, arith, length, subst}
use Rattle.schema.specs.Conf.{Conf}
use Rattle.index.specs.KeyChanges.{AreChanges, content_in}
use Rattle.tree.specs.Trees.{Tree}
use Rattle.directory.proofs.KeptIndex.{ready, kept_same, nothing_edits, come_known, go_known, lacking, taken_back, done, there, apart_came, apart_gone, came_there, came_few, on_err}
use Rattle.directory.proofs.applying.carry_out_plan.Goals as goal

pub returns-in_default-clause-count : goal.returns-in_default-clause-count
returns-in_default-clause-count c = nothing_edits c.args.database.now.conf c.args.plan c.args.database.now.entries (sym c.in_default.is ∙ c.number.ensures)

pub insert_all-requires-clause-slots : goal.insert_all-requires-clause-slots
insert_all-requires-clause-slots c = come_known _ _ _ _ _ _ (ready c.args.database.now.conf c.args.database.now c.args.plan c.args.index.now c.in-Some.number _ _ _ _ c.requires.of c.requires.indexed c.keeps_entries.ensures (sym c.in-Some.is ∙ c.number.ensures) c.before-3.ensures.entry c.after.ensures.entry (subst (λ (k : Conf). AreChanges k (content_in c.before-3.result) (content_in c.after.result) c.in_ok-came.field-0.came.items c.in_ok-came.field-0.gone.items) c.conf.ensures c.in_ok-came.ensures)) c.args.index.now _ refl c.deref.ensures.value

pub insert_all-requires-clause-lacking : goal.insert_all-requires-clause-lacking
insert_all-requires-clause-lacking c = lacking _ _ _ _ _ _ (ready c.args.database.now.conf c.args.database.now c.args.plan c.args.index.now c.in-Some.number _ _ _ _ c.requires.of c.requires.indexed c.keeps_entries.ensures (sym c.in-Some.is ∙ c.number.ensures) c.before-3.ensures.entry c.after.ensures.entry (subst (λ (k : Conf). AreChanges k (content_in c.before-3.result) (content_in c.after.result) c.in_ok-came.field-0.came.items c.in_ok-came.field-0.gone.items) c.conf.ensures c.in_ok-came.ensures)) _ c.deref.ensures.value

pub returns-in_err-insert_all-clause-indexed : goal.returns-in_err-insert_all-clause-indexed
returns-in_err-insert_all-clause-indexed c = kept_same c.args.database.now.conf c.args.database.now c.args.database.now c.args.index.now c.insert_all.new.self refl c.requires.indexed c.insert_all.ensures.same_conf c.in_err-insert_all.ensures.err

pub remove_all-requires : goal.remove_all-requires
remove_all-requires c = come_known _ _ _ _ _ _ (ready c.args.database.now.conf c.args.database.now c.args.plan c.args.index.now c.in-Some.number _ _ _ _ c.requires.of c.requires.indexed c.keeps_entries.ensures (sym c.in-Some.is ∙ c.number.ensures) c.before-3.ensures.entry c.after.ensures.entry (subst (λ (k : Conf). AreChanges k (content_in c.before-3.result) (content_in c.after.result) c.in_ok-came.field-0.came.items c.in_ok-came.field-0.gone.items) c.conf.ensures c.in_ok-came.ensures)) c.insert_all.new.self _ c.insert_all.ensures.same_conf c.deref-in-Err.ensures.value

pub returns-in-Err-clause-indexed : goal.returns-in-Err-clause-indexed
returns-in-Err-clause-indexed c = kept_same c.args.database.now.conf c.args.database.now c.commit.new.self c.args.index.now c.remove_all.new.self c.in-Err.ensures.err c.requires.indexed (c.remove_all.ensures.same_conf ∙ c.insert_all.ensures.same_conf)
    (taken_back _ _ _ _ _ _ (ready c.args.database.now.conf c.args.database.now c.args.plan c.args.index.now c.in-Some.number _ _ _ _ c.requires.of c.requires.indexed c.keeps_entries.ensures (sym c.in-Some.is ∙ c.number.ensures) c.before-3.ensures.entry c.after.ensures.entry (subst (λ (k : Conf). AreChanges k (content_in c.before-3.result) (content_in c.after.result) c.in_ok-came.field-0.came.items c.in_ok-came.field-0.gone.items) c.conf.ensures c.in_ok-came.ensures)) c.insert_all.new.self c.remove_all.new.self _ _ c.deref.ensures.value c.deref-in-Err.ensures.value c.in_ok-insert_all.ensures.ok c.remove_all.ensures.members)

pub remove_all-requires-2 : goal.remove_all-requires-2
remove_all-requires-2 c = go_known _ _ _ _ _ _ (ready c.args.database.now.conf c.args.database.now c.args.plan c.args.index.now c.in-Some.number _ _ _ _ c.requires.of c.requires.indexed c.keeps_entries.ensures (sym c.in-Some.is ∙ c.number.ensures) c.before-3.ensures.entry c.after.ensures.entry (subst (λ (k : Conf). AreChanges k (content_in c.before-3.result) (content_in c.after.result) c.in_ok-came.field-0.came.items c.in_ok-came.field-0.gone.items) c.conf.ensures c.in_ok-came.ensures)) c.insert_all.new.self _ c.insert_all.ensures.same_conf c.deref-2.ensures.value

pub returns-clause-indexed : goal.returns-clause-indexed
returns-clause-indexed c = done _ _ _ _ _ _ (ready c.args.database.now.conf c.args.database.now c.args.plan c.args.index.now c.in-Some.number _ _ _ _ c.requires.of c.requires.indexed c.keeps_entries.ensures (sym c.in-Some.is ∙ c.number.ensures) c.before-3.ensures.entry c.after.ensures.entry (subst (λ (k : Conf). AreChanges k (content_in c.before-3.result) (content_in c.after.result) c.in_ok-came.field-0.came.items c.in_ok-came.field-0.gone.items) c.conf.ensures c.in_ok-came.ensures)) c.insert_all.new.self c.remove_all-2.new.self _ _ c.deref.ensures.value c.deref-2.ensures.value c.in_ok-insert_all.ensures.ok c.remove_all-2.ensures.members
    c.args.database.now c.commit.new.self c.requires.of (c.remove_all-2.ensures.same_conf ∙ c.insert_all.ensures.same_conf) c.in-Ok.ensures.entries c.in-Ok.ensures.numbers

pub returns-clause-edits : goal.returns-clause-edits
returns-clause-edits c =
    let gone = c.remove_all-2.ensures.all (apart_gone _ _ _ _ _ _ (ready c.args.database.now.conf c.args.database.now c.args.plan c.args.index.now c.in-Some.number _ _ _ _ c.requires.of c.requires.indexed c.keeps_entries.ensures (sym c.in-Some.is ∙ c.number.ensures) c.before-3.ensures.entry c.after.ensures.entry (subst (λ (k : Conf). AreChanges k (content_in c.before-3.result) (content_in c.after.result) c.in_ok-came.field-0.came.items c.in_ok-came.field-0.gone.items) c.conf.ensures c.in_ok-came.ensures)) _ c.deref-2.ensures.value) (there _ _ _ _ _ _ (ready c.args.database.now.conf c.args.database.now c.args.plan c.args.index.now c.in-Some.number _ _ _ _ c.requires.of c.requires.indexed c.keeps_entries.ensures (sym c.in-Some.is ∙ c.number.ensures) c.before-3.ensures.entry c.after.ensures.entry (subst (λ (k : Conf). AreChanges k (content_in c.before-3.result) (content_in c.after.result) c.in_ok-came.field-0.came.items c.in_ok-came.field-0.gone.items) c.conf.ensures c.in_ok-came.ensures)) c.insert_all.new.self _ _ c.deref.ensures.value c.deref-2.ensures.value c.in_ok-insert_all.ensures.ok) in
    let came = c.in_ok-insert_all.ensures.all in
    let a = ap length c.deref.ensures.value in
    let b = ap length c.deref-2.ensures.value in
    omega (arith, gone, came, a, b, c.len.ensures, c.len-2.ensures)

pub returns-in_err-came-clause-wanting : goal.returns-in_err-came-clause-wanting
returns-in_err-came-clause-wanting c = on_err c.from_residual.result (record { rises = omega arith; few = omega arith })

pub returns-in_err-insert_all-clause-wanting : goal.returns-in_err-insert_all-clause-wanting
returns-in_err-insert_all-clause-wanting c = on_err c.from_residual-in_err-insert_all.result
    (came_few _ _ _ _ _ _ (ready c.args.database.now.conf c.args.database.now c.args.plan c.args.index.now c.in-Some.number _ _ _ _ c.requires.of c.requires.indexed c.keeps_entries.ensures (sym c.in-Some.is ∙ c.number.ensures) c.before-3.ensures.entry c.after.ensures.entry (subst (λ (k : Conf). AreChanges k (content_in c.before-3.result) (content_in c.after.result) c.in_ok-came.field-0.came.items c.in_ok-came.field-0.gone.items) c.conf.ensures c.in_ok-came.ensures))
    _ c.args.database.now.entries c.insert_all.new.self c.deref.ensures.value (ap (λ (t : Tree). t.entries) c.requires.of) c.in_err-insert_all.ensures.refused)

pub returns-in-Err-clause-wanting : goal.returns-in-Err-clause-wanting
returns-in-Err-clause-wanting c =
    let came = c.in_ok-insert_all.ensures.all in
    let back = c.remove_all.ensures.all (apart_came _ _ _ _ _ _ (ready c.args.database.now.conf c.args.database.now c.args.plan c.args.index.now c.in-Some.number _ _ _ _ c.requires.of c.requires.indexed c.keeps_entries.ensures (sym c.in-Some.is ∙ c.number.ensures) c.before-3.ensures.entry c.after.ensures.entry (subst (λ (k : Conf). AreChanges k (content_in c.before-3.result) (content_in c.after.result) c.in_ok-came.field-0.came.items c.in_ok-came.field-0.gone.items) c.conf.ensures c.in_ok-came.ensures)) _ c.deref-in-Err.ensures.value)
    (came_there _ _ _ _ _ _ (ready c.args.database.now.conf c.args.database.now c.args.plan c.args.index.now c.in-Some.number _ _ _ _ c.requires.of c.requires.indexed c.keeps_entries.ensures (sym c.in-Some.is ∙ c.number.ensures) c.before-3.ensures.entry c.after.ensures.entry (subst (λ (k : Conf). AreChanges k (content_in c.before-3.result) (content_in c.after.result) c.in_ok-came.field-0.came.items c.in_ok-came.field-0.gone.items) c.conf.ensures c.in_ok-came.ensures)) c.insert_all.new.self _ _ c.deref.ensures.value c.deref-in-Err.ensures.value c.in_ok-insert_all.ensures.ok) in
    let a = ap length c.deref.ensures.value in
    let b = ap length c.deref-in-Err.ensures.value in
    came_few _ _ _ _ _ _ (ready c.args.database.now.conf c.args.database.now c.args.plan c.args.index.now c.in-Some.number _ _ _ _ c.requires.of c.requires.indexed c.keeps_entries.ensures (sym c.in-Some.is ∙ c.number.ensures) c.before-3.ensures.entry c.after.ensures.entry (subst (λ (k : Conf). AreChanges k (content_in c.before-3.result) (content_in c.after.result) c.in_ok-came.field-0.came.items c.in_ok-came.field-0.gone.items) c.conf.ensures c.in_ok-came.ensures))
    _ c.args.database.now.entries c.remove_all.new.self c.deref.ensures.value (ap (λ (t : Tree). t.entries) c.requires.of) (record { rises = omega (arith, came, back); few = omega (arith, came, back, a, b) })

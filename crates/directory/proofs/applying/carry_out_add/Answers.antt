use Rattle.std.proofs.Common.{ℕ, ◌*◌, refl, subst, ◌∙◌}
use Rattle.schema.specs.Conf.{Conf}
use Rattle.index.specs.Edits.{RisesUpTo}
use Rattle.index.specs.Indexes.{Inserts}
use Rattle.index.specs.KeyChanges.{content_in}
use Rattle.index_keys.specs.EntryKeys.{slot_keys_in}
use Rattle.std.specs.FinSet as set
use Rattle.directory.proofs.KeptIndex.{kept_same, nowhere_yet, never_came, came_and_went, added, new_edits, on_err, all_taken_back}
use Rattle.directory.proofs.applying.carry_out_add.Goals as goal

pub insert_stored-requires-clause-nowhere : goal.insert_stored-requires-clause-nowhere
insert_stored-requires-clause-nowhere c = nowhere_yet c.args.database.now.conf c.args.database.now c.args.plan c.args.index.now c.args.number c.requires.of c.requires.indexed c.keeps_entries.ensures c.requires.number c.requires.new

pub returns-in_err-count-clause-indexed : goal.returns-in_err-count-clause-indexed
returns-in_err-count-clause-indexed c = kept_same c.args.database.now.conf c.args.database.now c.args.database.now c.args.index.now c.insert_stored.new.index refl c.requires.indexed c.insert_stored.ensures.same_conf
    (never_came c.args.number c.args.index.now c.insert_stored.new.index (nowhere_yet c.args.database.now.conf c.args.database.now c.args.plan c.args.index.now c.args.number c.requires.of c.requires.indexed c.keeps_entries.ensures c.requires.number c.requires.new) c.in_err-count.ensures.err)

pub returns-in_err-count-clause-wanting : goal.returns-in_err-count-clause-wanting
returns-in_err-count-clause-wanting c = on_err c.from_residual.result
    (subst (λ (n : ℕ). RisesUpTo (2 * n) c.args.index.now c.insert_stored.new.index)
    (new_edits c.args.database.now.conf c.conf.result.now c.args.database.now c.args.plan (content_in c.after.result) c.conf.ensures c.requires.of c.requires.new c.after.ensures.entry)
    c.in_err-count.ensures.wanting)

pub returns-in-Ok-clause-indexed : goal.returns-in-Ok-clause-indexed
returns-in-Ok-clause-indexed c = added c.args.database.now.conf c.args.database.now c.commit.new.self c.args.plan c.args.index.now c.insert_stored.new.index c.args.number (content_in c.after.result) c.requires.of c.requires.indexed c.keeps_entries.ensures c.requires.number c.requires.new
    c.after.ensures.entry (subst (λ (k : Conf). Inserts (set.contains (slot_keys_in k (content_in c.after.result))) c.args.number c.args.index.now c.insert_stored.new.index) c.conf.ensures c.in_ok-count.ensures.ok)
    c.insert_stored.ensures.same_conf c.in-Ok.ensures.entries c.in-Ok.ensures.numbers

pub returns-in-Ok-clause-count : goal.returns-in-Ok-clause-count
returns-in-Ok-clause-count c = c.in_ok-count.ensures.count ∙ new_edits c.args.database.now.conf c.conf.result.now c.args.database.now c.args.plan (content_in c.after.result) c.conf.ensures c.requires.of c.requires.new c.after.ensures.entry

pub returns-in-Err-clause-indexed : goal.returns-in-Err-clause-indexed
returns-in-Err-clause-indexed c = kept_same c.args.database.now.conf c.args.database.now c.commit.new.self c.args.index.now c.forget.new.self c.in-Err.ensures.err c.requires.indexed (c.forget.ensures.same_conf ∙ c.insert_stored.ensures.same_conf)
    (came_and_went c.args.number _ c.args.index.now c.insert_stored.new.index (nowhere_yet c.args.database.now.conf c.args.database.now c.args.plan c.args.index.now c.args.number c.requires.of c.requires.indexed c.keeps_entries.ensures c.requires.number c.requires.new) c.in_ok-count.ensures.ok c.forget.new.self c.forget.ensures.members)

pub returns-in-Err-clause-wanting : goal.returns-in-Err-clause-wanting
returns-in-Err-clause-wanting c =
    subst (λ (n : ℕ). RisesUpTo (2 * n) c.args.index.now c.forget.new.self)
    (new_edits c.args.database.now.conf c.conf.result.now c.args.database.now c.args.plan (content_in c.after.result) c.conf.ensures c.requires.of c.requires.new c.after.ensures.entry)
    (all_taken_back c.conf.result.now (content_in c.after.result) c.args.number c.args.index.now c.insert_stored.new.index c.forget.new.self
    (nowhere_yet c.args.database.now.conf c.args.database.now c.args.plan c.args.index.now c.args.number c.requires.of c.requires.indexed c.keeps_entries.ensures c.requires.number c.requires.new)
    c.in_ok-count.ensures.ok c.in_ok-count.ensures.counted c.forget.ensures.members c.forget.ensures.edits)

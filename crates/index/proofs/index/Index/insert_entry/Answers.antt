use Rattle.std.proofs.Common.{◌∙◌}
use Rattle.entries.specs.StoredEntries.{content_of}
use Rattle.index.proofs.Counted.{none_has_number, all_counted, others_left, taken_back}
use Rattle.index.proofs.index.Index.insert_entry.Goals as goal

pub returns-in-Ok-clause-count : goal.returns-in-Ok-clause-count
returns-in-Ok-clause-count c = λ nowhere. all_counted c.args.conf.now (content_of c.args.entry.now) c.args.self.now c.insert_keys.new.self c.args.number c.in-Ok.count c.in-Ok.ensures.ok nowhere (c.in-Ok.ensures.count (none_has_number c.args.self.now c.args.number nowhere))

pub returns-in-Err-clause-err : goal.returns-in-Err-clause-err
returns-in-Err-clause-err c = λ p. c.forget.ensures.members p ∙ others_left _ c.args.number c.args.self.now c.insert_keys.new.self c.in-Err.ensures.err p

pub returns-in-Err-clause-refused : goal.returns-in-Err-clause-refused
returns-in-Err-clause-refused c = λ nowhere.
    taken_back c.args.conf.now (content_of c.args.entry.now) c.args.number c.args.self.now c.insert_keys.new.self c.forget.new.self nowhere c.in-Err.ensures.err c.insert_keys.ensures.counted c.forget.ensures.members c.forget.ensures.edits

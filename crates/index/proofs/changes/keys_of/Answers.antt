use Rattle.entries.specs.StoredEntries.{content_of}
use Rattle.index.proofs.Changed.{all_come}
use Rattle.index.proofs.changes.keys_of.Goals as goal

pub returns-clause-exact : goal.returns-clause-exact
returns-clause-exact c = all_come c.args.conf.now (content_of c.args.entry.now) c.in_ok-came.field-0.came.items c.in_ok-came.ensures.come

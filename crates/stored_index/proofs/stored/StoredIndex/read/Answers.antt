use Rattle.stored_index.proofs.KeptLaws.{as_whole}
use Rattle.stored_index.proofs.stored.StoredIndex.read.Goals as goal

pub returns-clause-ok : goal.returns-clause-ok
returns-clause-ok g c = as_whole c.args.conf.now c.args.entries c.args.stamp.now (g.S.Source.seen c.args.source.now).left c.read_kept.result c.read_kept.ensures.conf c.read_kept.ensures.ok

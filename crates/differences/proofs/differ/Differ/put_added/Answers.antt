use Rattle.std.proofs.Common.{subst}
use Rattle.entries.specs.StoredEntries.{content_of}
use Rattle.schema.specs.Conf.{Conf}
use Rattle.differences.specs.inner.LentAttributes.{AreStoredKnown}
use Rattle.differences.proofs.StoredTypes.{stored_known}
use Rattle.differences.proofs.differ.Differ.put_added.Goals as goal

pub put_add-requires : goal.put_add-requires
put_add-requires c =
    let attrs = c.args.entry.now.attrs in
    let good = c.entries_are_a_directory.ensures.good c.args.path.now (content_of c.args.entry.now) c.requires.there in
    subst (λ (conf : Conf). AreStoredKnown conf.types attrs) c.args.self.now.after_conf (stored_known c.args.self.now.after.now.conf.types attrs good.attrs)

use Rattle.std.proofs.Common.{subst}
use Rattle.schema.specs.Conf.{Conf}
use Rattle.entries.specs.StoredEntries.{content_of}
use Rattle.tree.specs.Directories.{IsDirectory}
use Rattle.differences.proofs.LeftAttributes.{good_at}
use Rattle.differences.proofs.differ.Differ.obstacle.Goals as goal

pub unfit-requires-clause-first : goal.unfit-requires-clause-first
unfit-requires-clause-first c =
    let self = c.args.self.now in
    let a = self.before.now.entries in
    good_at self.conf.now a (subst (λ (k : Conf). IsDirectory k a) self.before_conf c.entries_are_a_directory.ensures) c.args.path.now c.get-before.result c.get-before.ensures.entry

pub unfit-requires-clause-second : goal.unfit-requires-clause-second
unfit-requires-clause-second c =
    let self = c.args.self.now in
    let b = self.after.now.entries in
    let directory : IsDirectory self.conf.now b = subst (λ (k : Conf). IsDirectory k b) self.after_conf c.entries_are_a_directory-2.ensures in
    directory.good c.args.path.now (content_of c.args.after.now) c.requires.there

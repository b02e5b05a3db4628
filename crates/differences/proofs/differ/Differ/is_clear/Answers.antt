use Rattle.std.proofs.Common.{subst}
use Rattle.schema.specs.Conf.{Conf}
use Rattle.tree.specs.Directories.{IsDirectory}
use Rattle.differences.specs.inner.Walks.{extent_in}
use Rattle.differences.proofs.Hindered.{all_clear}
use Rattle.differences.proofs.differ.Differ.is_clear.Goals as goal

pub returns-then-compares_all : goal.returns-then-compares_all
returns-then-compares_all c = λ asks.
    let self = c.args.self.now in
    let b = self.after.now.entries in
    all_clear self.conf.now c.rules_are_kept.ensures (c.asks_no_fixed.ensures asks) (extent_in self) (c.compares_all.ensures c.if-compares_all.true) self.before.now.entries b
    (subst (λ (k : Conf). IsDirectory k b) self.after_conf c.entries_are_a_directory.ensures)

use Rattle.std.proofs.Common.{rules}
use Rattle.std.proofs.lemmas.List.Sorted.{IsPartitionPoint-from_clause}
use Rattle.databases.proofs.FromBase.{before_falls}
use Rattle.databases.specs.inner.Picks.{comes_before}
use Rattle.databases.proofs.Points.{parted}
use Rattle.databases.proofs.entries_by_rank.count_before.Goals as goal

pub returns-clause-point : goal.returns-clause-point
returns-clause-point c =
    IsPartitionPoint-from_clause (comes_before c.args.path.now) c.args.entries.now c.partition_point.result c.partition_point.ensures.partitioned
    (parted (comes_before c.args.path.now) c.args.entries.now (before_falls c.args.path.now c.args.entries.now c.requires)) (λ a r f called. (search rules, search rules))

use Rattle.std.proofs.Common.{rules}
use Rattle.std.proofs.lemmas.List.Sorted.{IsPartitionPoint-from_clause}
use Rattle.databases.proofs.FromBase.{begun_falls}
use Rattle.databases.specs.inner.Picks.{is_begun}
use Rattle.databases.proofs.Points.{parted}
use Rattle.databases.proofs.entries_by_rank.count_begun.Goals as goal

pub returns-clause-point : goal.returns-clause-point
returns-clause-point c =
    IsPartitionPoint-from_clause (is_begun c.args.base.now) c.args.entries.now c.partition_point.result c.partition_point.ensures.partitioned
    (parted (is_begun c.args.base.now) c.args.entries.now (begun_falls c.args.base.now c.args.entries.now c.requires.rising c.requires.from)) (λ a r f called. (search rules, search rules))

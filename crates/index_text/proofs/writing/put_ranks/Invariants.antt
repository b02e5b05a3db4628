use Rattle.std.proofs.Common.{drop}
use Rattle.index_text.specs.IndexTexts.{rank_text}
use Rattle.index_text.proofs.Putting.{ArePut}
use Rattle.index_text.proofs.writing.put_ranks.Given as goal

abbrev pub invariant-loop-rank : goal.invariant-loop-rank
invariant-loop-rank l = ArePut rank_text l.ranks (drop l.rank-index l.ranks) l.fn.out.items l.out.items

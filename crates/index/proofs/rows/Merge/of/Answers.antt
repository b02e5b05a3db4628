use Rattle.std.proofs.Common.{sym}
use Rattle.index.specs.inner.MergedRows.{merged}
use Rattle.index.proofs.Merged.{taken}
use Rattle.index.proofs.rows.Merge.of.Goals as goal

pub returns : goal.returns
returns g c =
    let first = taken (g.L.Rows.rows c.args.rows) c.next_row-row.result (g.L.Rows.rows c.next_row-row.new.self) c.next_row-row.ensures in
    let second = taken (g.R.Rows.rows c.args.others) c.next_row-other.result (g.R.Rows.rows c.next_row-other.new.self) c.next_row-other.ensures in
    sym (λ i. merged (first i) (second i))

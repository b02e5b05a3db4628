use Rattle.std.proofs.Common.{ap, arith}
use Rattle.std.specs.Prelude.{Result, Ok}
use Rattle.base.specs.Answers.{◌>>=◌}
use Rattle.index_text.specs.IndexTexts.{Rows}
use Rattle.stored_index.specs.Stored.{stored}
use Rattle.stored_index.specs.declared.fault.IndexFaultKind.{IndexFaultKind}
use Rattle.std.specs.FinMap as finite
use Rattle.databases.specs.IndexTexts.{index_rows, index_text, stamp}
use Rattle.databases.proofs.StoredRows.{are_rows, shows}
use Rattle.databases.proofs.laws.kept_index_texts_are_read.Goals as goal

pub returns-clause-read : goal.returns-clause-read
unfolding index_text
returns-clause-read c = λ conf d good directory long bytes.
    let few = directory.few in
    ap (λ (r : Result Rows IndexFaultKind). r >>= λ rows. Ok (stored conf rows))
    (c.written_texts_are_read.ensures conf (finite.len d) (stamp conf d) (index_rows conf d) good (omega (arith, few)) long bytes (are_rows conf d good directory))

pub returns-clause-shows : goal.returns-clause-shows
returns-clause-shows c = shows

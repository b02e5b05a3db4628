use Rattle.std.proofs.Common.{◌≡◌, ◌≤◌}
use Rattle.ldif_lines.specs.Reader.{source_of, loan_of}
use Rattle.reading_tests.proofs.readers.answers.Given as goal

abbrev pub invariant-calls : goal.invariant-calls
invariant-calls g l = record {
  failures : (g.S.Source.seen (source_of l.reader)).failed ≤ l._call;
  same_loan : loan_of l.reader ≡ loan_of l.fn.reader;
  few : l.ended ≤ 3;
}

use Rattle.std.proofs.Common.{◌≡◌, [], drop}
use Rattle.entries.specs.Entries.{add_lines}
use Rattle.entries.specs.StoredEntries.{attributes_of, IsMade}
use Rattle.entries.specs.inner.StoredEntries.{HasNorms}
use Rattle.entries.proofs.attributes.attributes_of_lines.Given as goal

abbrev pub invariant-loop-line : goal.invariant-loop-line
invariant-loop-line l = record {
  made : IsMade l.conf.types l.attrs.entries;
  norms : HasNorms l.norms l.attrs.entries;
  rest : add_lines l.fn.mode l.conf.types (attributes_of l.attrs.entries) (drop l.line-index l.lines) ≡ add_lines l.fn.mode l.conf.types [] l.lines;
}

use Rattle.std.proofs.Common.{length}
use Rattle.reading_tests.proofs.readers.push_lines.Given as goal

abbrev pub decreases-lines : goal.decreases-lines
decreases-lines l = length l.rest

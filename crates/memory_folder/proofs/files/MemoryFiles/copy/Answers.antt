use Rattle.std.proofs.Common.{ap}
use Rattle.std.specs.FinMap as finite
use Rattle.memory_folder.proofs.Seen.{cloned}
use Rattle.memory_folder.proofs.files.MemoryFiles.copy.Goals as goal

pub returns : goal.returns
returns c = ap finite.from_entries (cloned c.args.self.now.files.entries c.in_ok-clone.field-0.entries c.in_ok-clone.ensures.cases)

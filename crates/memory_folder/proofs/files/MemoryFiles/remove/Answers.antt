use Rattle.memory_folder.proofs.Seen.{removed}
use Rattle.memory_folder.proofs.files.MemoryFiles.remove.Goals as goal

pub returns : goal.returns
returns c = removed _ c.args.self.now.files c.remove.new.self c.remove.ensures.updates

use Rattle.memory_folder.proofs.Seen.{inserted}
use Rattle.memory_folder.proofs.files.MemoryFiles.put.Goals as goal

pub returns-in-Ok-clause-ok : goal.returns-in-Ok-clause-ok
returns-in-Ok-clause-ok c =
    inserted c.in_ok-name.name c.in_ok-bytes.bytes c.args.self.now.files c.insert.new.self _ _ c.in-Ok.ensures.updates c.in_ok-name.ensures.ok c.in_ok-bytes.ensures.items

use Rattle.memory_folder.proofs.Seen.{got_some, got_none}
use Rattle.memory_folder.proofs.files.MemoryFiles.get.Goals as goal

pub returns-in-Some : goal.returns-in-Some
returns-in-Some c = got_some _ c.args.self.now.files _ _ c.in-Some.ensures.value c.as_slice.ensures.value

pub returns-in-None : goal.returns-in-None
returns-in-None c = got_none _ c.args.self.now.files c.in-None.ensures.value

use Rattle.std.proofs.Common.{rules}
use Rattle.memory_folder.proofs.Seen.{appended_some, appended_none}
use Rattle.memory_folder.proofs.files.MemoryFiles.append.Goals as goal

pub returns-in-Some : goal.returns-in-Some
returns-in-Some c =
    let written = c.get_mut.follows.holds c.extend_from_slice.new.self in
    let e =
    appended_some c.args.name.now c.args.bytes.now c.args.self.now.files (c.get_mut.follows.lender c.extend_from_slice.new.self) c.in-Some.file.now c.extend_from_slice.new.self c.extend_from_slice.result c.in-Some.ensures.value (written.3 (search rules))
    c.extend_from_slice.ensures.items in
    record { ok = e.0; err = e.1 }

pub returns-in-None-clause-ok : goal.returns-in-None-clause-ok
returns-in-None-clause-ok c = appended_none c.args.name.now c.args.bytes.now c.args.self.now.files c.get_mut.follows.lender-at-none c.in-None.ensures.value c.get_mut.follows.holds-at-none

use Rattle.std.proofs.Common.{[]}
use Rattle.commands.specs.Stored.{index_file}
use Rattle.commands.proofs.StoredFiles.{memory_fails}
use Rattle.commands.proofs.storing.store_index.Goals as goal

pub returns-in-Err-clause-err : goal.returns-in-Err-clause-err
returns-in-Err-clause-err g c = memory_fails (index_file c.args.db.now c.args.database.now.conf c.args.database.now.entries) [] _ _ tt

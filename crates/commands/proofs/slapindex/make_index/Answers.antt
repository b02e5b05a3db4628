use Rattle.commands.proofs.Indexing.{not_loaded, indexed, not_indexed}
use Rattle.commands.proofs.slapindex.make_index.Goals as goal

pub returns-in-Ok-stored-clause-ends : goal.returns-in-Ok-stored-clause-ends
returns-in-Ok-stored-clause-ends g c = λ w. indexed c.args.asked.now (record w { files = g.F.Folder.files c.args.folder.now }) _ _ _ c.in-Ok.ensures.loaded c.in-Ok-stored.ensures.ok

pub returns-in-Err-stored-clause-ends : goal.returns-in-Err-stored-clause-ends
returns-in-Err-stored-clause-ends g c = λ w. not_indexed c.args.asked.now (record w { files = g.F.Folder.files c.args.folder.now }) _ _ _ _ c.in-Ok.ensures.loaded c.in-Err-stored.ensures.err

pub returns-in-Err-clause-ends : goal.returns-in-Err-clause-ends
returns-in-Err-clause-ends g c = λ w. not_loaded c.args.asked.now (record w { files = g.F.Folder.files c.args.folder.now }) _ c.in-Err.ensures.err

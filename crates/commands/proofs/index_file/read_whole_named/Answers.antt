use Rattle.std.proofs.Common.{None, refl}
use Rattle.std.proofs.lemmas.Result.{IfOk-weaker}
use Rattle.commands.proofs.IndexTold.{named_so}
use Rattle.commands.proofs.Loading.{opened_so, missing_so}
use Rattle.commands.proofs.index_file.read_whole_named.Goals as goal

pub returns-in-Ok-Some-clause-read : goal.returns-in-Ok-Some-clause-read
returns-in-Ok-Some-clause-read g c =
    let files = g.F.Folder.files c.args.folder.now in
    IfOk-weaker c.read_all_keys.result _ _
    (λ file reads db is. reads files db (named_so files db _ _ is (opened_so files _ _ _ _ c.in-Ok-Some.ensures.finds c.in-Ok-Some.field-0-is)))
    c.read_all_keys.ensures.read

pub returns-in-Ok-None-clause-read : goal.returns-in-Ok-None-clause-read
returns-in-Ok-None-clause-read g c = λ db is.
    let files = g.F.Folder.files c.args.folder.now in
    let d = c.args.database.now in
    record {
      said = None;
      in_file = record { text = None; there = named_so files db _ _ is (missing_so files _ _ _ c.in-Ok-None.ensures.finds c.in-Ok-None.field-0-is); says = refl };
      kept = refl;
    }

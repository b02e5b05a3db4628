use Rattle.std.proofs.Common.{inl, subst}
use Rattle.std.proofs.lemmas.Result.{IfOk-weaker}
use Rattle.commands.specs.inner.IndexFiles.{IsWhole}
use Rattle.commands.specs.declared.index_file.IndexFile.{IndexFile}
use Rattle.commands.proofs.IndexTold.{none_whole, faulty_whole}
use Rattle.commands.proofs.listing.index_for_all.Goals as goal

pub returns-in-Read : goal.returns-in-Read
returns-in-Read c = λ said whole. inl (subst (λ (file : IndexFile). IsWhole c.args.database.now file said) c.in-Read.is whole)

pub returns-in-Faulty : goal.returns-in-Faulty
returns-in-Faulty c = IfOk-weaker c.own_index.result _ _ (λ index serves said whole. serves said (faulty_whole c.in-Faulty.field-0 said (subst (λ (file : IndexFile). IsWhole c.args.database.now file said) c.in-Faulty.is whole))) c.own_index.ensures

pub returns-in-Missing : goal.returns-in-Missing
returns-in-Missing c = IfOk-weaker c.own_index-in-Missing.result _ _ (λ index serves said whole. serves said (none_whole said (subst (λ (file : IndexFile). IsWhole c.args.database.now file said) c.in-Missing.is whole))) c.own_index-in-Missing.ensures

use Rattle.std.proofs.Common.{ℕ, List}
use Rattle.std.proofs.lemmas.Result.{err_from_is_err_and}
use Rattle.base.specs.Answers.{Fails}
use Rattle.stored_index.specs.Gives.{fault_of}
use Rattle.stored_index.specs.Stored.{index_in}
use Rattle.stored_index.specs.declared.fault.IndexFault.TheVariants as faults
use Rattle.stored_index.proofs.KeptLaws.{as_asked}
use Rattle.stored_index.proofs.TextLemmas.{some_text}
use Rattle.stored_index.proofs.stored.StoredIndex.read_asked.Goals as goal

pub returns-in_err-asked-clause-err : goal.returns-in_err-asked-clause-err
returns-in_err-asked-clause-err g c =
    let p = err_from_is_err_and c.from_residual.result c.from_residual.ensures.1 in
    rw (p.1, p.2)
    (some_text (g.S.Source.seen c.args.source.now).left (λ (text : List ℕ). Fails (fault_of faults.OutOfMemory) (index_in c.args.conf.now c.args.entries c.args.stamp.now text)) (λ text. tt))

pub returns-clause-ok : goal.returns-clause-ok
returns-clause-ok g c =
    as_asked c.args.conf.now c.args.entries c.args.stamp.now (g.S.Source.seen c.args.source.now).left c.in_ok-asked.asked c.args.asked.now c.in_ok-asked.ensures c.read_kept.result c.read_kept.ensures.conf
    c.read_kept.ensures.ok

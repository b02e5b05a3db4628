use Rattle.std.proofs.Common.{◌≡◌, refl}
use Rattle.std.specs.Prelude.{Result, Err}
use Rattle.tree.specs.Trees.{Tree}
use Rattle.databases.specs.declared.loading.LoadFault.{LoadFault}
use Rattle.databases.specs.declared.loading.LoadFault.TheVariants as load_faults
use Rattle.databases.proofs.LoadedRecords.{read_by, says_nothing, failed_so, not_writing}
use Rattle.databases.proofs.loading.load_tree_telling.Goals as goal

abbrev fails : LoadFault → Result Tree LoadFault
fails f = Err f

of_err : (f : LoadFault) → fails f ≡ fails load_faults.Read → f ≡ load_faults.Read
of_err f is = cc

pub load_fault_of-requires : goal.load_fault_of-requires
load_fault_of-requires g c = not_writing c.in-Err.fault _ _ _ _ refl c.in-Err.ensures.failures

pub returns-in-Err-clause-stops : goal.returns-in-Err-clause-stops
returns-in-Err-clause-stops g c = says_nothing _ _ _ c.in-Err.fault c.load_fault_of.result c.load_fault_of.ensures

pub returns-in-Err-clause-read : goal.returns-in-Err-clause-read
returns-in-Err-clause-read g c = λ is.
    read_by c.args.conf.now c.new-tree.result.conf c.new-tree.result.entries c.new-tree.ensures.same_conf c.new-tree.ensures.empty c.in-Err.fault c.load_fault_of.result c.load_fault_of.ensures _ _ _ _ _ c.in-Err.ensures.read
    (of_err c.load_fault_of.result is)

pub returns-in-Err-clause-failures : goal.returns-in-Err-clause-failures
returns-in-Err-clause-failures g c = failed_so Tree c.in-Err.fault c.load_fault_of.result c.load_fault_of.ensures _ _ _ _ refl c.in-Err.ensures.failures

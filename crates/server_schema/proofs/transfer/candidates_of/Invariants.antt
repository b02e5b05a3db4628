use Rattle.std.proofs.Common.{◌++◌, false, take}
use Rattle.dir_conf.specs.inner.Views.{defined_view}
use Rattle.server_schema.specs.Growth.{AreMarked, definitions_of_all}
use Rattle.server_schema.specs.Transfers.{Gathers}
use Rattle.server_schema.proofs.transfer.candidates_of.Given as goal

abbrev pub invariant-loop-definition : goal.invariant-loop-definition
invariant-loop-definition l = record {
  gathers : Gathers (defined_view l.defined) l.stated (take l.definition-index l.definitions) (definitions_of_all l.types.items ++ definitions_of_all l.classes.items);
  types : AreMarked false l.types.items;
  classes : AreMarked false l.classes.items;
}

use Rattle.std.proofs.Common.{◌≡◌, [], take}
use Rattle.dir_conf.specs.inner.Views.{defined_view}
use Rattle.server_schema.specs.Transfers.{AddsComments}
use Rattle.server_schema.proofs.Gathering.{SayThese}
use Rattle.server_schema.proofs.remarks.put_built_in.Given as goal

abbrev pub invariant-loop-definition : goal.invariant-loop-definition
invariant-loop-definition l = record {
  adds : AddsComments l.fn.out.items l.out.items;
  none : l.out.items ≡ [] → SayThese (defined_view l.defined) l.meanings.items (take l.definition-index l.definitions);
}

use Rattle.std.proofs.Common.{◌≡◌, [], take}
use Rattle.dir_conf.specs.inner.Views.{defined_view}
use Rattle.server_schema.specs.Transfers.{AddsComments, NeedNoRemark}
use Rattle.server_schema.proofs.remarks.put_left.Given as goal

abbrev pub invariant-loop-candidate : goal.invariant-loop-candidate
invariant-loop-candidate l = record {
  adds : AddsComments l.fn.out.items l.out.items;
  none : l.out.items ≡ [] → NeedNoRemark (defined_view l.defined) l.stated.items (take l.candidate-index l.left);
}

use Rattle.std.proofs.Common.{◌≡◌, drop}
use Rattle.base.specs.Answers.{through}
use Rattle.entries.specs.StoredEntries.{attributes_of, IsMade}
use Rattle.entries.specs.Modifies.{modify_block}
use Rattle.entries.proofs.modifies.modify.Given as goal

abbrev pub invariant-loop-block : goal.invariant-loop-block
invariant-loop-block l = record {
  made : IsMade l.conf.types l.attrs;
  rest : through (modify_block l.conf.types) (attributes_of l.attrs) (drop l.block-index l.mods) ≡ through (modify_block l.conf.types) (attributes_of l.fn.attrs) l.mods;
}

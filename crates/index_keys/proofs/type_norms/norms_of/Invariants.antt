use Rattle.std.proofs.Common.{take}
use Rattle.index_keys.specs.TypeNorms.{AreNormsOf}
use Rattle.index_keys.proofs.type_norms.norms_of.Given as goal

abbrev pub invariant-loop-numbered : goal.invariant-loop-numbered
invariant-loop-numbered l = record { so_far : AreNormsOf l.conf.types (take l.numbered-index l.entries) l.type_id l.all.items }

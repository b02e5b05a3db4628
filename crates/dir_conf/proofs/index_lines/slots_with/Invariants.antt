use Rattle.std.proofs.Common.{◌≡◌, ◌++◌, drop}
use Rattle.dir_conf.specs.IndexLines.{slots_with}
use Rattle.dir_conf.proofs.index_lines.slots_with.Given as goal

abbrev pub invariant-loop-t : goal.invariant-loop-t
invariant-loop-t l = l.slots.items ++ slots_with (drop l.t-index l.ts) l.kinds ≡ slots_with l.ts l.kinds

use Rattle.std.proofs.Common.{◌≡◌, false, drop}
use Rattle.sentences.proofs.Parents.{behind}
use Rattle.sentences.proofs.names.parent_text.Given as goal

abbrev pub invariant-loop-at : goal.invariant-loop-at
invariant-loop-at l = behind l.escaped (drop l.at l.name) ≡ behind false l.name

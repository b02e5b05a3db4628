use Rattle.std.proofs.Common.{◌≡◌, ◌+◌, ◌-◌, ◌∙◌, length, take, drop, arith}
use Rattle.std.proofs.lemmas.Grind.{common_steps}
use Rattle.sentences.proofs.Parents.{parent_none, parent_there}
use Rattle.sentences.proofs.names.parent_text.Goals as goal

pub returns-then-not-escaped : goal.returns-then-not-escaped
returns-then-not-escaped c =
    let all : take (length c.args.name.now - (c.loop-at.at + 1)) (drop (c.loop-at.at + 1) c.args.name.now) ≡ drop (c.loop-at.at + 1) c.args.name.now =
    grind (arith, common_steps) in
    all ∙ parent_there c.loop-at.escaped c.args.name.now c.loop-at.at (omega arith) c.if-byte-eq44.true c.if-not-escaped.true c.loop-at.invariant

pub returns : goal.returns
returns c = parent_none c.loop-at.escaped c.args.name.now c.loop-at.at (omega arith) c.loop-at.invariant

use Rattle.std.proofs.Common.{ap, take, length, ◌∙◌, ◌+◌}
use Rattle.std.proofs.lemmas.List.{take-take}
use Rattle.dn.proofs.Joined.{front_holds}
use Rattle.dn.proofs.text.few_of.Goals as goal

pub returns-in-Some : goal.returns-in-Some
returns-in-Some c =
    let n = length c.args.type_text.now + 1 + length c.args.value.now in
    ap (take n) c.in-Some.ensures.cases.same ∙ take-take n 24 c.args.text.now c.requires.few
    ∙ front_holds c.args.text.now c.args.type_text.now c.args.value.now c.args.end c.requires.text c.if-end-type_text.true

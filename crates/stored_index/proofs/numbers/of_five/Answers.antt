use Rattle.std.proofs.Common.{◌<◌, arith}
use Rattle.std.proofs.lemmas.Bool.Decides.{nat_tests}
use Rattle.stored_index.proofs.NumberCuts.{five_digits}
use Rattle.stored_index.proofs.numbers.of_five.Goals as goal

pub returns-then-a-b-clause-number : goal.returns-then-a-b-clause-number
returns-then-a-b-clause-number c =
    let v : c.worth-a.result < 10 = grind (arith, nat_tests) in
    let w : c.worth-b.result < 10 = grind (arith, nat_tests) in
    let x : c.worth-c.result < 10 = grind (arith, nat_tests) in
    let y : c.worth-d.result < 10 = grind (arith, nat_tests) in
    let z : c.worth-e.result < 10 = grind (arith, nat_tests) in
    five_digits c.args.a c.args.b c.args.c c.args.d c.args.e c.worth-a.result c.worth-b.result c.worth-c.result c.worth-d.result c.worth-e.result
    (c.worth-a.ensures.digit v) (c.worth-b.ensures.digit w) (c.worth-c.ensures.digit x) (c.worth-d.ensures.digit y) (c.worth-e.ensures.digit z)

use Rattle.std.proofs.Common.{refl, sym, ap, length, ◌∙◌, arith}
use Rattle.candidates.specs.Numbers.{numbers_contain}
use Rattle.databases.proofs.Picks.{first_picked, none_picked}
use Rattle.databases.proofs.picked.PickedEntriesIterator.next.Goals as goal

pub returns-in-Some-clause-steps : goal.returns-in-Some-clause-steps
returns-in-Some-clause-steps g c =
    sym c.self.view_is
    ∙ first_picked (numbers_contain g.S.IdSet.members c.self.inside.ranks) c.self.inside.rank _ c.in-Some.rank c.self.inside.rest.now c.index-self-place.result refl c.in-Some.ensures

pub returns-in-Some-clause-goes : goal.returns-in-Some-clause-goes
returns-in-Some-clause-goes g c = let fewer = ap length (returns-in-Some-clause-steps g c) in omega (arith, fewer)

pub returns-in-None-clause-steps : goal.returns-in-None-clause-steps
returns-in-None-clause-steps g c =
    let none = sym c.self.view_is ∙ none_picked (numbers_contain g.S.IdSet.members c.self.inside.ranks) c.self.inside.rank _ c.self.inside.rest.now refl c.in-None.ensures in
    (none, none)

use Rattle.std.proofs.Common.{sym, ◌∙◌, ap}
use Rattle.std.specs.FinMap.{get}
use Rattle.tree.specs.Trees.{Tree}
use Rattle.tree.proofs.Numbered.{numbers_get}
use Rattle.tree.proofs.tree.Tree.number.Goals as goal

pub returns : goal.returns
returns c = c.copied.ensures ∙ c.get.ensures.value ∙ sym (numbers_get c.self.inside.numbers.entries c.args.path.now c.self.invariant.sorted) ∙ ap (λ (d : Tree). get d.numbers c.args.path.now) c.self.view_is

use Rattle.std.proofs.Common.{ℕ, List, ◌∷◌, sym, ap, ◌∙◌}
use Rattle.filter_text.specs.inner.Shapes.{of_pieces}
use Rattle.filter_text.proofs.ItemTexts.{of_first_any_last}
use Rattle.filter_text.proofs.item_text.of_pieces.Goals as goal

pub returns-in-Some : goal.returns-in-Some
returns-in-Some c =
    c.of_many.ensures ∙ sym (of_first_any_last c.args.attribute c.args.first c.pop.new.self.items c.in-Some.last)
    ∙ ap (λ (ps : List (List ℕ)). of_pieces c.args.attribute (c.args.first ∷ ps)) (sym c.in-Some.ensures.items)

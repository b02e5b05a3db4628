use Rattle.std.proofs.Common.{ℕ, List, Option, refl, sym, ap, ◌∙◌}
use Rattle.filter_text.specs.declared.items.Item.TheVariants.{Substrings}
use Rattle.filter_text.specs.inner.Shapes.{unless_empty}
use Rattle.filter_text.proofs.ItemTexts.{all_empty, not_all_empty}
use Rattle.filter_text.proofs.item_text.of_many.Goals as goal

pub returns-then-are_empty : goal.returns-then-are_empty
returns-then-are_empty c =
    let e = c.if-are_empty.ensures.0 refl in
    sym (all_empty c.args.attribute c.args.first c.args.any.items c.args.last e.0 (sym c.deref.ensures.value ∙ e.1) e.2)

pub returns : goal.returns
returns c =
    let any = c.args.any.items in
    ap (λ (i : Option (List ℕ)). Substrings c.args.attribute i c.from_vec.result c.unless_empty-2.result) c.unless_empty.ensures
    ∙ ap (λ (a : List (List ℕ)). Substrings c.args.attribute (unless_empty c.args.first) a c.unless_empty-2.result) c.from_vec.ensures
    ∙ ap (Substrings c.args.attribute (unless_empty c.args.first) any) c.unless_empty-2.ensures
    ∙ sym (not_all_empty c.args.attribute c.args.first any c.args.last (λ e f g. let clash = c.if-are_empty.ensures.1 (e, c.deref.ensures.value ∙ f, g) in cc))

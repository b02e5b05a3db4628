use Rattle.std.proofs.Common.{List, sym, ap, ◌∙◌}
use Rattle.values.specs.Values.{Value}
use Rattle.entries.specs.EntryClasses.{are_classes, named_classes}
use Rattle.entries.specs.StoredEntries.{raws}
use Rattle.entries.proofs.ClassLemmas.{names_none, fits_as_asked}
use Rattle.entries.proofs.class_checks.fits_classes.Goals as goal
use Rattle.entries.proofs.class_checks.fits_classes.Goals.{then-all, else-all}

pub returns : goal.returns
returns c =
    let conf = c.args.conf.now in
    let es = c.args.attrs.now.entries in
    let all = ap (λ (vs : List Value). are_classes conf.classes (raws vs)) (sym c.requires.values) ∙ sym c.in_ok-all.ensures.all in
    elim c.if-all.branch [
      | then-all w ↦ w.result-is ∙ w.fits_each.ensures
          ∙ fits_as_asked conf es w.deref.result.now (all ∙ w.if-all.true) (w.deref.ensures ∙ c.in_ok-all.ensures.named w.if-all.true ∙ ap (λ (vs : List Value). named_classes conf.classes (raws vs)) c.requires.values)
      | else-all w ↦ w.result-is ∙ w.if-all.false ∙ names_none conf es (all ∙ w.if-all.false)
    ]

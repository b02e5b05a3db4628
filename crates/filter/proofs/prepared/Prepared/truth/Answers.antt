use Rattle.std.proofs.Common.{◌∙◌, ap, sym, subst}
use Rattle.entries.specs.StoredEntries.{attributes_of, IsMade}
use Rattle.filter_text.specs.Spells.{view}
use Rattle.filter.specs.Filters.{truth}
use Rattle.filter.specs.Made.{Made}
use Rattle.filter.specs.Prepared.{filter_test}
use Rattle.filter.proofs.PreparedOperands.{filter_law}
use Rattle.filter.proofs.prepared.Prepared.truth.Goals as goal

pub returns-clause-truth : goal.returns-clause-truth
returns-clause-truth c =
    let from = c.self.inside in
    let attrs = c.args.entry.now.attrs in
    let made = subst (λ (m : Made). IsMade m.conf.types attrs) (sym c.self.view_is) c.requires.made in
    c.truth_of.ensures
    ∙ ap (filter_test attrs) c.self.invariant.1
    ∙ filter_law from.conf.value.types c.self.invariant.0.fits attrs made.each (view from.filter.value)
    ∙ ap (λ (m : Made). truth m.conf.types (attributes_of attrs) (view m.filter)) c.self.view_is

use Rattle.std.proofs.Common.{inr, refl, subst}
use Rattle.std.specs.Option.{option_map}
use Rattle.schema.specs.Conf.{Conf}
use Rattle.filter_text.specs.Spells.{view}
use Rattle.differences.specs.Differences.{Extent}
use Rattle.differences.specs.Comparisons.{extent_of}
use Rattle.differences.specs.declared.comparison.Comparison.{Comparison}
use Rattle.commands.specs.Worlds.{World}
use Rattle.commands.specs.inner.Compared.{PreparedFor}
use Rattle.commands.proofs.Compared.{wanted_extent}
use Rattle.commands.proofs.ldifdiff.compare.Goals as goal

pub returns-in-Ok-print_changes-clause-ends : goal.returns-in-Ok-print_changes-clause-ends
returns-in-Ok-print_changes-clause-ends g c = λ w.
    let asked = c.args.asked.now in
    let conf = c.args.database.now.conf in
    let a = c.args.database.now.entries in
    let b = c.args.other.now.entries in
    let start : World = record w { output = g.O.Sink.written c.args.out.now; messages = g.E.Sink.written c.args.err.now } in
    let compared : Comparison = c.comparison_of-comparison.result in
    let extent : Extent = extent_of compared conf a b in
    let prepared = subst (λ (k : Conf). PreparedFor k (option_map view c.args.filter.now) c.in-Ok-prepared_filter.prepared) c.conf.ensures c.in-Ok-prepared_filter.ensures in
    let extent_is = wanted_extent asked conf a b compared c.in-Ok.base (option_map view c.args.filter.now) c.in-Ok-prepared_filter.prepared
    c.comparison_of-comparison.ensures.unordered c.comparison_of-comparison.ensures.base c.comparison_of-comparison.ensures.filter prepared c.in-Ok.ensures.found c.in-Ok.ensures.there c.requires.filter in
    let heard = c.in-Ok-warn.ensures.heard in
    let warned : World = record start { messages = g.E.Sink.written c.warn.new.err } in
    record {
      extent = extent;
      extent_is = extent_is;
      told = heard.text;
      warned = warned;
      warns = record { took = heard.took; clear = heard.clear; stays = refl };
      printed = record { took = c.in-Ok-print_changes.ensures.put; stays = refl };
      status = c.in-Ok-print_changes.ensures.status;
      leads = c.print_changes.ensures.leads extent;
      leads_where_clear = c.warn.ensures.leads extent;
    }

pub returns-in-Ok-warn-clause-ends : goal.returns-in-Ok-warn-clause-ends
returns-in-Ok-warn-clause-ends g c = λ w.
    let asked = c.args.asked.now in
    let conf = c.args.database.now.conf in
    let a = c.args.database.now.entries in
    let b = c.args.other.now.entries in
    let start : World = record w { output = g.O.Sink.written c.args.out.now; messages = g.E.Sink.written c.args.err.now } in
    let compared : Comparison = c.comparison_of-comparison.result in
    let extent : Extent = extent_of compared conf a b in
    let prepared = subst (λ (k : Conf). PreparedFor k (option_map view c.args.filter.now) c.in-Ok-prepared_filter.prepared) c.conf.ensures c.in-Ok-prepared_filter.ensures in
    let extent_is = wanted_extent asked conf a b compared c.in-Ok.base (option_map view c.args.filter.now) c.in-Ok-prepared_filter.prepared
    c.comparison_of-comparison.ensures.unordered c.comparison_of-comparison.ensures.base c.comparison_of-comparison.ensures.filter prepared c.in-Ok.ensures.found c.in-Ok.ensures.there c.requires.filter in
    let heard = c.in-Ok-warn.ensures.heard in
    let warned : World = record start { messages = g.E.Sink.written c.warn.new.err } in
    inr (inr (record {
      extent = extent;
      extent_is = extent_is;
      told = heard.text;
      warned = warned;
      warns = record { took = heard.took; clear = heard.clear; stays = refl };
      fault = c.in-Err-print_changes.fault;
      fault_is = refl;
      fails = c.in-Err-print_changes.ensures.fails;
      begun = c.in-Err-print_changes.ensures.begun;
      stays = refl;
    }))

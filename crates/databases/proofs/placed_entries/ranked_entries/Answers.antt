use Rattle.std.proofs.Common.{List, map, sym, subst}
use Rattle.std.proofs.lemmas.Result.{IfOk-weaker}
use Rattle.databases.specs.declared.placed_entries.PlacedEntry.{PlacedEntry}
use Rattle.databases.specs.inner.RankedEntries.{AreRankedEntries}
use Rattle.databases.proofs.RankedEntries.{ranked_moved}
use Rattle.databases.proofs.placed_entries.ranked_entries.Goals as goal

pub returns : goal.returns
returns c =
    let ranked = subst (λ (es : List PlacedEntry). AreRankedEntries c.args.database.now.conf c.args.database.now.entries (map (λ e. e.ranked) es)) (sym c.as_mut_slice.ensures.value) c.in_ok-placed.ensures in
    IfOk-weaker c.by_number.result _ _ (λ es moved. ranked_moved c.args.database.now.conf c.args.database.now.entries _ es.items moved ranked) c.by_number.ensures

use Rattle.std.proofs.Common.{◌≡◌, ◌∙◌, map, sym, ap, subst}
use Rattle.schema.specs.Conf.{IsConf}
use Rattle.tree.specs.Trees.{Tree, number_at}
use Rattle.filter_text.specs.Spells.{view}
use Rattle.index_text.specs.Postings.{shown_by}
use Rattle.databases.specs.Scanned.{scan, scan_among, counted_scan, count_among}
use Rattle.databases.specs.Walks.{seen, counted, AreMade}
use Rattle.databases.specs.Found.{AreThere}
use Rattle.directory.specs.Indexes.{IsIndexOf}
use Rattle.directory.specs.Searches.{AreSteps, IsTestCount, may_by_number}
use Rattle.databases.proofs.ByPostings.{is_candidate}
use Rattle.directory.proofs.ByIndex.{same_count, same_steps, same_may, reflected}
use Rattle.databases.proofs.FoundText.{found_are_there}
use Rattle.directory.proofs.searching.search_with_index.Goals as goal

pub returns-in-Some-clause-finds : goal.returns-in-Some-clause-finds
returns-in-Some-clause-finds c =
    let t : Tree = c.tree-tree.result.now in
    let f = c.args.filter.now in
    let shown = shown_by c.args.index.now in
    let indexed = subst (λ (x : Tree). IsIndexOf x.conf x.entries x.numbers c.args.index.now) (sym c.tree-tree.ensures) c.requires.indexed in
    let is_conf : IsConf t.conf = subst (λ (x : Tree). IsConf x.conf) (sym c.tree-tree.ensures) (subst IsConf c.conf.ensures c.rules_are_kept.ensures) in
    let prepared = c.requires.filter ∙ ap (λ (x : Tree). x.conf) (sym c.tree-tree.ensures) in
    record {
      start = c.in-Some.ensures.start;
      steps = subst (λ (x : Tree). AreSteps x.conf x f c.args.base.now c.args.scope (map counted c.in-Some.hits.to_come)) c.tree-tree.ensures (λ x of_x.
          c.in-Some.ensures.steps
          ∙ (λ i. counted_scan t.conf t.entries (λ p. c.in_ok-may.ensures (number_at t p) i) c.args.base.now c.args.scope (view f.filter))
          ∙ same_steps (may_by_number shown f t) (may_by_number (shown_by x) f t) c.args.base.now c.args.scope t.entries
          (same_may t.conf t c.entries_are_numbered.ensures c.args.index.now indexed x of_x f) t.conf (view f.filter));
      found = subst (λ (x : Tree). map seen c.in-Some.hits.to_come ≡ scan x.conf x.entries c.args.base.now c.args.scope (view f.filter)) c.tree-tree.ensures (
          c.in-Some.ensures.found
          ∙ (λ i. scan_among t.conf t.entries (λ p. c.in_ok-may.ensures (number_at t p) i) c.args.base.now c.args.scope (view f.filter))
          ∙ c.candidates_suffice.ensures t.conf t.entries (may_by_number shown f t) c.args.base.now c.args.scope (view f.filter)
          (λ p e at is. is_candidate t shown f prepared is_conf c.entries_are_a_directory.ensures c.brackets_hold.ensures (number_at t p) p e at
          (reflected t.conf t c.entries_are_numbered.ensures c.args.index.now indexed c.indexes_reflect_entries.ensures p e at) is));
      tested = subst (λ (x : Tree). IsTestCount x.conf x f c.args.base.now c.args.scope c.in-Some.hits.in_the_end) c.tree-tree.ensures (λ x of_x.
          c.in-Some.ensures.tested
          ∙ (λ i. count_among t.entries (λ p. c.in_ok-may.ensures (number_at t p) i) c.args.base.now c.args.scope)
          ∙ same_count (may_by_number shown f t) (may_by_number (shown_by x) f t) c.args.base.now c.args.scope t.entries
          (same_may t.conf t c.entries_are_numbered.ensures c.args.index.now indexed x of_x f));
      made = subst (λ (x : Tree). AreMade x.conf.types c.in-Some.hits.to_come) c.tree-tree.ensures c.in-Some.ensures.made;
      entries = subst (λ (x : Tree). AreThere x.entries (map seen c.in-Some.hits.to_come)) c.tree-tree.ensures
          (subst (AreThere t.entries) (sym c.in-Some.ensures.found) (found_are_there t.conf t.entries _ c.args.base.now c.args.scope (view f.filter) c.order_of_paths.ensures.total c.entries_are_a_directory.ensures));
    }

use Rattle.std.proofs.Common.{◌∙◌, sym, subst}
use Rattle.schema.specs.Conf.{Conf}
use Rattle.tree.specs.Directories.{IsDirectory}
use Rattle.tree.specs.Trees.{Tree}
use Rattle.filter_text.specs.Spells.{view}
use Rattle.databases.specs.Ranks.{rank_in}
use Rattle.databases.specs.Scanned.{scan_among, counted_scan, count_among}
use Rattle.databases.specs.Found.{AreThere}
use Rattle.databases.specs.Walks.{AreMade}
use Rattle.databases.proofs.ByPostings.{by_whole, all_found}
use Rattle.databases.proofs.FoundText.{found_are_there}
use Rattle.databases.proofs.ranked_searches.search_ranked_with.Goals as goal

pub returns-in-Some-clause-finds : goal.returns-in-Some-clause-finds
returns-in-Some-clause-finds g c =
    let d : Tree = c.args.entries.now in
    record {
      start = c.in-Some.ensures.start;
      steps = c.in-Some.ensures.steps ∙ (λ i. counted_scan d.conf d.entries (λ p. c.in_ok-may.ensures (rank_in d.entries p) i) c.args.base.now c.args.scope (view c.args.filter.now.filter));
      found = c.in-Some.ensures.found ∙ (λ i. scan_among d.conf d.entries (λ p. c.in_ok-may.ensures (rank_in d.entries p) i) c.args.base.now c.args.scope (view c.args.filter.now.filter));
      tested = c.in-Some.ensures.tested ∙ (λ i. count_among d.entries (λ p. c.in_ok-may.ensures (rank_in d.entries p) i) c.args.base.now c.args.scope);
      made = subst (λ (k : Conf). AreMade k.types c.in-Some.hits.to_come) c.requires.made c.in-Some.ensures.made;
      entries = subst (AreThere d.entries) (sym c.in-Some.ensures.found) (found_are_there d.conf d.entries _ c.args.base.now c.args.scope (view c.args.filter.now.filter) c.order_of_paths.ensures.total (subst (λ (t : Tree). IsDirectory t.conf t.entries) c.tree-tree.ensures c.entries_are_a_directory.ensures));
    }

pub returns-in-Some-clause-part : goal.returns-in-Some-clause-part
returns-in-Some-clause-part g c = λ whole shows.
    by_whole c.asked_keys_suffice.ensures c.args.filter.now c.args.entries.now (g.P.Postings.shown c.args.postings.now) whole shows

pub returns-in-Some-clause-whole : goal.returns-in-Some-clause-whole
returns-in-Some-clause-whole g c = λ whole shows reflects.
    let d : Tree = c.args.entries.now in
    let f = c.args.filter.now in
    c.in-Some.ensures.found
    ∙ (λ i. scan_among d.conf d.entries (λ p. c.in_ok-may.ensures (rank_in d.entries p) i) c.args.base.now c.args.scope (view f.filter))
    ∙ (λ i. scan_among d.conf d.entries (by_whole c.asked_keys_suffice.ensures f d (g.P.Postings.shown c.args.postings.now) whole shows i) c.args.base.now c.args.scope (view f.filter))
    ∙ all_found d c.args.conf.now whole c.args.filter.now c.args.base.now c.args.scope c.requires.made c.requires.prepared c.rules_are_kept.ensures (subst (λ (t : Tree). IsDirectory t.conf t.entries) c.tree-tree.ensures c.entries_are_a_directory.ensures) c.brackets_hold.ensures c.candidates_suffice.ensures reflects

pub returns-in-Some-clause-index : goal.returns-in-Some-clause-index
returns-in-Some-clause-index g c = λ shows.
    let d : Tree = c.args.entries.now in
    c.in-Some.ensures.found
    ∙ (λ i. scan_among d.conf d.entries (λ p. c.in_ok-may.ensures (rank_in d.entries p) i) c.args.base.now c.args.scope (view c.args.filter.now.filter))
    ∙ all_found d c.args.conf.now (g.P.Postings.shown c.args.postings.now) c.args.filter.now c.args.base.now c.args.scope c.requires.made c.requires.prepared c.rules_are_kept.ensures (subst (λ (t : Tree). IsDirectory t.conf t.entries) c.tree-tree.ensures c.entries_are_a_directory.ensures) c.brackets_hold.ensures c.candidates_suffice.ensures
    (c.index_texts_reflect_dumps.ensures c.args.conf.now d.entries (g.P.Postings.shown c.args.postings.now) shows)

use Rattle.std.proofs.Common.{ℕ, List, ◌≡◌, ◌∙◌, sym, subst, ap, map, length, arith}
use Rattle.std.specs.Prelude.{filter}
use Rattle.std.specs.List.{AllByRecursion}
use Rattle.std.specs.FinMap as finite
use Rattle.paths.specs.Paths.{Path, begins}
use Rattle.schema.specs.Conf.{Conf}
use Rattle.entries.specs.StoredEntries.{IsMade}
use Rattle.tree.specs.Trees.{number_at}
use Rattle.filter_text.specs.Spells.{view}
use Rattle.candidates.specs.Numbers.{numbers_contain}
use Rattle.databases.specs.Ranks.{rank_in}
use Rattle.databases.specs.Scanned.{counted_scan}
use Rattle.databases.specs.Walks.{Walk, AreMade, counted, walk}
use Rattle.databases.specs.inner.Marks.{MarkedEntry, number_by}
use Rattle.databases.proofs.Scans.{seen_marked, AreMarked, marked_seen, marked_made, marked_length, are_marked, room_for_ranks, steps_are, found_are, tested_are, lent_made}
use Rattle.databases.proofs.scanning.search_from.Given.{Over}
use Rattle.databases.proofs.scanning.search_from.Goals as goal

pub new-rest-requires : goal.new-rest-requires
new-rest-requires g c = room_for_ranks c.args.tree.now.entries c.args.numbering c.args.base.now c.args.rank c.numbered.result c.requires.rank c.numbered.ensures.entries c.entries_are_a_directory.ensures.few

pub new-requires-clause-made : goal.new-requires-clause-made
new-requires-clause-made g c =
    let test = numbers_contain g.S.IdSet.members c.args.candidates in
    subst (AllByRecursion (λ (e : MarkedEntry). IsMade c.args.filter.now.conf.types e.entry.attrs)) (sym (c.of_marked-untested.ensures ∙ c.new-rest.ensures))
    (marked_made test c.args.numbering c.args.filter.now.conf.types c.args.rank c.numbered.result
    (subst (λ (conf : Conf). AllByRecursion (λ e. IsMade conf.types e.entry.attrs) c.numbered.result) (sym c.requires.conf) c.numbered.ensures.made))

pub new-requires-clause-room : goal.new-requires-clause-room
new-requires-clause-room g c =
    let test = numbers_contain g.S.IdSet.members c.args.candidates in
    let long : length c.of_marked-untested.result ≡ length c.numbered.result = ap length (c.of_marked-untested.ensures ∙ c.new-rest.ensures) ∙ marked_length test c.args.numbering c.args.rank c.numbered.result in
    let room = room_for_ranks c.args.tree.now.entries c.args.numbering c.args.base.now c.args.rank c.numbered.result c.requires.rank c.numbered.ensures.entries c.entries_are_a_directory.ensures.few in
    omega (arith, long, room)

-- each is marked by its path
all_marked : (g : Over) (c : goal.After-new g) → AreMarked (λ p. numbers_contain g.S.IdSet.members c.args.candidates (number_by c.args.numbering (number_at c.args.tree.now p) (rank_in c.args.tree.now.entries p))) c.of_marked-untested.result
all_marked g c =
    subst (AreMarked (λ p. numbers_contain g.S.IdSet.members c.args.candidates (number_by c.args.numbering (number_at c.args.tree.now p) (rank_in c.args.tree.now.entries p)))) (sym (c.of_marked-untested.ensures ∙ c.new-rest.ensures))
    (are_marked (numbers_contain g.S.IdSet.members c.args.candidates) c.args.tree.now c.args.numbering c.args.base.now c.args.rank c.numbered.result c.requires.rank c.numbered.ensures.numbers c.numbered.ensures.entries)

all_seen : (g : Over) (c : goal.After-new g) → seen_marked c.of_marked-untested.result ≡ filter (λ e. begins c.args.base.now e.0) (finite.entries c.args.tree.now.entries)
all_seen g c = ap seen_marked (c.of_marked-untested.ensures ∙ c.new-rest.ensures) ∙ marked_seen (numbers_contain g.S.IdSet.members c.args.candidates) c.args.numbering c.args.rank c.numbered.result ∙ c.numbered.ensures.entries

is_counted : (g : Over) (c : goal.After-new g) → map counted c.new.result.to_come ≡ counted_scan c.args.tree.now.conf c.args.tree.now.entries
    (λ p. numbers_contain g.S.IdSet.members c.args.candidates (number_by c.args.numbering (number_at c.args.tree.now p) (rank_in c.args.tree.now.entries p))) c.args.base.now c.args.scope (view c.args.filter.now.filter)
is_counted g c =
    let is_candidate = λ (p : Path). numbers_contain g.S.IdSet.members c.args.candidates (number_by c.args.numbering (number_at c.args.tree.now p) (rank_in c.args.tree.now.entries p)) in
    ap (λ (w : Walk). map counted w.to_come) c.new.ensures
    ∙ ap (λ (n : ℕ). map counted (walk c.args.filter.now.conf.types c.args.scope n (view c.args.filter.now.filter) 0 c.of_marked-untested.result).to_come) c.len.ensures
    ∙ steps_are c.args.scope c.args.base.now is_candidate c.args.filter.now.conf.types (view c.args.filter.now.filter) c.of_marked-untested.result (finite.entries c.args.tree.now.entries) (all_marked g c) (all_seen g c)
    ∙ ap (λ (conf : Conf). counted_scan conf c.args.tree.now.entries is_candidate c.args.base.now c.args.scope (view c.args.filter.now.filter)) c.requires.conf

pub returns-clause-steps : goal.returns-clause-steps
returns-clause-steps g c = is_counted g c

pub returns-clause-found : goal.returns-clause-found
returns-clause-found g c =
    let is_candidate = λ (p : Path). numbers_contain g.S.IdSet.members c.args.candidates (number_by c.args.numbering (number_at c.args.tree.now p) (rank_in c.args.tree.now.entries p)) in
    found_are c.args.scope c.args.base.now is_candidate c.args.tree.now.conf.types (view c.args.filter.now.filter) c.new.result.to_come (finite.entries c.args.tree.now.entries) (is_counted g c)

pub returns-clause-tested : goal.returns-clause-tested
returns-clause-tested g c =
    let is_candidate = λ (p : Path). numbers_contain g.S.IdSet.members c.args.candidates (number_by c.args.numbering (number_at c.args.tree.now p) (rank_in c.args.tree.now.entries p)) in
    ap (λ (w : Walk). w.in_the_end) c.new.ensures
    ∙ ap (λ (n : ℕ). (walk c.args.filter.now.conf.types c.args.scope n (view c.args.filter.now.filter) 0 c.of_marked-untested.result).in_the_end) c.len.ensures
    ∙ tested_are c.args.scope c.args.base.now is_candidate c.of_marked-untested.result (finite.entries c.args.tree.now.entries) (all_marked g c) (all_seen g c)

pub returns-clause-made : goal.returns-clause-made
returns-clause-made g c =
    subst (λ (w : Walk). AreMade c.args.tree.now.conf.types w.to_come) (sym c.new.ensures)
    (lent_made c.args.tree.now.conf.types c.args.filter.now.conf.types c.args.scope c.len.result (view c.args.filter.now.filter) 0 c.of_marked-untested.result
    (subst (λ (es : List MarkedEntry). AllByRecursion (λ (e : MarkedEntry). IsMade c.args.tree.now.conf.types e.entry.attrs) es) (sym (c.of_marked-untested.ensures ∙ c.new-rest.ensures))
    (marked_made (numbers_contain g.S.IdSet.members c.args.candidates) c.args.numbering c.args.tree.now.conf.types c.args.rank c.numbered.result c.numbered.ensures.made)))

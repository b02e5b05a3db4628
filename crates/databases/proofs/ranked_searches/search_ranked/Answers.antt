use Rattle.std.proofs.Common.{◌≡◌, ℕ, List, ◌∙◌, sym, subst, ap, map, length, arith}
use Rattle.std.specs.List.{AllByRecursion}
use Rattle.std.specs.FinMap as finite
use Rattle.paths.specs.Paths.{Path}
use Rattle.schema.specs.Conf.{Conf}
use Rattle.entries.specs.StoredEntries.{IsMade}
use Rattle.filter_text.specs.Spells.{view}
use Rattle.candidates.specs.Numbers.{numbers_contain}
use Rattle.databases.specs.Ranks.{rank_in}
use Rattle.databases.specs.Scanned.{counted_scan}
use Rattle.databases.specs.Walks.{Walk, AreMade, counted, walk}
use Rattle.databases.specs.inner.Marks.{MarkedEntry}
use Rattle.databases.specs.inner.Picks.{lent_entries, picked, as_candidate}
use Rattle.databases.proofs.Picks.{picked_steps, picked_tested, picked_made, picked_length}
use Rattle.databases.proofs.Scans.{found_are, lent_made}
use Rattle.databases.proofs.ranked_searches.search_ranked.Given.{Over}
use Rattle.databases.proofs.ranked_searches.search_ranked.Goals as goal

pub new-requires-clause-made : goal.new-requires-clause-made
new-requires-clause-made g c =
    subst (AllByRecursion (λ (e : MarkedEntry). IsMade c.args.filter.now.conf.types e.entry.attrs)) (sym (c.of_picked-untested.ensures ∙ ap (map as_candidate) c.new-picked.ensures))
    (picked_made c.args.filter.now.conf.types (numbers_contain g.S.IdSet.members c.args.candidates) c.from_base-rank.result.0 c.from_base-rank.result.1.now
    (subst (λ (conf : Conf). AllByRecursion (λ e. IsMade conf.types e.1.now.attrs) c.from_base-rank.result.1.now) (sym c.requires) c.from_base-rank.ensures.made))

pub new-requires-clause-room : goal.new-requires-clause-room
new-requires-clause-room g c =
    let long = ap length (c.of_picked-untested.ensures ∙ ap (map as_candidate) c.new-picked.ensures) in
    let fewer = picked_length (numbers_contain g.S.IdSet.members c.args.candidates) c.from_base-rank.result.0 c.from_base-rank.result.1.now in
    let room = c.from_base-rank.ensures.room in
    omega (arith, long, fewer, room)

is_counted : (g : Over) (c : goal.After-new g) → map counted c.new.result.to_come ≡ counted_scan c.args.entries.now.conf c.args.entries.now.entries
    (λ p. numbers_contain g.S.IdSet.members c.args.candidates (rank_in c.args.entries.now.entries p)) c.args.base.now c.args.scope (view c.args.filter.now.filter)
is_counted g c =
    let is_candidate = λ (p : Path). numbers_contain g.S.IdSet.members c.args.candidates (rank_in c.args.entries.now.entries p) in
    let types = c.args.filter.now.conf.types in
    let f = view c.args.filter.now.filter in
    ap (λ (w : Walk). map counted w.to_come) c.new.ensures
    ∙ ap (λ (es : List MarkedEntry). map counted (walk types c.args.scope c.len.result f 0 es).to_come) (c.of_picked-untested.ensures ∙ ap (map as_candidate) c.new-picked.ensures)
    ∙ ap (λ (n : ℕ). map counted (walk types c.args.scope n f 0 (map as_candidate (picked (numbers_contain g.S.IdSet.members c.args.candidates) c.from_base-rank.result.0 (lent_entries c.from_base-rank.result.1.now)))).to_come) c.len.ensures
    ∙ picked_steps (numbers_contain g.S.IdSet.members c.args.candidates) c.args.entries.now c.args.base.now c.from_base-rank.result.0 (lent_entries c.from_base-rank.result.1.now) c.from_base-rank.ensures.rank c.from_base-rank.ensures.entries types c.args.scope f
    ∙ ap (λ (conf : Conf). counted_scan conf c.args.entries.now.entries is_candidate c.args.base.now c.args.scope f) c.requires

pub returns-clause-steps : goal.returns-clause-steps
returns-clause-steps g c = is_counted g c

pub returns-clause-found : goal.returns-clause-found
returns-clause-found g c =
    let is_candidate = λ (p : Path). numbers_contain g.S.IdSet.members c.args.candidates (rank_in c.args.entries.now.entries p) in
    found_are c.args.scope c.args.base.now is_candidate c.args.entries.now.conf.types (view c.args.filter.now.filter) c.new.result.to_come (finite.entries c.args.entries.now.entries) (is_counted g c)

pub returns-clause-tested : goal.returns-clause-tested
returns-clause-tested g c =
    let types = c.args.filter.now.conf.types in
    let f = view c.args.filter.now.filter in
    ap (λ (w : Walk). w.in_the_end) c.new.ensures
    ∙ ap (λ (es : List MarkedEntry). (walk types c.args.scope c.len.result f 0 es).in_the_end) (c.of_picked-untested.ensures ∙ ap (map as_candidate) c.new-picked.ensures)
    ∙ ap (λ (n : ℕ). (walk types c.args.scope n f 0 (map as_candidate (picked (numbers_contain g.S.IdSet.members c.args.candidates) c.from_base-rank.result.0 (lent_entries c.from_base-rank.result.1.now)))).in_the_end) c.len.ensures
    ∙ picked_tested (numbers_contain g.S.IdSet.members c.args.candidates) c.args.entries.now c.args.base.now c.from_base-rank.result.0 (lent_entries c.from_base-rank.result.1.now) c.from_base-rank.ensures.rank c.from_base-rank.ensures.entries c.args.scope

pub returns-clause-made : goal.returns-clause-made
returns-clause-made g c =
    subst (λ (w : Walk). AreMade c.args.entries.now.conf.types w.to_come) (sym c.new.ensures)
    (lent_made c.args.entries.now.conf.types c.args.filter.now.conf.types c.args.scope c.len.result (view c.args.filter.now.filter) 0 c.of_picked-untested.result
    (subst (λ (es : List MarkedEntry). AllByRecursion (λ (e : MarkedEntry). IsMade c.args.entries.now.conf.types e.entry.attrs) es) (sym (c.of_picked-untested.ensures ∙ ap (map as_candidate) c.new-picked.ensures))
    (picked_made c.args.entries.now.conf.types (numbers_contain g.S.IdSet.members c.args.candidates) c.from_base-rank.result.0 c.from_base-rank.result.1.now c.from_base-rank.ensures.made)))

use Rattle.std.proofs.Common.{◌≡◌, ℕ, ◌-◌, ◌≤◌, false, List, length, take, drop, sym, ap, subst, ◌∙◌, arith}
use Rattle.std.specs.List.{AllByRecursion}
use Rattle.std.proofs.lemmas.List.{length-drop, length-take-le, take_rest}
use Rattle.entries.specs.StoredEntries.{IsMade}
use Rattle.tree.specs.Directories.{IsDirectory}
use Rattle.tree.specs.Trees.{Tree, seen_entries}
use Rattle.databases.specs.inner.Picks.{Rise, comes_before, is_begun, lent_entries}
use Rattle.databases.proofs.FromBase.{Lending, is_rank, are_begun, all_dropped, all_taken, rise_behind, in_order_rise, in_order_count, in_order_is}
use Rattle.databases.proofs.Points.{PartsAt, behind}
use Rattle.databases.proofs.entries_by_rank.EntriesByRank.from_base.Goals as goal

pub count_before-rank-requires : goal.count_before-rank-requires
count_before-rank-requires c = in_order_rise c.args.self.now c.as_slice-all.result.now (in_order_is c.self.view_is c.as_slice-all.ensures.value c.self.invariant)

pub count_begun-count-requires-clause-rising : goal.count_begun-count-requires-clause-rising
count_begun-count-requires-clause-rising c =
    let es : List Lending = c.as_slice-all.result.now in
    subst Rise (sym (take_rest es c.count_before-rank.result))
    (rise_behind c.count_before-rank.result es (in_order_rise c.args.self.now es (in_order_is c.self.view_is c.as_slice-all.ensures.value c.self.invariant)))

pub count_begun-count-requires-clause-from : goal.count_begun-count-requires-clause-from
count_begun-count-requires-clause-from c =
    let es : List Lending = c.as_slice-all.result.now in
    subst (AllByRecursion (λ (e : Lending). comes_before c.args.base.now e ≡ false)) (sym (take_rest es c.count_before-rank.result))
    (behind (comes_before c.args.base.now) es c.count_before-rank.result c.count_before-rank.ensures.bound c.count_before-rank.ensures.point)

pub overflow_cast-result : goal.overflow_cast-result
overflow_cast-result c =
    let count = in_order_count c.args.self.now c.as_slice-all.result.now (in_order_is c.self.view_is c.as_slice-all.ensures.value c.self.invariant) in
    let few = (subst (λ (t : Tree). IsDirectory t.conf t.entries) c.self.view_is c.entries_are_a_directory.ensures).few in
    let bound = c.count_before-rank.ensures.bound in
    omega (arith, count, few, bound)

pub returns-clause-rank : goal.returns-clause-rank
returns-clause-rank c =
    is_rank c.args.self.now c.as_slice-all.result.now (in_order_is c.self.view_is c.as_slice-all.ensures.value c.self.invariant) c.args.base.now c.count_before-rank.result
    c.count_before-rank.ensures.bound c.count_before-rank.ensures.point

pub returns-clause-entries : goal.returns-clause-entries
returns-clause-entries c =
    let es : List Lending = c.as_slice-all.result.now in
    let rest = take_rest es c.count_before-rank.result in
    let count : ℕ = c.count_begun-count.result in
    ap (λ (xs : List Lending). seen_entries (lent_entries (take count xs))) rest
    ∙ are_begun c.args.self.now es (in_order_is c.self.view_is c.as_slice-all.ensures.value c.self.invariant) c.args.base.now c.count_before-rank.result
    c.count_before-rank.ensures.bound c.count_before-rank.ensures.point count
    (subst (λ (xs : List Lending). count ≤ length xs) rest c.count_begun-count.ensures.bound)
    (subst (λ (xs : List Lending). PartsAt (is_begun c.args.base.now) xs count) rest c.count_begun-count.ensures.point)

pub returns-clause-made : goal.returns-clause-made
returns-clause-made c =
    let es : List Lending = c.as_slice-all.result.now in
    let is_made : Lending → Type 0 = λ e. IsMade c.args.self.now.conf.types e.1.now.attrs in
    subst (λ (xs : List Lending). AllByRecursion is_made (take c.count_begun-count.result xs)) (sym (take_rest es c.count_before-rank.result))
    (all_taken is_made c.count_begun-count.result (drop c.count_before-rank.result es)
    (all_dropped is_made c.count_before-rank.result es (in_order_is c.self.view_is c.as_slice-all.ensures.value c.self.invariant).made))

pub returns-clause-room : goal.returns-clause-room
returns-clause-room c =
    let es : List Lending = c.as_slice-all.result.now in
    let count = in_order_count c.args.self.now es (in_order_is c.self.view_is c.as_slice-all.ensures.value c.self.invariant) in
    let few = (subst (λ (t : Tree). IsDirectory t.conf t.entries) c.self.view_is c.entries_are_a_directory.ensures).few in
    let bound = c.count_before-rank.ensures.bound in
    let within = c.count_begun-count.ensures.bound in
    let taken = length-take-le c.count_begun-count.result (take (length es - c.count_before-rank.result) (drop c.count_before-rank.result es)) within in
    let rest = ap length (take_rest es c.count_before-rank.result) ∙ length-drop c.count_before-rank.result es in
    omega (arith, count, few, bound, within, taken, rest)

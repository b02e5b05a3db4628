use Rattle.std.proofs.Common.{ℕ, ◌+◌, ◌<◌, List, Option, Some, cond, ap, subst, ◌∙◌}
use Rattle.std.specs.BTreeMap.{get}
use Rattle.std.specs.Cmp.Lexicographic.{slice_cmp}
use Rattle.std.specs.Option.{SomeIff}
use Rattle.std.specs.Ordering.{nat_cmp, is_eq}
use Rattle.entries.proofs.values_draft.add_place.Goals as goal

pub returns-clause-count : goal.returns-clause-count
returns-clause-count c = (subst (λ (o : Option ℕ). SomeIff o (c.args.places.now.count + 1 < 18446744073709551616) (c.args.places.now.count + 1)) c.in_ok-count.ensures.ok_part c.checked_add.ensures).1

pub returns-clause-since : goal.returns-clause-since
returns-clause-since c = λ q. c.in_ok-insert.ensures.updates.0 q ∙ ap (λ (n : List ℕ). cond (is_eq (slice_cmp nat_cmp n q)) (Some 0) (get (slice_cmp nat_cmp) c.args.places.now.since q)) c.in_ok-from_slice.ensures

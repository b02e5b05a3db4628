use Rattle.std.proofs.Common.{sym, ap, ◌∙◌}
use Rattle.std.specs.Prelude.{is_some}
use Rattle.index.proofs.Keyed.{take_nothing, take_one, take_last}
use Rattle.index.proofs.keyed_sets.take.Goals as goal

pub returns-in_default-clause-takes : goal.returns-in_default-clause-takes
returns-in_default-clause-takes g c = (take_nothing g.K.StoredKey.bytes g.K.Ord.cmp g.met.K.StoredKey.by_bytes (g.Q.Comparable.compare c.args.key) (g.Q.Wanted.wanted c.args.key) (g.met.Q.Wanted.finds c.args.key) c.args.number c.args.sets.now c.get_mut.follows.lender-at-none c.requires c.in_default.ensures.value c.get_mut.follows.holds-at-none).1

pub returns-then-len-eq0-clause-full : goal.returns-then-len-eq0-clause-full
returns-then-len-eq0-clause-full g c = (take_last g.K.StoredKey.bytes g.K.Ord.cmp g.met.K.StoredKey.by_bytes (g.Q.Comparable.compare c.args.key) (g.Q.Wanted.wanted c.args.key) (g.met.Q.Wanted.finds c.args.key) c.args.number c.args.sets.now c.remove.new.self c.requires c.in-Some.found.now c.remove-was.new.self c.remove-was.result c.in-Some.ensures.value c.remove-was.ensures.was c.remove-was.ensures.removed (c.get_mut.follows.lender c.remove-was.new.self) ((c.get_mut.follows.holds c.remove-was.new.self).3 (sym (ap is_some c.in-Some.ensures.value))) c.remove.ensures.updates (sym c.len.ensures ∙ c.if-len-eq0.true)).0

pub returns-then-len-eq0-clause-takes : goal.returns-then-len-eq0-clause-takes
returns-then-len-eq0-clause-takes g c = (take_last g.K.StoredKey.bytes g.K.Ord.cmp g.met.K.StoredKey.by_bytes (g.Q.Comparable.compare c.args.key) (g.Q.Wanted.wanted c.args.key) (g.met.Q.Wanted.finds c.args.key) c.args.number c.args.sets.now c.remove.new.self c.requires c.in-Some.found.now c.remove-was.new.self c.remove-was.result c.in-Some.ensures.value c.remove-was.ensures.was c.remove-was.ensures.removed (c.get_mut.follows.lender c.remove-was.new.self) ((c.get_mut.follows.holds c.remove-was.new.self).3 (sym (ap is_some c.in-Some.ensures.value))) c.remove.ensures.updates (sym c.len.ensures ∙ c.if-len-eq0.true)).1

pub returns-else-len-eq0-clause-full : goal.returns-else-len-eq0-clause-full
returns-else-len-eq0-clause-full g c = (take_one g.K.StoredKey.bytes g.K.Ord.cmp g.met.K.StoredKey.by_bytes (g.Q.Comparable.compare c.args.key) (g.Q.Wanted.wanted c.args.key) (g.met.Q.Wanted.finds c.args.key) c.args.number c.args.sets.now (c.get_mut.follows.lender c.remove-was.new.self) c.requires c.in-Some.found.now c.remove-was.new.self c.remove-was.result c.in-Some.ensures.value c.remove-was.ensures.was c.remove-was.ensures.removed ((c.get_mut.follows.holds c.remove-was.new.self).3 (sym (ap is_some c.in-Some.ensures.value))) (λ none. c.if-len-eq0.false (c.len.ensures ∙ none))).0

pub returns-else-len-eq0-clause-takes : goal.returns-else-len-eq0-clause-takes
returns-else-len-eq0-clause-takes g c = (take_one g.K.StoredKey.bytes g.K.Ord.cmp g.met.K.StoredKey.by_bytes (g.Q.Comparable.compare c.args.key) (g.Q.Wanted.wanted c.args.key) (g.met.Q.Wanted.finds c.args.key) c.args.number c.args.sets.now (c.get_mut.follows.lender c.remove-was.new.self) c.requires c.in-Some.found.now c.remove-was.new.self c.remove-was.result c.in-Some.ensures.value c.remove-was.ensures.was c.remove-was.ensures.removed ((c.get_mut.follows.holds c.remove-was.new.self).3 (sym (ap is_some c.in-Some.ensures.value))) (λ none. c.if-len-eq0.false (c.len.ensures ∙ none))).1

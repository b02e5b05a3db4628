use Rattle.std.proofs.Common.{sym, ap, ◌∙◌}
use Rattle.std.specs.Prelude.{is_some}
use Rattle.std.specs.declared.alloc.AllocError.{AllocError}
use Rattle.std.specs.FinSet as set
use Rattle.index_text.specs.KeySets.{Members}
use Rattle.index.proofs.Keyed.{put_found, put_fresh, put_refused}
use Rattle.index.proofs.keyed_sets.put.Goals as goal

pub returns-in-Some-clause-full : goal.returns-in-Some-clause-full
returns-in-Some-clause-full g c = (put_found g.K.StoredKey.bytes g.K.Ord.cmp g.met.K.StoredKey.by_bytes (g.Q.Comparable.compare c.args.key) (g.Q.Wanted.wanted c.args.key) (g.met.Q.Wanted.finds c.args.key) c.args.number c.args.sets.now (c.get_mut.follows.lender c.insert.new.self) c.requires c.in-Some.found.now c.insert.new.self c.insert.result c.in-Some.ensures.value ((c.get_mut.follows.holds c.insert.new.self).3 (sym (ap is_some c.in-Some.ensures.value))) c.insert.ensures.new c.insert.ensures.ok c.insert.ensures.err).0

pub returns-in-Some-clause-puts : goal.returns-in-Some-clause-puts
returns-in-Some-clause-puts g c = (put_found g.K.StoredKey.bytes g.K.Ord.cmp g.met.K.StoredKey.by_bytes (g.Q.Comparable.compare c.args.key) (g.Q.Wanted.wanted c.args.key) (g.met.Q.Wanted.finds c.args.key) c.args.number c.args.sets.now (c.get_mut.follows.lender c.insert.new.self) c.requires c.in-Some.found.now c.insert.new.self c.insert.result c.in-Some.ensures.value ((c.get_mut.follows.holds c.insert.new.self).3 (sym (ap is_some c.in-Some.ensures.value))) c.insert.ensures.new c.insert.ensures.ok c.insert.ensures.err).1

pub returns-in_err-insert-clause-puts : goal.returns-in_err-insert-clause-puts
returns-in_err-insert-clause-puts g c = put_refused g.K.StoredKey.bytes g.K.Ord.cmp g.met.K.StoredKey.by_bytes (g.Q.Comparable.compare c.args.key) (g.Q.Wanted.wanted c.args.key) (g.met.Q.Wanted.finds c.args.key) c.args.number c.args.sets.now c.get_mut.follows.lender-at-none c.requires c.from_residual.result c.from_residual.ensures.0 (ap (λ m. m.entries) c.get_mut.follows.holds-at-none)

pub returns-in_err-stored-clause-puts : goal.returns-in_err-stored-clause-puts
returns-in_err-stored-clause-puts g c = put_refused g.K.StoredKey.bytes g.K.Ord.cmp g.met.K.StoredKey.by_bytes (g.Q.Comparable.compare c.args.key) (g.Q.Wanted.wanted c.args.key) (g.met.Q.Wanted.finds c.args.key) c.args.number c.args.sets.now c.get_mut.follows.lender-at-none c.requires c.from_residual-in_err-stored.result c.from_residual-in_err-stored.ensures.0 (ap (λ m. m.entries) c.get_mut.follows.holds-at-none)

pub returns-in_err-insert-2-clause-puts : goal.returns-in_err-insert-2-clause-puts
returns-in_err-insert-2-clause-puts g c = put_refused g.K.StoredKey.bytes g.K.Ord.cmp g.met.K.StoredKey.by_bytes (g.Q.Comparable.compare c.args.key) (g.Q.Wanted.wanted c.args.key) (g.met.Q.Wanted.finds c.args.key) c.args.number c.args.sets.now c.insert-3.new.self c.requires c.from_residual-in_err-insert-2.result c.from_residual-in_err-insert-2.ensures.0 (c.in_err-insert-2.ensures.err ∙ ap (λ m. m.entries) c.get_mut.follows.holds-at-none)

pub returns-clause-full : goal.returns-clause-full
returns-clause-full g c = (put_fresh g.K.StoredKey.bytes g.K.Ord.cmp g.met.K.StoredKey.by_bytes (g.Q.Comparable.compare c.args.key) (g.Q.Wanted.wanted c.args.key) (g.met.Q.Wanted.finds c.args.key) c.args.number c.args.sets.now c.insert-3.new.self c.requires AllocError c.get_mut.follows.lender-at-none c.in_ok-stored.field-0 c.insert-2.new.self c.in_default.ensures.value c.get_mut.follows.holds-at-none c.in_ok-stored.ensures c.in_ok-insert-2.ensures.updates (c.in_ok-insert.ensures.ok ∙ ap (λ (s : Members). set.insert s c.args.number) c.new-fresh.ensures.empty)).0

pub returns-clause-puts : goal.returns-clause-puts
returns-clause-puts g c = (put_fresh g.K.StoredKey.bytes g.K.Ord.cmp g.met.K.StoredKey.by_bytes (g.Q.Comparable.compare c.args.key) (g.Q.Wanted.wanted c.args.key) (g.met.Q.Wanted.finds c.args.key) c.args.number c.args.sets.now c.insert-3.new.self c.requires AllocError c.get_mut.follows.lender-at-none c.in_ok-stored.field-0 c.insert-2.new.self c.in_default.ensures.value c.get_mut.follows.holds-at-none c.in_ok-stored.ensures c.in_ok-insert-2.ensures.updates (c.in_ok-insert.ensures.ok ∙ ap (λ (s : Members). set.insert s c.args.number) c.new-fresh.ensures.empty)).1

use Rattle.std.proofs.Common.{◌≡◌, ℕ, ◌+◌, Bool, true, false, ◌||◌, List, drop, refl, sym, ap, ◌∙◌}
use Rattle.std.specs.Prelude.{nat_eq}
use Rattle.schema.specs.Superclasses.{has_number}
use Rattle.schema.proofs.Rest.{first_left, none_left}
use Rattle.schema.proofs.type_set.TypeSet.with_all.Goals as goal

swap : (a b c : Bool) → (b || (a || c)) ≡ ((a || b) || c)
swap true true c = refl
swap true false c = refl
swap false b c = refl

pub loop-t-preserved : goal.loop-t-preserved
loop-t-preserved c n =
    let rest = drop (c.loop-t.t-index + 1) c.args.more.now in
    ap (λ b. has_number rest n || b) (c.in_ok-set.ensures n)
    ∙ swap (nat_eq n c.t-item.result) (has_number rest n) (has_number c.loop-t.set n)
    ∙ ap (λ (ts : List ℕ). has_number ts n || has_number c.loop-t.set n) (sym (first_left c.args.more.now _ c.loop-t.t-index refl c.t-item.result c.loop-t-test.true c.t-item.is))
    ∙ c.loop-t.invariant n

pub returns : goal.returns
returns c n =
    sym (ap (λ (ts : List ℕ). has_number ts n || has_number c.loop-t.set n) (none_left c.args.more.now _ c.loop-t.t-index refl c.loop-t-test.false)) ∙ c.loop-t.invariant n

use Rattle.std.proofs.Common.{◌≡◌, ◌||◌, ℕ, Bool, true, false, List, refl, subst}
use Rattle.server_schema.specs.declared.taking.Candidate.{Candidate}
use Rattle.server_schema.specs.Growth.{Grows, AreAmong, Marks, definitions_of_all}
use Rattle.server_schema.proofs.Growing.{stays, then_grows, then_grows_more}
use Rattle.server_schema.proofs.Marking.{then_marks, marks_among, marks_itself}
use Rattle.server_schema.proofs.growth.grow.Goals as goal

or_true : (a b : Bool) → b ≡ true → (a || b) ≡ true
or_true true b h = refl
or_true false b h = h

or_false : (a b : Bool) → b ≡ false → (a || b) ≡ a
or_false true b h = refl
or_false false b h = h

abbrev HasGrown : List ℕ → List Candidate → List ℕ → List Candidate → Bool → Type 0
HasGrown a cs b left changed = Grows a (definitions_of_all cs) b (definitions_of_all left) changed × Marks cs left changed

-- one round more
round : (a b d e : List ℕ) (cs left settled seen rest : List Candidate) (was grew changed : Bool) → (was || grew) ≡ changed → HasGrown a cs b left was
    → Grows b (definitions_of_all left) d (definitions_of_all settled) false → AreAmong settled left → seen ≡ settled → HasGrown d seen e rest grew → HasGrown a cs e rest changed
round a b d e cs left settled seen rest was grew changed is so_far settles among same tried =
    let last = subst (λ (ds : List Candidate). HasGrown d ds e rest grew) same tried in
    subst (HasGrown a cs e rest) is (
      then_grows _ _ _ _ _ _ _ _ (then_grows_more _ _ _ _ _ _ _ so_far.0 settles) last.0,
      then_marks _ _ _ _ _ so_far.1 (marks_among _ _ _ _ among last.1),
    )

pub loop-init : goal.loop-init
loop-init c = record { grows = stays _ _; marks = marks_itself _ }

pub returns-then-not-grew : goal.returns-then-not-grew
returns-then-not-grew c =
    let k = round _ _ _ _ _ _ _ _ _ _ _ _ (or_false _ _ c.if-not-grew.true) (c.loop.invariant.grows, c.loop.invariant.marks) c.in_ok-settled.ensures.grows c.in_ok-settled.ensures.among
    c.deref.ensures.value (c.in_ok-passed.ensures.grows, c.in_ok-passed.ensures.marks) in
    record { grows = k.0; marks = k.1 }

pub loop-preserved : goal.loop-preserved
loop-preserved c =
    let k = round _ _ _ _ _ _ _ _ _ _ _ _ (or_true _ _ c.if-not-grew.false) (c.loop.invariant.grows, c.loop.invariant.marks) c.in_ok-settled.ensures.grows c.in_ok-settled.ensures.among
    c.deref.ensures.value (c.in_ok-passed.ensures.grows, c.in_ok-passed.ensures.marks) in
    record { grows = k.0; marks = k.1 }

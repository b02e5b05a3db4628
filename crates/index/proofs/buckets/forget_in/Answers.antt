use Rattle.std.proofs.Common.{◌≡◌, ◌<◌, length, get_or, ap, ◌∙◌, List, ℕ, arith}
use Rattle.std.specs.FinMap as finite
use Rattle.std.specs.FinSet as set
use Rattle.std.proofs.lemmas.List.{get_or_default}
use Rattle.index_text.specs.KeySets.{SetsByKey, members_in}
use Rattle.index.proofs.Gathered.{lost_buckets, lost_members, lost_within}
use Rattle.index.proofs.buckets.forget_in.Goals as goal

pub loop-bucket-preserved : goal.loop-bucket-preserved
loop-bucket-preserved c =
    let i = c.loop-bucket.bucket-index in
    let lost : (key : List ℕ) → members_in c.forget.new.self key ≡ set.remove (members_in (get_or c.loop-bucket.sets i finite.empty) key) c.args.number = λ key. c.forget.ensures key ∙ ap (λ (s : SetsByKey). set.remove (members_in s key) c.args.number) (get_or_default c.loop-bucket.sets i _ finite.empty (let early = c.loop-bucket-test.true in let long = c.loop-bucket.auto.sets in omega (arith, early, long))) in
    let less : i < length c.loop-bucket.sets = let early = c.loop-bucket-test.true in let long = c.loop-bucket.auto.sets in omega (arith, early, long) in
    record {
      buckets = lost_buckets c.args.sets.now c.loop-bucket.sets c.args.number i c.forget.new.self c.loop-bucket.invariant.buckets less c.is_full.ensures lost;
      members = lost_members c.args.sets.now c.loop-bucket.sets c.args.number i c.forget.new.self c.loop-bucket.invariant.buckets less c.is_full.ensures lost c.loop-bucket.invariant.members;
    }

pub returns-clause-members : goal.returns-clause-members
returns-clause-members c = lost_within c.args.sets.now c.loop-bucket.sets c.args.number c.loop-bucket.bucket-index (let all = c.loop-bucket-test.false in omega (arith, all)) c.loop-bucket.invariant.members

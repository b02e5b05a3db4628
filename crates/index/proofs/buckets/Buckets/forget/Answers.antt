use Rattle.std.proofs.Common.{◌≡◌, length, List, sym, ap, ◌∙◌}
use Rattle.std.proofs.lemmas.List.{with_items_is}
use Rattle.std.specs.Vec.{with_items}
use Rattle.std.specs.FinSet as set
use Rattle.index_text.specs.KeySets.{Members, SetsByKey}
use Rattle.index.specs.inner.Buckets.{gathered, members_within}
use Rattle.index.proofs.Gathered.{gathered_is}
use Rattle.index.proofs.buckets.Buckets.forget.Goals as goal

pub returns : goal.returns
returns c q =
    let long : length c.forget_in.new.sets ≡ c.self.inside.sets.len = let same = c.forget_in.auto.sets in let all = c.as_mut_slice.ensures.value in cc in
    gathered_is c.forget_in.new.sets (gathered (with_items c.self.inside.sets c.forget_in.new.sets).items) (ap gathered (sym (with_items_is c.self.inside.sets c.forget_in.new.sets long))) c.forget_in.ensures.buckets q ∙ c.forget_in.ensures.members q ∙ ap (λ (bs : List SetsByKey). set.remove (members_within bs q) c.args.number) c.as_mut_slice.ensures.value ∙ ap (λ (s : Members). set.remove s c.args.number) (sym (gathered_is c.self.inside.sets.items c.args.self.now c.self.view_is c.self.invariant q))

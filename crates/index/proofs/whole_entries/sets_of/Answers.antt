use Rattle.std.proofs.Common.{refl, ap, ◌∙◌}
use Rattle.std.proofs.lemmas.Bool.{both_ways}
use Rattle.std.specs.FinSet as set
use Rattle.std.specs.Ordering.{nat_cmp}
use Rattle.std.specs.Str.{bytes_eq}
use Rattle.index_text.specs.KeySets.{SetsByKey, members_in}
use Rattle.index.proofs.Edits.{bytes_own, bytes_are, none_counted, came_counted}
use Rattle.index.proofs.Keyed.{none_in}
use Rattle.index.proofs.WholeEntries.{none_yet, one_norm, puts_grow}
use Rattle.index.proofs.whole_entries.sets_of.Goals as goal

pub loop-numbered-init : goal.loop-numbered-init
loop-numbered-init c = record {
  so_far = none_yet c.args.kind c.new-sets.result c.new-sets.ensures;
  counted = none_counted bytes_eq bytes_own bytes_are (λ q. set.empty) (members_in c.new-sets.result) c.args.edits.now c.args.edits.now (λ q. ap (λ (x : SetsByKey). members_in x q) c.new-sets.ensures ∙ none_in q) refl;
}

pub loop-numbered-preserved : goal.loop-numbered-preserved
loop-numbered-preserved c = record {
  so_far = one_norm c.args.kind c.args.norms.now c.loop-numbered.numbered-index _ c.loop-numbered.sets c.put_norm.new.sets c.loop-numbered-test.true c.in_ok-put_norm.ensures.put c.loop-numbered.invariant.so_far;
  counted = came_counted bytes_eq bytes_own bytes_are (λ q. set.empty) (members_in c.loop-numbered.sets) (members_in c.put_norm.new.sets) c.args.edits.now c.loop-numbered.edits c.put_norm.new.edits
      c.loop-numbered.invariant.counted c.in_ok-put_norm.ensures.counted
      (λ q n h. absurd (both_ways _ (set.contains-empty nat_cmp n) h))
      (puts_grow _ _ c.loop-numbered.sets c.put_norm.new.sets c.in_ok-put_norm.ensures.put);
}

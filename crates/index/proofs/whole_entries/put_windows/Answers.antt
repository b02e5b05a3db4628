use Rattle.std.proofs.Common.{refl, ◌∙◌}
use Rattle.std.specs.Str.{bytes_eq}
use Rattle.index_keys.specs.EntryKeys.{windows}
use Rattle.index_text.specs.KeySets.{members_in}
use Rattle.index.proofs.Edits.{bytes_own, bytes_are, none_counted, came_counted, grows_by, grows_on}
use Rattle.index.proofs.WholeEntries.{one_key}
use Rattle.index.proofs.whole_entries.put_windows.Goals as goal

pub loop-first-init : goal.loop-first-init
loop-first-init c = record {
  rest = λ q n. refl;
  counted = none_counted bytes_eq bytes_own bytes_are (members_in c.args.sets.now) (members_in c.args.sets.now) c.args.edits.now c.args.edits.now (λ q. refl) refl;
  more = λ q n h. h;
}

pub loop-first-preserved : goal.loop-first-preserved
loop-first-preserved c = record {
  rest = λ q n.
      one_key c.loop-first.sets c.put_key.new.sets c.args.number c.in-Some.first.0.now (windows c.in-Some.first.1.now) (windows c.loop-first.left.now) c.in-Some.ensures.windows c.in_ok-put_key.ensures.came q n
      ∙ c.loop-first.invariant.rest q n;
  counted = came_counted bytes_eq bytes_own bytes_are (members_in c.args.sets.now) (members_in c.loop-first.sets) (members_in c.put_key.new.sets) c.args.edits.now c.loop-first.edits c.put_key.new.edits
      c.loop-first.invariant.counted c.in_ok-put_key.ensures.counted c.loop-first.invariant.more
      (grows_by (members_in c.loop-first.sets) (members_in c.put_key.new.sets) _ c.args.number c.in_ok-put_key.ensures.came);
  more = grows_on (members_in c.args.sets.now) (members_in c.loop-first.sets) (members_in c.put_key.new.sets) c.loop-first.invariant.more
      (grows_by (members_in c.loop-first.sets) (members_in c.put_key.new.sets) _ c.args.number c.in_ok-put_key.ensures.came);
}

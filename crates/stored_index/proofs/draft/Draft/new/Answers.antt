use Rattle.std.proofs.Common.{[], refl}
use Rattle.stored_index.proofs.DraftEnds.{whole_comes}
use Rattle.stored_index.proofs.draft.Draft.new.Goals as goal

pub returns-clause-goes : goal.returns-clause-goes
returns-clause-goes c = record {
  done = [];
  rows = [];
  slots_kept = c.new.ensures.slots;
  rows_kept = c.new.ensures.rows;
  last = c.new.ensures.word;
  alone = λ none. refl;
  closed = λ end. refl;
  goes_on = whole_comes c.args.given.conf.now c.args.given.entries c.args.given.stamp.now c.slots.result.now c.slots.ensures;
}

use Rattle.std.proofs.Common.{◌∙◌, ap}
use Rattle.values.specs.Norms.{but_norm}
use Rattle.entries.specs.inner.ValuesDrafts.{left_from}
use Rattle.entries.proofs.LeftFrom.{removed, left_removed}
use Rattle.entries.proofs.values_draft.remove_places.Goals as goal

pub returns-clause-places : goal.returns-clause-places
returns-clause-places c = record {
  left = left_removed c.args.places.now.since c.remove.new.self c.in_ok-key.key c.remove.ensures.updates.0 c.args.values.now c.requires.left;
  count = c.requires.count;
  all = λ never. absurd cc;
}

pub returns-clause-values : goal.returns-clause-values
returns-clause-values c =
    removed c.args.places.now.since c.remove.new.self c.in_ok-key.key c.remove.ensures.updates.0 c.args.values.now 0
    ∙ ap (λ n. but_norm n (left_from c.args.places.now.since 0 c.args.values.now)) c.in_ok-key.ensures

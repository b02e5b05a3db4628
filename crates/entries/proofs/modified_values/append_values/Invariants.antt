use Rattle.std.proofs.Common.{◌≡◌, drop}
use Rattle.base.specs.Answers.{through}
use Rattle.entries.specs.StoredEntries.{raws, AreNormal}
use Rattle.entries.specs.Modifies.{append_value}
use Rattle.entries.proofs.modified_values.append_values.Given as goal

abbrev pub invariant-loop-raw : goal.invariant-loop-raw
invariant-loop-raw l = record {
  normal : AreNormal l.conf.types l.t l.values;
  rest : through (append_value l.conf.types l.t) (raws l.values) (drop l.raw-index l.texts) ≡ through (append_value l.conf.types l.t) (raws l.fn.values) l.texts;
}

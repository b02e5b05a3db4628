use Rattle.std.proofs.Common.{rules, tests, not}
use Rattle.std.proofs.lemmas.Iterator.Consumers.{map_from_collect, YieldsList-at, YieldsList-from_filter}
use Rattle.std.proofs.lemmas.Iterator.Splits.{YieldsList-from_slice_split}
use Rattle.dir_conf.specs.IndexLines.{is_empty}
use Rattle.checks.specs.LostNames.{ends_piece}
use Rattle.checks.proofs.lost_names.pieces.Goals as goal

pub returns : goal.returns
returns c =
    map_from_collect c.collect.result c.collect.ensures.ran
    (YieldsList-from_filter _ (λ w. not (is_empty w))
    (YieldsList-at c.filter.ensures.source (YieldsList-from_slice_split _ ends_piece c.args.text.now c.split.ensures.rest c.split.ensures.done c.split.ensures.closure (λ x r q k. search (rules, tests))))
    c.filter.ensures.closure (λ x r q k. search (rules, tests)))

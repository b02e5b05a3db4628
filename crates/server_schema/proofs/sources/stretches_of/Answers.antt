use Rattle.std.proofs.Common.{rules}
use Rattle.std.proofs.lemmas.Iterator.Consumers.{map_from_collect}
use Rattle.std.proofs.lemmas.Iterator.Splits.{YieldsList-from_slice_split}
use Rattle.definitions.specs.Lines.{is_line_feed}
use Rattle.server_schema.proofs.sources.stretches_of.Goals as goal

pub returns : goal.returns
returns c = map_from_collect _ c.collect.ensures.ran (YieldsList-from_slice_split _ is_line_feed c.args.text.now c.split.ensures.rest c.split.ensures.done c.split.ensures.closure (search rules))

use Rattle.std.proofs.Common.{[]}
use Rattle.paths.specs.Packed.{pack}
use Rattle.paths.proofs.Unpacked.{reads_as, is_packed}
use Rattle.paths.proofs.draft.PathDraft.new.Goals as goal

pub invariant_of-result : goal.invariant_of-result
unfolding pack
invariant_of-result c = is_packed c.in_ok-with_capacity.field-0.items [] c.in_ok-with_capacity.ensures.items

pub returns : goal.returns
unfolding pack
returns c = reads_as c.in_ok-with_capacity.field-0.items [] c.in_ok-with_capacity.ensures.items

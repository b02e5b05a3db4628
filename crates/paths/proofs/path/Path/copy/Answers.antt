use Rattle.std.proofs.Common.{◌∙◌}
use Rattle.paths.proofs.Unpacked.{reads_as, is_packed}
use Rattle.paths.proofs.path.Path.copy.Goals as goal

pub invariant_of-result : goal.invariant_of-result
invariant_of-result c = is_packed c.in_ok-from_slice.field-0.items c.args.self.now (c.in_ok-from_slice.ensures.ok ∙ c.bytes.ensures)

pub returns : goal.returns
returns c = reads_as c.in_ok-from_slice.field-0.items c.args.self.now (c.in_ok-from_slice.ensures.ok ∙ c.bytes.ensures)

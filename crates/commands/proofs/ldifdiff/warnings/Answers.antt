use Rattle.commands.proofs.Compared.{one_line_more}
use Rattle.commands.proofs.ldifdiff.warnings.Goals as goal

pub loop-i-preserved : goal.loop-i-preserved
loop-i-preserved c = one_line_more c.loop-i.text.items c.as_bytes.result.now c.extend_from_slice.new.self.items c.loop-i.i c.loop-i.invariant c.as_bytes.ensures c.in_ok-extend_from_slice.ensures.items

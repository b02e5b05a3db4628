use Rattle.std.proofs.Common.{arith}
use Rattle.ldif.specs.Writing.{line_text}
use Rattle.checks.proofs.Unfolded.{whole}
use Rattle.checks.proofs.reports.put_whole_line.Goals as goal

pub returns : goal.returns
returns c =
    let text = c.put_line_to.new.out in
    whole c.unfolded.result (line_text c.args.name.now c.args.value.now) c.args.out.now.items text.items c.unfolded.ensures c.in_ok-put_line_to.ensures.put
    (omega (arith, text.ok.0, text.ok.1, text.small))

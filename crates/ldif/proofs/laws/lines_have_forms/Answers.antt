use Rattle.ldif.proofs.ValueForms.{line_found, line_only}
use Rattle.ldif.proofs.laws.lines_have_forms.Goals as goal

pub returns : goal.returns
returns c line attr bytes = (line_found line attr bytes, line_only line attr)

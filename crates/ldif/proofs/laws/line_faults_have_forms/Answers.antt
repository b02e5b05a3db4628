use Rattle.ldif.proofs.LineFaults.{fault_found, fault_only}
use Rattle.ldif.proofs.laws.line_faults_have_forms.Goals as goal

pub returns : goal.returns
returns c line fault bytes = (fault_found line fault bytes, fault_only line fault bytes)

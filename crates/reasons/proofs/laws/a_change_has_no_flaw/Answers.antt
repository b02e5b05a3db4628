use Rattle.reasons.proofs.Told.{changed}
use Rattle.reasons.proofs.laws.a_change_has_no_flaw.Goals as goal

pub returns : goal.returns
returns c conf mode d r change = changed conf mode d r change

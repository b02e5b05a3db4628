use Rattle.filter_text.proofs.Readings.{one_text}
use Rattle.filter_text.proofs.laws.one_reading.Goals as goal

pub returns : goal.returns
returns c = one_text

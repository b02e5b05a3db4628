use Rattle.candidates.proofs.Allowed.{of_contents}
use Rattle.candidates.proofs.laws.brackets_hold.Goals as goal

pub returns : goal.returns
returns c = of_contents c.pieces_are_told.ensures c.prepared_filters_say_the_same.ensures

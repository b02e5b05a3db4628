use Rattle.filter.proofs.PieceTests.{fits_told}
use Rattle.filter.proofs.laws.pieces_are_told.Goals as goal

pub returns : goal.returns
returns c = λ front back pieces text. fits_told front back pieces text

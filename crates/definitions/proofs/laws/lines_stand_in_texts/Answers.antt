use Rattle.definitions.proofs.LinesStand.{lines_stand, lines_are_read}
use Rattle.definitions.proofs.laws.lines_stand_in_texts.Goals as goal

pub returns-clause-only : goal.returns-clause-only
returns-clause-only c = lines_stand

pub returns-clause-found : goal.returns-clause-found
returns-clause-found c = lines_are_read

use Rattle.databases.proofs.Places.{rank_is_place}
use Rattle.databases.proofs.laws.ranks_are_places.Goals as goal

pub returns : goal.returns
returns c = rank_is_place

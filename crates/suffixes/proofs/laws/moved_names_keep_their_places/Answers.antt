use Rattle.suffixes.proofs.MovedPlaces.{moved_place, other_place}
use Rattle.suffixes.proofs.laws.moved_names_keep_their_places.Goals as goal

pub returns-clause-place : goal.returns-clause-place
returns-clause-place c = λ conf name rdns value rs ok said at. moved_place c.spelled_names_are_read.ensures.read conf ok name rdns said value rs at

pub returns-clause-others : goal.returns-clause-others
returns-clause-others c = other_place

use Rattle.suffixes.proofs.MovedSteps.{are_moved}
use Rattle.suffixes.proofs.laws.each_entry_is_moved.Goals as goal

pub returns : goal.returns
returns c = λ conf rdns name d moved ok ok_new h said.
    are_moved c.printed_names_name_their_types.ensures.names c.written_names_are_located.ensures.located conf rdns ok ok_new name d h moved said

use Rattle.stored_index.proofs.HeaderFaults.{text_fault}
use Rattle.stored_index.proofs.laws.faults_stand_at_lines.Goals as goal

pub returns : goal.returns
returns c conf entries stamp text kind is e =
    text_fault conf (record { found = λ t known. c.printed_names_name_their_types.ensures.names conf t is known; plain = λ t known. c.printed_names_name_their_types.ensures.texts conf t is known }) entries stamp text kind e

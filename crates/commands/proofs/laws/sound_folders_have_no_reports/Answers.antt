use Rattle.commands.proofs.SoundFolders.{conf_agrees, data_agrees, index_agrees}
use Rattle.commands.proofs.laws.sound_folders_have_no_reports.Goals as goal

pub returns-clause-conf : goal.returns-clause-conf
returns-clause-conf c = conf_agrees

pub returns-clause-data : goal.returns-clause-data
returns-clause-data c = data_agrees

pub returns-clause-index : goal.returns-clause-index
returns-clause-index c = index_agrees

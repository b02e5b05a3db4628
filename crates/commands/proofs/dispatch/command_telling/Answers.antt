use Rattle.commands.proofs.dispatch.command_telling.Goals as goal

pub returns-then-is_verbose-clause-ends : goal.returns-then-is_verbose-clause-ends
returns-then-is_verbose-clause-ends g c = record {
  asked = c.read-asked.result;
  asks = c.read-asked.ensures.asked;
  faulty = c.read-asked.ensures.faulty;
  help = c.read-asked.ensures.help;
  ended = c.end_command.ensures.ends;
}

pub returns-clause-ends : goal.returns-clause-ends
returns-clause-ends g c = record {
  asked = c.read-asked.result;
  asks = c.read-asked.ensures.asked;
  faulty = c.read-asked.ensures.faulty;
  help = c.read-asked.ensures.help;
  ended = c.end_command-2.ensures.ends;
}

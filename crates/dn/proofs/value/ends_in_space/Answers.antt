use Rattle.dn.proofs.Plain.{last_at}
use Rattle.dn.proofs.value.ends_in_space.Goals as goal

pub returns-in-len1-up : goal.returns-in-len1-up
returns-in-len1-up c = last_at c.args.text.now c.in-len1-up.len_at_least

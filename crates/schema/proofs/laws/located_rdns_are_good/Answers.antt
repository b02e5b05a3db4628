use Rattle.schema.proofs.Found.{located_are}
use Rattle.schema.proofs.laws.located_rdns_are_good.Goals as goal

pub returns : goal.returns
returns c = located_are (λ text n. (c.spelled_names_are_read.ensures.read text n).0)

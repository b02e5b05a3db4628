use Rattle.sorting.proofs.Numbered.{put}
use Rattle.sorting.proofs.turns.put_number.Goals as goal

pub returns : goal.returns
returns c =
    put c.in-Some.name c.in_ok-copy.field-0 c.args.name.now c.args.number c.args.numbers.now c.insert.new.self c.in_ok-copy.ensures c.in-Some.is c.in_ok-insert.ensures.updates.0

use Rattle.std.proofs.Common.{None, ◌∙◌}
use Rattle.commands.proofs.Loading.{loaded_so, opened_so, missing_so}
use Rattle.commands.proofs.Stopping.{load_told}
use Rattle.commands.proofs.database.load_entries.Goals as goal

pub returns-in-Ok-clause-loaded : goal.returns-in-Ok-clause-loaded
returns-in-Ok-clause-loaded g c =
    loaded_so _ _ c.args.conf c.requires c.as_str.result.now (c.as_str.ensures.value ∙ c.in_ok-name.ensures) _
    (opened_so _ _ _ _ _ c.in_ok-source.ensures.finds c.in-Some.is) c.in-Ok.database c.in-Ok.ensures.same_conf c.in-Ok.ensures.loads

pub returns-in-Some-clause-err : goal.returns-in-Some-clause-err
returns-in-Some-clause-err g c =
    load_told _ _ c.args.conf c.as_str-in-Err.result.now c.as_str.result.now _ c.in-Err.fault c.of_load.result c.of_load.ensures (c.as_str-in-Err.ensures.value ∙ c.in_ok-name.ensures) c.requires
    (c.as_str.ensures.value ∙ c.in_ok-name.ensures) (opened_so _ _ _ _ _ c.in_ok-source.ensures.finds c.in-Some.is) c.in-Err.ensures.stops

pub returns-clause-loaded : goal.returns-clause-loaded
returns-clause-loaded g c =
    loaded_so _ _ c.args.conf c.requires c.as_str.result.now (c.as_str.ensures.value ∙ c.in_ok-name.ensures) None
    (missing_so _ _ _ _ c.in_ok-source.ensures.finds c.in-None.is) c.new.result c.new.ensures.same_conf c.new.ensures.empty

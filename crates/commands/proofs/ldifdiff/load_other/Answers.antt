use Rattle.std.proofs.Common.{refl, ap}
use Rattle.std.specs.Option.{option_copied}
use Rattle.std.proofs.lemmas.Result.{IfOk-weaker}
use Rattle.commands.proofs.OtherLoaded.{from_input, input_fails, from_file, file_fails}
use Rattle.commands.proofs.Stopping.{of_faults}
use Rattle.commands.proofs.ldifdiff.load_other.Goals as goal

pub returns-in_default-clause-loads : goal.returns-in_default-clause-loads
returns-in_default-clause-loads g c = IfOk-weaker c.load_source.result _ _
    (λ t loads w. from_input (option_copied c.args.asked.now.file) c.args.conf.now _ _ (ap option_copied c.in_default.is) t.entries loads refl)
    c.load_source.ensures.loads

pub returns-in_default-clause-lacks : goal.returns-in_default-clause-lacks
returns-in_default-clause-lacks g c = of_faults c.load_source.result
    (λ fault fails w. input_fails (option_copied c.args.asked.now.file) c.args.conf.now _ _ (ap option_copied c.in_default.is) fault fails refl)
    c.load_source.ensures.fails

pub returns-in-Ok-clause-loads : goal.returns-in-Ok-clause-loads
returns-in-Ok-clause-loads g c = IfOk-weaker c.load_source-in-Ok.result _ _
    (λ t loads w. from_file (option_copied c.args.asked.now.file) c.args.conf.now _ c.in-Some.name.now (ap option_copied c.in-Some.is) _ c.in-Ok.ensures.finds t.entries loads)
    c.load_source-in-Ok.ensures.loads

pub returns-in-Ok-clause-lacks : goal.returns-in-Ok-clause-lacks
returns-in-Ok-clause-lacks g c = of_faults c.load_source-in-Ok.result
    (λ fault fails w. file_fails (option_copied c.args.asked.now.file) c.args.conf.now _ c.in-Some.name.now (ap option_copied c.in-Some.is) _ c.in-Ok.ensures.finds fault fails)
    c.load_source-in-Ok.ensures.fails

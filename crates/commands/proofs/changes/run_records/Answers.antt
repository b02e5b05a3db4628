use Rattle.std.proofs.Common.{Option, ℕ, List, refl, sym, ap, subst}
use Rattle.std.specs.Prelude.{Err}
use Rattle.std.specs.Option.{option_copied}
use Rattle.std.proofs.lemmas.Result.{IfOk-weaker}
use Rattle.commands.specs.Changes.{Breaks, source_name, HasNoSource}
use Rattle.commands.specs.inner.Views.{run_of}
use Rattle.commands.specs.declared.messages.Stop.TheVariants as stops
use Rattle.commands.proofs.Running.{of_input, of_file, not_opened, broken_off}
use Rattle.commands.proofs.Stopping.{of_faults}
use Rattle.commands.proofs.changes.run_records.Goals as goal

pub returns-in_default-clause-ran : goal.returns-in_default-clause-ran
returns-in_default-clause-ran g c = IfOk-weaker c.run_source.result _ _
    (λ t ran w. of_input c.args.task.now _ _ _ c.requires.loaded (ap option_copied c.in_default.is) (ran (record w { files = g.F.Folder.files c.args.folder.now })))
    c.run_source.ensures.ran

pub returns-in_default-clause-stops : goal.returns-in_default-clause-stops
returns-in_default-clause-stops g c = of_faults c.run_source.result
    (λ why broke w. broken_off c.args.task.now (run_of c.args.database.now c.run_source.new.database (Err broke.0)) _ _ broke.0 why refl
    (of_input c.args.task.now _ _ _ c.requires.loaded (ap option_copied c.in_default.is) (broke.2 (record w { files = g.F.Folder.files c.args.folder.now })))
    (subst (λ (file : Option (List ℕ)). Breaks broke.0 (source_name file) why) (sym (ap option_copied c.in_default.is)) broke.1))
    c.run_source.ensures.broke

pub returns-in-Ok-clause-ran : goal.returns-in-Ok-clause-ran
returns-in-Ok-clause-ran g c = IfOk-weaker c.run_source-in-Ok.result _ _
    (λ t ran w. of_file c.args.task.now _ _ _ c.requires.loaded c.in-Some.name.now _ _ (ap option_copied c.in-Some.is) c.in-Ok.ensures.finds refl
    (ran (record w { files = g.F.Folder.files c.args.folder.now })))
    c.run_source-in-Ok.ensures.ran

pub returns-in-Ok-clause-stops : goal.returns-in-Ok-clause-stops
returns-in-Ok-clause-stops g c = of_faults c.run_source-in-Ok.result
    (λ why broke w. broken_off c.args.task.now (run_of c.args.database.now c.run_source-in-Ok.new.database (Err broke.0)) _ _ broke.0 why refl
    (of_file c.args.task.now _ _ _ c.requires.loaded c.in-Some.name.now _ _ (ap option_copied c.in-Some.is) c.in-Ok.ensures.finds refl
    (broke.2 (record w { files = g.F.Folder.files c.args.folder.now })))
    (subst (λ (file : Option (List ℕ)). Breaks broke.0 (source_name file) why) (sym (ap option_copied c.in-Some.is)) broke.1))
    c.run_source-in-Ok.ensures.broke

pub returns-in-Err-clause-stops : goal.returns-in-Err-clause-stops
returns-in-Err-clause-stops g c =
    λ w. not_opened c.args.task.now _ _ _ _ c.requires.loaded
    (subst (λ (file : Option (List ℕ)). HasNoSource file (stops.Fault c.in-Err.fault)) (sym (ap option_copied c.in-Some.is)) c.in-Err.ensures.err)

pub returns-in-Err-clause-ran : goal.returns-in-Err-clause-ran
returns-in-Err-clause-ran g c =
    tt

pub returns-in_default-clause-can_report : goal.returns-in_default-clause-can_report
returns-in_default-clause-can_report g c = c.run_source.ensures.can_report

pub returns-in-Err-clause-can_report : goal.returns-in-Err-clause-can_report
returns-in-Err-clause-can_report g c =
    c.requires.err

pub returns-in-Ok-clause-can_report : goal.returns-in-Ok-clause-can_report
returns-in-Ok-clause-can_report g c = c.run_source-in-Ok.ensures.can_report

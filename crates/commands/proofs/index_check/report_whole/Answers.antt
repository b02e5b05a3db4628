use Rattle.std.proofs.Common.{◌≡◌, ◌++◌, List, ℕ, Some, subst}
use Rattle.commands.specs.Checks.{index_report}
use Rattle.commands.proofs.Checked.{read_so}
use Rattle.commands.proofs.index_check.report_whole.Goals as goal

pub returns-in-Ok-report_text-clause-reported : goal.returns-in-Ok-report_text-clause-reported
returns-in-Ok-report_text-clause-reported g c =
    let database = c.args.database.now in
    record {
      index = Some c.in-Ok-contents.text.items;
      there = read_so _ c.args.name.now _ c.in-Ok-contents.text.items c.in-Ok.ensures.finds c.in-Ok-contents.ensures.bytes;
      put = subst (λ (text : List ℕ). c.report_text.new.out.items ≡ c.args.out.now.items ++ index_report database.conf database.entries text) c.as_slice.ensures.value c.in-Ok-report_text.ensures;
    }

use Rattle.std.proofs.Common.{◌∙◌, ◌++◌, List, ℕ, codes, ap}
use Rattle.std.specs.Option.{option_copied}
use Rattle.checks.specs.Reports.{refused_reports}
use Rattle.commands.specs.Checks.{file_reports}
use Rattle.commands.proofs.Checked.{three_put}
use Rattle.commands.proofs.check.put_told.Goals as goal

pub returns : goal.returns
returns c =
    let told = c.args.told.now in
    let old = c.args.text.now.items in
    let file = option_copied c.args.file in
    let name = codes "data.ldif" in
    three_put old (refused_reports name told.loaded.items) (file_reports file told.over.items) told.index.items
    c.report_refused.new.out.items c.report_file.new.text.items c.extend_from_slice.new.self.items
    (c.in_ok-report_refused.ensures ∙ ap (λ (said : List ℕ). old ++ refused_reports name said) c.as_slice.ensures.value)
    (c.in_ok-report_file.ensures ∙ ap (λ (said : List ℕ). c.report_refused.new.out.items ++ file_reports file said) c.as_slice-2.ensures.value)
    (c.in_ok-extend_from_slice.ensures.items ∙ ap (λ (said : List ℕ). c.report_file.new.text.items ++ said) c.as_slice-3.ensures.value)

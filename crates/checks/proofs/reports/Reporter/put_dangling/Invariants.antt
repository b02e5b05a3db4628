use Rattle.std.proofs.Common.{◌≡◌, ◌++◌, drop}
use Rattle.std.specs.List.{flat_map}
use Rattle.checks.specs.Reports.{dangling_report}
use Rattle.checks.proofs.reports.Reporter.put_dangling.Given as goal

abbrev pub invariant-loop-value : goal.invariant-loop-value
invariant-loop-value l =
    l.out.items ++ flat_map (dangling_report l.self.conf.now l.self.tree.now.entries) (drop l.value-index l.found)
    ≡ l.fn.out.items ++ flat_map (dangling_report l.self.conf.now l.self.tree.now.entries) l.fn.found

use Rattle.std.proofs.Common.{◌≡◌, ◌++◌, drop}
use Rattle.std.specs.List.{flat_map}
use Rattle.checks.specs.Reports.{shared_report}
use Rattle.checks.proofs.reports.Reporter.put_shared.Given as goal

abbrev pub invariant-loop-shared : goal.invariant-loop-shared
invariant-loop-shared l =
    l.out.items ++ flat_map (shared_report l.self.conf.now l.self.tree.now.entries l.t) (drop l.shared-index l.found)
    ≡ l.fn.out.items ++ flat_map (shared_report l.self.conf.now l.self.tree.now.entries l.t) l.fn.found

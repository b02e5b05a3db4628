use Rattle.std.proofs.Common.{◌≡◌, ◌++◌, codes, drop}
use Rattle.std.specs.List.{flat_map}
use Rattle.checks.specs.Reports.{value_report}
use Rattle.checks.proofs.reports.Reporter.put_shared_value.Given as goal

abbrev pub invariant-loop-path : goal.invariant-loop-path
invariant-loop-path l =
    l.out.items ++ flat_map (λ p. value_report (codes "shared") l.self.conf.now l.self.tree.now.entries p l.t l.value) (drop l.path-index l.paths)
    ≡ l.fn.out.items ++ flat_map (λ p. value_report (codes "shared") l.self.conf.now l.self.tree.now.entries p l.t l.value) l.fn.paths

use Rattle.std.proofs.Common.{◌≡◌, ◌++◌, drop}
use Rattle.std.specs.List.{flat_map}
use Rattle.checks.specs.Reports.{type_reports}
use Rattle.checks.proofs.reports.Reporter.put_types.Given as goal

abbrev pub invariant-loop-t : goal.invariant-loop-t
invariant-loop-t l =
    l.out.items ++ flat_map (type_reports l.self.conf.now l.self.tree.now.entries) (drop l.t-index l.types)
    ≡ l.fn.out.items ++ flat_map (type_reports l.self.conf.now l.self.tree.now.entries) l.fn.types

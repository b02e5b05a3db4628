use Rattle.std.proofs.Common.{◌≡◌, ◌++◌, drop, map}
use Rattle.std.specs.Str.Lines.{strip_carriage_return}
use Rattle.server_schema.specs.Sources.{lines_from}
use Rattle.server_schema.proofs.sources.lines_from.Given as goal

abbrev pub invariant-loop-stretch : goal.invariant-loop-stretch
invariant-loop-stretch l =
    l.lines.items ++ lines_from l.line (map (λ x. strip_carriage_return x.now) (drop l.stretch-index l.others))
    ≡ lines_from (strip_carriage_return l.fn.first) (map (λ x. strip_carriage_return x.now) l.others)

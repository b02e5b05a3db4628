use Rattle.ldif_lines.specs.Reader.{bytes_left}
use Rattle.databases.specs.inner.Running.{standing, IsRunning}
use Rattle.databases.proofs.runs.run_rest.Given as goal

abbrev pub invariant-records : goal.invariant-records
invariant-records g l = IsRunning g.S.Source.seen g.T.Target.count_edits l.mode l.go_on
    (standing g.T.Target.conf g.T.Target.entries g.T.Target.edits g.W.Sink.written l.fn.target l.fn.reader l.fn.sink)
    (standing g.T.Target.conf g.T.Target.entries g.T.Target.edits g.W.Sink.written l.target l.reader l.sink) l.tally

abbrev pub decreases-records : goal.decreases-records
decreases-records g l = bytes_left g.S.Source.seen l.reader

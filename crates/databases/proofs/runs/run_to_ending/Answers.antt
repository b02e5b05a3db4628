use Rattle.std.proofs.Common.{subst, rules, arith}
use Rattle.std.proofs.lemmas.Grind.{common_steps}
use Rattle.databases.specs.Folds.{Runs}
use Rattle.databases.specs.RunEdits.{EditsRise}
use Rattle.databases.specs.inner.Endings.{tally_in}
use Rattle.databases.proofs.Pulled.{closed_when_fresh, stops_fresh, read_by, ends_fresh}
use Rattle.databases.proofs.runs.run_to_ending.Goals as goal

pub returns-clause-runs : goal.returns-clause-runs
returns-clause-runs g c =
    subst (λ all. Runs (g.T.Target.conf c.args.target.now) c.args.mode c.args.go_on (g.T.Target.entries c.args.target.now) (g.T.Target.entries c.run_rest.new.target) all (tally_in c.run_rest.result) (g.W.Sink.written c.args.sink.now) (g.W.Sink.written c.run_rest.new.sink)) c.new-reader.ensures.records c.run_rest.ensures.run.runs

pub returns-clause-read : goal.returns-clause-read
returns-clause-read g c =
    let r = c.new-reader.result in
    let place = c.new-reader.ensures.place in
    read_by _ c.run_rest.result (stops_fresh (tally_in c.run_rest.result) _ _ _ _ _ _ _ _ _ _ _ _ (closed_when_fresh r place.0 place.1 place.2) (search rules) (search rules) c.run_rest.ensures.run.read)

pub returns-clause-edits : goal.returns-clause-edits
returns-clause-edits g c =
    subst (λ all. EditsRise g.T.Target.count_edits (g.T.Target.conf c.args.target.now) c.args.mode c.args.go_on (g.T.Target.entries c.args.target.now) (g.T.Target.entries c.run_rest.new.target) all (tally_in c.run_rest.result) (g.T.Target.edits c.args.target.now) (g.T.Target.edits c.run_rest.new.target)) c.new-reader.ensures.records c.run_rest.ensures.run.edits

pub returns-clause-failures : goal.returns-clause-failures
returns-clause-failures g c = grind (arith, common_steps)

pub run_rest-requires-clause-source : goal.run_rest-requires-clause-source
run_rest-requires-clause-source g c = grind (arith, common_steps)

pub returns-clause-ending : goal.returns-clause-ending
returns-clause-ending g c = ends_fresh c.run_rest.result _ _ _ _ _ _ c.new-reader.ensures.records c.run_rest.ensures.ending

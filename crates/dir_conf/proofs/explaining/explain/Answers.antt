use Rattle.std.proofs.Common.{Option, List, subst, ◌∙◌}
use Rattle.definitions.specs.declared.lines.Line.{Line}
use Rattle.definitions.specs.Lines.{lines_of}
use Rattle.dir_conf.specs.declared.explaining.FlawAt.{FlawAt}
use Rattle.dir_conf.specs.inner.Passes.{LinesTell}
use Rattle.dir_conf.proofs.TypeFlaws.{TypesRead}
use Rattle.dir_conf.proofs.ClassFlaws.{ClassesRead}
use Rattle.dir_conf.proofs.Passes.{is_conf, is_reason}
use Rattle.dir_conf.proofs.explaining.explain.Goals as goal

pub returns-in-Some-clause-reason : goal.returns-in-Some-clause-reason
returns-in-Some-clause-reason c =
    let types : TypesRead = (c.spelled_types_are_read.ensures.only, c.spelled_types_are_read.ensures.found) in
    let classes : ClassesRead = (c.spelled_classes_are_read.ensures.only, c.spelled_classes_are_read.ensures.found) in
    is_reason types classes c.args.text.now c.in-Some.field-0
    (subst (λ (o : Option FlawAt). LinesTell (lines_of c.args.text.now) o) c.in-Some.is
    (subst (λ (ls : List Line). LinesTell ls c.in_ok-line.field-0) (c.deref.ensures.value ∙ c.in_ok-lines.ensures) c.in_ok-line.ensures))

pub returns-clause-reason : goal.returns-clause-reason
returns-clause-reason c =
    let types : TypesRead = (c.spelled_types_are_read.ensures.only, c.spelled_types_are_read.ensures.found) in
    let classes : ClassesRead = (c.spelled_classes_are_read.ensures.only, c.spelled_classes_are_read.ensures.found) in
    is_conf types classes c.args.text.now
    (subst (λ (o : Option FlawAt). LinesTell (lines_of c.args.text.now) o) c.in-None.is
    (subst (λ (ls : List Line). LinesTell ls c.in_ok-line.field-0) (c.deref.ensures.value ∙ c.in_ok-lines.ensures) c.in_ok-line.ensures))

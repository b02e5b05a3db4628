use Rattle.std.proofs.Common.{[], ◌∷◌, ◌++◌}
use Rattle.schema.specs.Names.{name_in}
use Rattle.reasons.specs.NameFlaws.{HasNameFlaw, OutsideSuffix, spelled_checks, rdn_checks}
use Rattle.reasons.specs.Reasons.{name_flaw_of}
use Rattle.reasons.proofs.Finding.{where_some, where_none, failed_by}
use Rattle.reasons.proofs.NameFound.{unreadable, place_ava}
use Rattle.reasons.proofs.explain_names.NameExplainer.own_flaw.Goals as goal

pub returns-in-Err-Code-clause-some : goal.returns-in-Err-Code-clause-some
returns-in-Err-Code-clause-some c =
    unreadable c.args.self.now.conf.now c.args.self.now.text.now c.in-Err-Code.field-0-0 (spelled_checks (name_in c.args.self.now.text.now) ++ OutsideSuffix ∷ [])
    (failed_by c.in-Err-Code.field-0 c.in-Err-Code.field-0-0 (name_in c.args.self.now.text.now) c.in-Err-Code.field-0-is c.in-Err-Code.ensures)

pub returns-in-Some-clause-some : goal.returns-in-Some-clause-some
returns-in-Some-clause-some c =
    place_ava c.args.self.now.conf.now c.args.self.now.text.now c.in-Ok.name c.in-Ok.ensures (name_flaw_of c.in-Some.why)
    (where_some (HasNameFlaw c.args.self.now.conf.now c.args.self.now.text.now) (rdn_checks 0 c.in-Ok.name) name_flaw_of c.in_ok-why.field-0 c.in-Some.why c.in-Some.is c.in_ok-why.ensures)

pub returns-in-None-clause-none : goal.returns-in-None-clause-none
returns-in-None-clause-none c = (
  c.in-Ok.name,
  c.in-Ok.ensures,
  where_none (HasNameFlaw c.args.self.now.conf.now c.args.self.now.text.now) (rdn_checks 0 c.in-Ok.name) name_flaw_of c.in_ok-why.field-0 c.in-None.is c.in_ok-why.ensures,
)

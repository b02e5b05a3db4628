use Rattle.std.proofs.Common.{Some}
use Rattle.reasons.specs.declared.explain_names.FaultyName.{FaultyName}
use Rattle.reasons.specs.NameFlaws.{HasNameFlaw, place_checks}
use Rattle.reasons.specs.Reasons.{name_flaw_of}
use Rattle.reasons.specs.inner.Found.{FindsFirst}
use Rattle.reasons.proofs.RecordFound.{if_some, if_none}
use Rattle.reasons.proofs.NameFound.{place_outside}
use Rattle.reasons.proofs.explain_names.NameExplainer.place_reason.Goals as goal

pub returns-in-Some : goal.returns-in-Some
returns-in-Some c =
    if_some (λ (f : FaultyName). FindsFirst (HasNameFlaw c.args.self.now.conf.now c.args.self.now.text.now) (place_checks c.args.self.now.text.now) (Some (name_flaw_of f.why)))
    c.in_ok-faulty.field-0 c.in-Some.faulty c.in-Some.is c.in_ok-faulty.ensures.some

pub returns-in-None : goal.returns-in-None
returns-in-None c =
    let fine = if_none _ c.in_ok-faulty.field-0 c.in-None.is c.in_ok-faulty.ensures.none in
    place_outside c.args.self.now.conf.now c.args.self.now.text.now fine.0 fine.1 c.requires.0 c.requires.1 fine.2

use Rattle.std.proofs.Common.{◌∷◌, length, Some, sym, ap, ◌∙◌}
use Rattle.dn.specs.Names as names
use Rattle.schema.specs.Names.{name_in}
use Rattle.reasons.specs.NameFlaws.{HasNameFlaw, NotOneRdn, spelled_checks, rdn_checks}
use Rattle.reasons.specs.Reasons.{name_flaw_of}
use Rattle.reasons.proofs.Finding.{where_some, where_none, failed_by}
use Rattle.reasons.proofs.NameFound.{unreadable, not_one, of_one, never_fine}
use Rattle.reasons.proofs.explain_names.NameExplainer.new_rdn_reason.Goals as goal

pub returns-in-Err-Code : goal.returns-in-Err-Code
returns-in-Err-Code c =
    unreadable c.args.self.now.conf.now c.args.self.now.text.now c.in-Err-Code.field-0-0 (NotOneRdn ∷ spelled_checks (name_in c.args.self.now.text.now))
    (failed_by c.in-Err-Code.field-0 c.in-Err-Code.field-0-0 (name_in c.args.self.now.text.now) c.in-Err-Code.field-0-is c.in-Err-Code.ensures)

pub returns-then-rdns-ne1 : goal.returns-then-rdns-ne1
returns-then-rdns-ne1 c =
    not_one c.args.self.now.conf.now c.args.self.now.text.now c.in-Ok.name c.in-Ok.ensures
    (λ one. c.if-rdns-ne1.true (ap (length {A = names.Rdn}) c.rdns.ensures.rdns ∙ one))

pub unreachable-requires : goal.unreachable-requires
unreachable-requires c =
    never_fine c.args.self.now.conf.now c.args.self.now.text.now c.in-Ok.name c.in-Ok.ensures c.requires.0 c.requires.1 (ap (length {A = names.Rdn}) (sym c.rdns.ensures.rdns) ∙ c.if-rdns-ne1.false)
    (where_none (HasNameFlaw c.args.self.now.conf.now c.args.self.now.text.now) (rdn_checks 0 c.in-Ok.name) name_flaw_of c.in_ok-why.field-0 c.in-None.is c.in_ok-why.ensures)

pub returns : goal.returns
returns c =
    of_one c.args.self.now.conf.now c.args.self.now.text.now c.in-Ok.name c.in-Ok.ensures (ap (length {A = names.Rdn}) (sym c.rdns.ensures.rdns) ∙ c.if-rdns-ne1.false) (Some (name_flaw_of c.in-Some.why))
    (where_some (HasNameFlaw c.args.self.now.conf.now c.args.self.now.text.now) (rdn_checks 0 c.in-Ok.name) name_flaw_of c.in_ok-why.field-0 c.in-Some.why c.in-Some.is c.in_ok-why.ensures)

use Rattle.std.proofs.Common.{map}
use Rattle.reasons.specs.Asked.{name_of_record}
use Rattle.reasons.specs.NameFlaws.{place_checks}
use Rattle.reasons.specs.Flaws.{Name}
use Rattle.reasons.specs.inner.Found.{later_checks}
use Rattle.reasons.proofs.RecordFound.{name_found, name_passed, found_behind, stands_there, refused_there, faulty_there}
use Rattle.reasons.proofs.explainer.Explainer.named.Goals as goal

pub returns-in-Some-clause-finds : goal.returns-in-Some-clause-finds
returns-in-Some-clause-finds c =
    let conf = c.args.self.now.conf.now in
    let r = c.args.self.now.asked.now in
    name_found conf c.args.self.now.mode c.args.self.now.tree.now.entries r c.in-Some.faulty.why
    (faulty_there conf c.args.dn.now (name_of_record r) c.in_ok-faulty.field-0 c.in-Some.faulty c.requires c.in-Some.is c.in_ok-faulty.ensures.why) (later_checks r)

pub returns-in_ok-reason-in-Ok-clause-finds : goal.returns-in_ok-reason-in-Ok-clause-finds
returns-in_ok-reason-in-Ok-clause-finds c =
    let conf = c.args.self.now.conf.now in
    let mode = c.args.self.now.mode in
    let d = c.args.self.now.tree.now.entries in
    let r = c.args.self.now.asked.now in
    let names = map Name (place_checks (name_of_record r)) in
    let stands = stands_there conf c.args.dn.now (name_of_record r) c.in_ok-place.field-0 c.in-Ok.place c.requires c.in-Ok.is c.in_ok-place.ensures in
    found_behind conf mode d r names (later_checks r) c.in_ok-reason-in-Ok.reason (name_passed conf mode d r c.in-Ok.place.path c.in-Ok.place.rdn stands.0) c.in_ok-reason-in-Ok.ensures

pub returns-in-Err-clause-finds : goal.returns-in-Err-clause-finds
returns-in-Err-clause-finds c =
    let conf = c.args.self.now.conf.now in
    let r = c.args.self.now.asked.now in
    name_found conf c.args.self.now.mode c.args.self.now.tree.now.entries r c.in-Err.why
    (refused_there conf c.args.dn.now (name_of_record r) c.in_ok-place.field-0 c.in-Err.why c.requires c.in-Err.is c.in_ok-place.ensures) (later_checks r)

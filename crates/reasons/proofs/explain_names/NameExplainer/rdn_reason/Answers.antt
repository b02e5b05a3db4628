use Rattle.std.proofs.Common.{◌≡◌, ℕ, ◌+◌, suc, take, drop, subst, arith}
use Rattle.schema.specs.FaultyNames.{HasAvaFlaw, ava_order}
use Rattle.reasons.specs.NameFlaws.{HasNameFlaw, ava_checks}
use Rattle.reasons.specs.Reasons.{ava_flaw_of}
use Rattle.reasons.specs.inner.Found.{Leaves}
use Rattle.reasons.proofs.Finding.{where_some, where_none}
use Rattle.reasons.proofs.NameFound.{ava_found, ava_passed, avas_done}
use Rattle.reasons.proofs.explain_names.NameExplainer.rdn_reason.Goals as goal

pub returns-in-Some : goal.returns-in-Some
returns-in-Some c =
    let types = c.args.self.now.conf.now.types in
    let r = c.args.avas.now in
    let j = c.loop-ava.ava in
    let p = c.index-avas-ava.result in
    ava_found c.args.self.now.conf.now c.args.self.now.text.now c.args.rdn r c.requires j p c.loop-ava-test.true c.index-avas-ava.is c.loop-ava.invariant (ava_flaw_of c.in-Some.why)
    (where_some (HasAvaFlaw types (take j r) p) ava_order ava_flaw_of c.in_ok-why.field-0 c.in-Some.why c.in-Some.is c.in_ok-why.ensures)

pub loop-ava-preserved : goal.loop-ava-preserved
loop-ava-preserved c =
    let conf = c.args.self.now.conf.now in
    let text = c.args.self.now.text.now in
    let i = c.args.rdn in
    let r = c.args.avas.now in
    let j = c.loop-ava.ava in
    let p = c.index-avas-ava.result in
    let one : suc j ≡ j + 1 = omega arith in
    subst (λ (n : ℕ). Leaves (HasNameFlaw conf text) (ava_checks i 0 r) (ava_checks i n (drop n r))) one
    (ava_passed conf text i r c.requires j p c.loop-ava-test.true c.index-avas-ava.is c.loop-ava.invariant
    (where_none (HasAvaFlaw conf.types (take j r) p) ava_order ava_flaw_of c.in_ok-why.field-0 c.in_default.is c.in_ok-why.ensures))

pub returns : goal.returns
returns c = avas_done c.args.self.now.conf.now c.args.self.now.text.now c.args.rdn c.args.avas.now c.loop-ava.ava c.loop-ava-test.false c.loop-ava.invariant

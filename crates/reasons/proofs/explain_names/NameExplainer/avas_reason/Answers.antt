use Rattle.std.proofs.Common.{◌≡◌, ℕ, ◌+◌, suc, drop, None, Result, Ok, true, false, sym, subst, ◌∙◌, arith}
use Rattle.std.specs.Option.{option_map}
use Rattle.dn.specs.Names as names
use Rattle.schema.specs.declared.code.Code.{Code}
use Rattle.schema.specs.Names.{name_in}
use Rattle.reasons.specs.NameFlaws.{HasNameFlaw, ava_checks, rdn_checks}
use Rattle.reasons.specs.Reasons.{name_flaw_of}
use Rattle.reasons.specs.inner.Found.{FindsFirst, Leaves}
use Rattle.reasons.proofs.Finding.{mapped_some}
use Rattle.reasons.proofs.NameFound.{rdn_found, rdn_passed, rdns_done}
use Rattle.reasons.proofs.explain_names.NameExplainer.avas_reason.Goals as goal

abbrev ok : names.Name → Result names.Name Code
ok n = Ok n

pub returns-then-is_some : goal.returns-then-is_some
returns-then-is_some c =
    let conf = c.args.self.now.conf.now in
    let text = c.args.self.now.text.now in
    let n = c.rdns-rdns.result.now in
    let named : name_in text ≡ ok n = subst (λ (m : names.Name). name_in text ≡ ok m) (sym c.rdns-rdns.ensures.rdns) c.requires in
    let i = c.loop-index.index in
    let r = c.index-rdns-index.result in
    let o = option_map name_flaw_of c.in_ok-found.found in
    subst (λ (m : names.Name). FindsFirst (HasNameFlaw conf text) (rdn_checks 0 m) o) c.rdns-rdns.ensures.rdns
    (rdn_found conf text n named i r c.loop-index-test.true c.index-rdns-index.is c.loop-index.invariant o
    (mapped_some name_flaw_of c.in_ok-found.found true (sym c.is_some.ensures ∙ c.if-is_some.true))
    (subst (λ (q : names.Rdn). FindsFirst (HasNameFlaw conf text) (ava_checks i 0 q) o) c.avas.ensures.avas c.in_ok-found.ensures))

pub loop-index-preserved : goal.loop-index-preserved
loop-index-preserved c =
    let conf = c.args.self.now.conf.now in
    let text = c.args.self.now.text.now in
    let n = c.rdns-rdns.result.now in
    let named : name_in text ≡ ok n = subst (λ (m : names.Name). name_in text ≡ ok m) (sym c.rdns-rdns.ensures.rdns) c.requires in
    let i = c.loop-index.index in
    let r = c.index-rdns-index.result in
    let o = option_map name_flaw_of c.in_ok-found.found in
    let one : suc i ≡ i + 1 = omega arith in
    subst (λ (k : ℕ). Leaves (HasNameFlaw conf text) (rdn_checks 0 n) (rdn_checks k (drop k n))) one
    (rdn_passed conf text n named i r c.loop-index-test.true c.index-rdns-index.is c.loop-index.invariant o
    (mapped_some name_flaw_of c.in_ok-found.found false (sym c.is_some.ensures ∙ c.if-is_some.false))
    (subst (λ (q : names.Rdn). FindsFirst (HasNameFlaw conf text) (ava_checks i 0 q) o) c.avas.ensures.avas c.in_ok-found.ensures))

pub returns : goal.returns
returns c =
    let conf = c.args.self.now.conf.now in
    let text = c.args.self.now.text.now in
    subst (λ (m : names.Name). FindsFirst (HasNameFlaw conf text) (rdn_checks 0 m) None) c.rdns-rdns.ensures.rdns
    (rdns_done conf text c.rdns-rdns.result.now c.loop-index.index c.loop-index-test.false c.loop-index.invariant)

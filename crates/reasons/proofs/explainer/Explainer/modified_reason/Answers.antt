use Rattle.std.proofs.Common.{Some, None}
use Rattle.entries.specs.StoredEntries.{attributes_of}
use Rattle.reasons.specs.EntryFlaws.{entry_order}
use Rattle.reasons.proofs.AddFound.{entry_is}
use Rattle.reasons.proofs.ModifyFound.{missing_found, modified_found, modified_fine, missing_is}
use Rattle.reasons.proofs.explainer.Explainer.modified_reason.Goals as goal

pub returns-in-Some : goal.returns-in-Some
returns-in-Some c =
    let conf = c.args.self.now.conf.now in
    let attrs = attributes_of c.args.attrs.now in
    missing_found conf c.args.self.now.mode c.args.self.now.tree.now.entries c.args.self.now.asked.now (record { rdn = c.args.entry.now.rdn; attrs = attrs }) c.requires.becomes c.in-Some.ava
    (missing_is conf attrs c.rdn.result.now c.args.entry.now.rdn c.in_ok-ava.field-0 (Some c.in-Some.ava) c.rdn.ensures c.in-Some.is c.in_ok-ava.ensures)

pub returns-in-Some-2 : goal.returns-in-Some-2
returns-in-Some-2 c =
    let conf = c.args.self.now.conf.now in
    let attrs = attributes_of c.args.attrs.now in
    modified_found conf c.args.self.now.mode c.args.self.now.tree.now.entries c.args.self.now.asked.now (record { rdn = c.args.entry.now.rdn; attrs = attrs }) c.requires.becomes
    (missing_is conf attrs c.rdn.result.now c.args.entry.now.rdn c.in_ok-ava.field-0 None c.rdn.ensures c.in_default.is c.in_ok-ava.ensures)
    c.in-Some-2.why (entry_is conf attrs entry_order c.in_ok-why.field-0 (Some c.in-Some-2.why) c.in-Some-2.is c.in_ok-why.ensures)

pub returns-in-None : goal.returns-in-None
returns-in-None c =
    let conf = c.args.self.now.conf.now in
    let attrs = attributes_of c.args.attrs.now in
    modified_fine conf c.args.self.now.mode c.args.self.now.tree.now.entries c.args.self.now.asked.now (record { rdn = c.args.entry.now.rdn; attrs = attrs }) c.requires.becomes
    (missing_is conf attrs c.rdn.result.now c.args.entry.now.rdn c.in_ok-ava.field-0 None c.rdn.ensures c.in_default.is c.in_ok-ava.ensures)
    (entry_is conf attrs entry_order c.in_ok-why.field-0 None c.in-None.is c.in_ok-why.ensures)

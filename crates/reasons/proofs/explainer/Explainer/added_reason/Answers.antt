use Rattle.std.proofs.Common.{Some, None, subst, ap}
use Rattle.entries.specs.StoredEntries.{attributes_of}
use Rattle.reasons.specs.EntryFlaws.{entry_order}
use Rattle.reasons.specs.inner.Entries.{FindsInEntry}
use Rattle.reasons.proofs.AddFound.{added_found, full_found, room_found, entry_is}
use Rattle.reasons.proofs.explainer.Explainer.added_reason.Goals as goal

pub returns-in-Some : goal.returns-in-Some
returns-in-Some c =
    let conf = c.args.self.now.conf.now in
    let attrs = attributes_of c.deref.result.now in
    let same = ap attributes_of c.deref.ensures.value in
    added_found conf c.args.self.now.mode c.args.self.now.tree.now.entries c.args.self.now.asked.now c.args.place.now.path c.args.place.now.rdn c.requires.stands c.requires.adds c.args.lines.now c.requires.lines
    (attributes_of c.in_ok-attrs.attrs.items) c.in_ok-attrs.ensures.attrs c.in-Some.why
    (subst (λ attrs. FindsInEntry conf attrs entry_order (Some c.in-Some.why)) same (entry_is conf attrs entry_order c.in_ok-why.field-0 (Some c.in-Some.why) c.in-Some.is c.in_ok-why.ensures))

pub returns-then-len-ge-ENTRIES_LIMIT : goal.returns-then-len-ge-ENTRIES_LIMIT
returns-then-len-ge-ENTRIES_LIMIT c =
    let conf = c.args.self.now.conf.now in
    let attrs = attributes_of c.deref.result.now in
    let same = ap attributes_of c.deref.ensures.value in
    full_found conf c.args.self.now.mode c.args.self.now.tree.now.entries c.args.self.now.asked.now c.args.place.now.path c.args.place.now.rdn c.requires.stands c.requires.adds c.args.lines.now c.requires.lines
    (attributes_of c.in_ok-attrs.attrs.items) c.in_ok-attrs.ensures.attrs
    (subst (λ attrs. FindsInEntry conf attrs entry_order None) same (entry_is conf attrs entry_order c.in_ok-why.field-0 None c.in_default.is c.in_ok-why.ensures))
    c.len.result c.len.ensures c.if-len-ge-ENTRIES_LIMIT.true

pub returns : goal.returns
returns c =
    let conf = c.args.self.now.conf.now in
    let attrs = attributes_of c.deref.result.now in
    let same = ap attributes_of c.deref.ensures.value in
    room_found conf c.args.self.now.mode c.args.self.now.tree.now.entries c.args.self.now.asked.now c.args.place.now.path c.args.place.now.rdn c.requires.stands c.requires.adds c.args.lines.now c.requires.lines
    (attributes_of c.in_ok-attrs.attrs.items) c.in_ok-attrs.ensures.attrs
    (subst (λ attrs. FindsInEntry conf attrs entry_order None) same (entry_is conf attrs entry_order c.in_ok-why.field-0 None c.in_default.is c.in_ok-why.ensures))
    c.len.result c.len.ensures c.if-len-ge-ENTRIES_LIMIT.false

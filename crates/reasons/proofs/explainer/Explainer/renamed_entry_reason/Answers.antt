use Rattle.std.proofs.Common.{◌≡◌, Some, subst, ap, ◌∙◌}
use Rattle.entries.specs.Entries.{Attributes}
use Rattle.entries.specs.Modifies.{renamed_attrs}
use Rattle.entries.specs.StoredEntries.{attributes_of, content_of}
use Rattle.reasons.specs.EntryFlaws.{entry_order}
use Rattle.reasons.specs.inner.Entries.{FindsInEntry}
use Rattle.reasons.proofs.AddFound.{entry_found, entry_is}
use Rattle.reasons.proofs.explainer.Explainer.renamed_entry_reason.Goals as goal

pub returns-in-Some : goal.returns-in-Some
returns-in-Some c =
    let conf = c.args.self.now.conf.now in
    let attrs = attributes_of c.deref.result.now in
    let wanted = renamed_attrs conf.types (content_of c.args.entry.now) c.args.rdn.now c.args.delete_old in
    let same : attrs ≡ wanted = ap attributes_of c.deref.ensures.value ∙ c.in_ok-attrs.ensures.values in
    entry_found conf c.args.self.now.mode c.args.self.now.tree.now.entries c.args.self.now.asked.now (record { rdn = c.args.rdn.now; attrs = wanted }) c.requires.becomes.have c.requires.becomes.only c.in-Some.why
    (subst (λ (xs : Attributes). FindsInEntry conf xs entry_order (Some c.in-Some.why)) same (entry_is conf attrs entry_order c.in_ok-why.field-0 (Some c.in-Some.why) c.in-Some.is c.in_ok-why.ensures))

use Rattle.std.proofs.Common.{sym, ap, ◌∙◌}
use Rattle.entries.specs.StoredEntries.{StoredAttributes}
use Rattle.entries.specs.Modifies.{set_values}
use Rattle.entries.proofs.ModifyLemmas.{emptied_is, inserted_is}
use Rattle.entries.proofs.kept_attributes.Attributes.set.Goals as goal

pub returns-then-is_empty-clause-ok : goal.returns-then-is_empty-clause-ok
returns-then-is_empty-clause-ok c = c.remove.ensures.entries ∙ emptied_is c.args.t c.args.self.now.entries c.args.values (sym c.is_empty.ensures ∙ c.if-is_empty.true)

pub returns-clause-ok : goal.returns-clause-ok
returns-clause-ok c =
    c.in_ok-insert.ensures.entries
    ∙ inserted_is c.args.t c.self.inside.map.entries c.args.values (sym c.is_empty.ensures ∙ c.if-is_empty.false)
    ∙ ap (λ (a : StoredAttributes). set_values a.entries c.args.t c.args.values) c.self.view_is

use Rattle.std.proofs.Common.{sym, refl, ◌∙◌}
use Rattle.sentences.proofs.Items.{item_at, rdn_none, rdn_missing, rdn_found}
use Rattle.sentences.proofs.record_words.Refused.rdn_value.Goals as goal

pub returns-in-Some-get : goal.returns-in-Some-get
returns-in-Some-get c =
    sym (rdn_found c.args.self.now.tree.now.entries _ _ _ c.args.ava (sym c.in-Some.ensures) (sym c.in-Some-get.ensures.entry)
    ∙ item_at _ _ _ _ _ (c.avas.ensures ∙ c.rdn.ensures) refl c.get-in-Some-get.ensures.lookup)

pub returns-in-None-get : goal.returns-in-None-get
returns-in-None-get c = sym (rdn_missing c.args.self.now.tree.now.entries _ _ c.args.ava (sym c.in-Some.ensures) (sym c.in-None-get.ensures.entry))

pub returns-in-None : goal.returns-in-None
returns-in-None c = sym (rdn_none c.args.self.now.tree.now.entries _ c.args.ava (sym c.in-None.ensures))

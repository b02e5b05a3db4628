use Rattle.std.proofs.Common.{◌∷◌, [], sym, ◌∙◌}
use Rattle.reasons.specs.Flaws.{HasChildren}
use Rattle.reasons.proofs.RecordFound.{no_entry, children_found}
use Rattle.reasons.proofs.explainer.Explainer.delete_reason.Goals as goal

pub returns-then-not-is_there : goal.returns-then-not-is_there
returns-then-not-is_there c =
    no_entry c.args.self.now.conf.now c.args.self.now.mode c.args.self.now.tree.now.entries c.args.self.now.asked.now c.args.path.now c.requires (HasChildren ∷ []) (sym c.is_there.ensures ∙ c.if-not-is_there.true)

pub returns-then-has_child : goal.returns-then-has_child
returns-then-has_child c =
    children_found c.args.self.now.conf.now c.args.self.now.mode c.args.self.now.tree.now.entries c.args.self.now.asked.now c.args.path.now c.requires (sym c.is_there.ensures ∙ c.if-not-is_there.false) (sym c.has_child.ensures ∙ c.if-has_child.true)

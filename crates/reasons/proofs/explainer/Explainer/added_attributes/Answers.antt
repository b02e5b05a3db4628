use Rattle.std.proofs.Common.{ap, ◌∙◌}
use Rattle.entries.specs.Entries.{with_rdn}
use Rattle.reasons.proofs.explainer.Explainer.added_attributes.Goals as goal

pub put_rdn-requires-clause-made : goal.put_rdn-requires-clause-made
put_rdn-requires-clause-made c = c.in_ok-attrs.ensures.made c.args.self.now.conf.now.types c.args.lines.now c.requires.seen

pub returns-clause-attrs : goal.returns-clause-attrs
returns-clause-attrs c =
    let types = c.args.self.now.conf.now.types in
    c.in_ok-put_rdn.ensures.values ∙ ap (with_rdn types c.args.place.now.rdn) (c.in_ok-attrs.ensures.attrs types c.args.lines.now c.requires.seen)

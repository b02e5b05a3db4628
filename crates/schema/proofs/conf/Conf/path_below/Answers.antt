use Rattle.std.proofs.Common.{◌++◌, ◌∷◌, [], List, sym, ap, subst, ◌∙◌}
use Rattle.values.specs.declared.types.AttributeType.{AttributeType}
use Rattle.schema.specs.Rdns.{rdn_key_of}
use Rattle.schema.specs.inner.Keys.{AreKnown}
use Rattle.schema.proofs.Found.{all_known}
use Rattle.schema.proofs.conf.Conf.path_below.Goals as goal

pub rdn_key_of-requires : goal.rdn_key_of-requires
rdn_key_of-requires c = subst (λ (types : List AttributeType). AreKnown types c.args.rdn.now) (sym c.table.ensures) (all_known c.args.self.now.types (c.args.rdn.now ∷ []) (c.requires, tt)).0

pub returns : goal.returns
returns c =
    c.in_ok-push.ensures.ok ∙ (λ i. c.in_ok-path.ensures i ++ (c.in_ok-rdn_key_of.ensures ∙ ap (λ (types : List AttributeType). rdn_key_of types c.args.rdn.now) c.table.ensures) i ∷ [])

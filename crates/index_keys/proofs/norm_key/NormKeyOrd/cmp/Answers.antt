use Rattle.std.proofs.Common.{sym, ◌∙◌}
use Rattle.std.specs.Ordering.{nat_cmp}
use Rattle.index_keys.proofs.NormOrder.{by_first, by_second, by_length}
use Rattle.index_keys.proofs.norm_key.NormKeyOrd.cmp.Goals as goal

pub returns-then-self-other : goal.returns-then-self-other
returns-then-self-other c =
    let one = c.args.self.now in
    let two = c.args.other.now in
    c.cmp.ensures ∙ (λ i. nat_cmp (one.first_is i) (two.first_is i)) ∙ by_first one.norm.now two.norm.now one.bytes two.bytes (λ same. c.if-self-other.true (one.first_is ∙ same ∙ sym two.first_is))

pub returns-then-self-other-2 : goal.returns-then-self-other-2
returns-then-self-other-2 c =
    let one = c.args.self.now in
    let two = c.args.other.now in
    c.cmp-then-self-other-2.ensures ∙ (λ i. nat_cmp (one.second_is i) (two.second_is i)) ∙ by_second one.norm.now two.norm.now one.bytes two.bytes (sym one.first_is ∙ c.if-self-other.false ∙ two.first_is) (λ same. c.if-self-other-2.true (one.second_is ∙ same ∙ sym two.second_is))

pub returns-then-two-le16 : goal.returns-then-two-le16
returns-then-two-le16 c =
    let one = c.args.self.now in
    let two = c.args.other.now in
    c.cmp-then-two-le16.ensures ∙ by_length one.norm.now two.norm.now one.bytes two.bytes (sym one.first_is ∙ c.if-self-other.false ∙ two.first_is) (sym one.second_is ∙ c.if-self-other-2.false ∙ two.second_is) c.if-one-le16.true c.if-two-le16.true

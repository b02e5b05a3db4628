use Rattle.std.proofs.Common.{◌≤◌, ℕ, length, drop, subst, sym, ap, ◌∙◌}
use Rattle.std.proofs.lemmas.List.Sums.{prefix_len-le-length}
use Rattle.base.specs.Ends.{is_space}
use Rattle.base.proofs.Front.{front_is}
use Rattle.dn.proofs.read.skip.Goals as goal

pub split_at-requires : goal.split_at-requires
split_at-requires c = subst (λ (n : ℕ). n ≤ length c.args.text.now) (sym c.spaces_in.ensures) (prefix_len-le-length is_space c.args.text.now)

pub returns : goal.returns
returns c = c.split_at.ensures.back ∙ ap (λ (n : ℕ). drop n c.args.text.now) c.spaces_in.ensures ∙ sym (front_is c.args.text.now)

use Rattle.std.proofs.lemmas.Grind.{common_steps}
use Rattle.std.proofs.Common.{◌≤◌, ℕ, arith, length, subst, sym}
use Rattle.std.proofs.lemmas.List.Sums.{prefix_len-le-length}
use Rattle.dn.proofs.Runs.{front_passes}
use Rattle.dn.specs.Names.{is_type_byte}
use Rattle.dn.proofs.avas.split_type.Goals as goal

pub split_at-requires : goal.split_at-requires
split_at-requires c = subst (λ (n : ℕ). n ≤ length c.args.text.now) (sym c.type_len.ensures) (prefix_len-le-length is_type_byte c.args.text.now)

pub returns-clause-bytes : goal.returns-clause-bytes
returns-clause-bytes c = grind (arith, common_steps, front_passes is_type_byte c.args.text.now)

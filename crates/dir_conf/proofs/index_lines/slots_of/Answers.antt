use Rattle.std.proofs.lemmas.Grind.{common_steps}
use Rattle.std.proofs.Common.{◌<◌, ℕ, length, sym, subst, arith}
use Rattle.std.specs.List.{AllByRecursion}
use Rattle.dir_conf.proofs.index_lines.slots_of.Goals as goal

pub returns-in_err-kinds : goal.returns-in_err-kinds
returns-in_err-kinds c = grind (arith, common_steps)

pub returns-in_err-listed : goal.returns-in_err-listed
returns-in_err-listed c = grind (arith, common_steps)

pub returns-in_err-ts : goal.returns-in_err-ts
returns-in_err-ts c = grind (arith, common_steps)

pub kept_slots-requires : goal.kept_slots-requires
kept_slots-requires c = subst (AllByRecursion (λ (t : ℕ). t < length c.args.types.now)) (sym c.deref-2.ensures.value) c.in_ok-ts.ensures.known

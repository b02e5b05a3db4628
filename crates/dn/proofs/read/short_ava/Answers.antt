use Rattle.dn.proofs.Joined.{after_fits, ends_at}
use Rattle.dn.proofs.read.short_ava.Goals as goal

pub overflow_sub-end : goal.overflow_sub-end
overflow_sub-end c = after_fits _ _ _ c.args.plain.value.now c.args.plain.after.now c.requires.text c.requires.value

pub short-requires-clause-text : goal.short-requires-clause-text
short-requires-clause-text c = ends_at _ _ _ c.args.plain.value.now c.args.plain.after.now c.requires.text c.requires.value

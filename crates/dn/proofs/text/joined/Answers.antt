use Rattle.std.proofs.lemmas.Grind.{common_steps}
use Rattle.std.proofs.Common.{arith}
use Rattle.dn.proofs.Joined.{put_in}
use Rattle.dn.proofs.text.joined.Goals as goal

pub returns : goal.returns
returns c = rw (c.copy_from_slice.ensures.after, c.copy_from_slice-2.ensures.after) (put_in c.args.type_text.now c.args.value.now _ _ (omega (arith, c.requires)))

pub slice_bounds-bytes-end-2 : goal.slice_bounds-bytes-end-2
slice_bounds-bytes-end-2 c = grind (arith, common_steps)

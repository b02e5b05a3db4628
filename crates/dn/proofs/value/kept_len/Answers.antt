use Rattle.std.proofs.Common.{arith, sym, ◌∙◌}
use Rattle.dn.proofs.Plain.{one_less}
use Rattle.dn.proofs.value.kept_len.Goals as goal

pub loop-len-preserved : goal.loop-len-preserved
loop-len-preserved c =
    let h = c.loop-len.invariant in
    record {
      within = omega (arith, h.within);
      spaces = one_less c.args.text.now c.loop-len.len h.within (sym c.ends_in_space.ensures ∙ c.loop-len-test.true) h.spaces;
    }

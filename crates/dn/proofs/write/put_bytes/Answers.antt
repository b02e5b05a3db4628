use Rattle.std.proofs.Common.{get_or, refl, sym, subst, ◌∙◌}
use Rattle.base.specs.Extends.{Extends}
use Rattle.base.proofs.Extended.{extends_put, extends_on}
use Rattle.dn.proofs.Writing.{text_more, text_done}
use Rattle.dn.proofs.write.put_bytes.Goals as goal

pub loop-i-preserved : goal.loop-i-preserved
loop-i-preserved c = record {
  put =
      text_more c.loop-i.out.items c.put_byte.new.out.items c.args.value.now c.loop-i.i (get_or c.args.value.now c.loop-i.i 0) c.loop-i-test.true refl c.in_ok-put_byte.ensures.put
      ∙ c.loop-i.invariant.put;
  kept = extends_on c.args.out.now.items c.loop-i.out.items c.put_byte.new.out.items c.loop-i.invariant.kept (subst (Extends c.loop-i.out.items) (sym c.in_ok-put_byte.ensures.put) (extends_put c.loop-i.out.items _));
}

pub returns-clause-put : goal.returns-clause-put
returns-clause-put c = sym (text_done c.loop-i.out.items c.args.value.now c.loop-i.i _ c.loop-i-test.false) ∙ c.loop-i.invariant.put

use Rattle.std.proofs.Common.{◌≡◌, ◌++◌, drop, nat_eq}
use Rattle.base.specs.Extends.{Extends}
use Rattle.dn.specs.Writing.{value_text, text_from}
use Rattle.dn.proofs.write.put_bytes.Given as goal

abbrev pub invariant-loop-i : goal.invariant-loop-i
invariant-loop-i l = record {
  put : l.out.items ++ text_from (nat_eq l.i 0) (drop l.i l.value) ≡ l.fn.out.items ++ value_text l.value;
  kept : Extends l.fn.out.items l.out.items;
}

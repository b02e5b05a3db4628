use Rattle.std.proofs.Common.{◌≡◌, ◌<◌, ◌≤◌, ◌+◌, ◌-◌, true, false, length, take}
use Rattle.ldif_lines.specs.inner.View.{state_of}
use Rattle.ldif_lines.specs.inner.Moves.{GoesOn, EndsBlock}
use Rattle.ldif_lines.proofs.taken.take_lines.Given as goal

abbrev pub invariant-lines : goal.invariant-lines
invariant-lines l = record {
  some : l.all.ended ≡ true → 0 < l.all.len;
  within : l.all.len ≤ length l.bytes;
  counted : l.all.count ≤ l.count + l.all.len;
  waits : 0 < l.all.len → l.all.after_return ≡ true → l.all.count < l.count + l.all.len;
  moved : l.all.ended ≡ false → GoesOn (state_of l.fn.draft l.after_return l.count) (take l.all.len l.bytes) (state_of l.draft l.all.after_return l.all.count);
  ended : l.all.ended ≡ true → EndsBlock (state_of l.fn.draft l.after_return l.count) (take l.all.len l.bytes) (state_of l.draft l.all.after_return l.all.count);
  settled : l.all.ended ≡ true → l.all.after_return ≡ false;
}

abbrev pub decreases-lines : goal.decreases-lines
decreases-lines l = length l.bytes - l.all.len

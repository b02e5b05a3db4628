use Rattle.std.proofs.Common.{take}
use Rattle.std.specs.FinSet as set
use Rattle.std.specs.Str.{bytes_eq}
use Rattle.index_text.specs.KeySets.{members_in}
use Rattle.index.specs.Edits.{CountsEach}
use Rattle.index.specs.inner.SlotEntries.{IsSetOf}
use Rattle.index.proofs.whole_entries.sets_of.Given as goal

abbrev pub invariant-loop-numbered : goal.invariant-loop-numbered
invariant-loop-numbered l = record {
  so_far : IsSetOf l.kind (take l.numbered-index l.norms) l.sets;
  counted : CountsEach bytes_eq (λ key. set.empty) (members_in l.sets) l.fn.edits l.edits;
}

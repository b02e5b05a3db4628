use Rattle.std.proofs.Common.{◌≡◌, ◌+◌, ◌&&◌, ℕ, List, nat_eq, true}
use Rattle.index_text.specs.declared.slot_key.SlotKey.{SlotKey}
use Rattle.index_text.specs.Indexes.{members}
use Rattle.std.specs.List.{list_any}
use Rattle.std.specs.Str.{bytes_eq}
use Rattle.index.specs.Edits.{CountsEdits}
use Rattle.index.specs.inner.Counts.{HaveNumber, InsertsSome}
use Rattle.index.proofs.OneByOne.{with_keys}
use Rattle.index.proofs.index.Index.insert_under.Given as goal

abbrev pub invariant-loop-key : goal.invariant-loop-key
invariant-loop-key l = record {
  same_conf : l.self.conf ≡ l.fn.self.conf;
  rest : (p : SlotKey) → with_keys (members l.self) l.slot.0 l.number l.key-iterator p ≡ with_keys (members l.fn.self) l.slot.0 l.number l.fn.keys p;
  counted : HaveNumber l.fn.self l.number l.fn.count → HaveNumber l.self l.number l.count;
  all : CountsEdits l.fn.self l.self;
  some : InsertsSome (λ p. nat_eq l.slot.0 p.slot.0 && list_any (λ k. bytes_eq k p.key) l.fn.keys) l.number l.fn.self l.self;
  left : (q : List ℕ) → list_any (λ k. bytes_eq k q) l.key-iterator ≡ true → list_any (λ k. bytes_eq k q) l.fn.keys ≡ true;
  edited : l.self.edits + l.fn.count ≡ l.fn.self.edits + l.count;
}

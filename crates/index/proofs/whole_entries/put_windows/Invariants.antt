use Rattle.std.proofs.Common.{◌≡◌, ◌&&◌, ◌||◌, ℕ, List, nat_eq, length}
use Rattle.std.specs.List.{list_any}
use Rattle.std.specs.Str.{bytes_eq}
use Rattle.std.specs.FinSet as set
use Rattle.index_keys.specs.EntryKeys.{windows}
use Rattle.index_text.specs.KeySets.{members_in}
use Rattle.index.specs.Edits.{CountsEach}
use Rattle.index.proofs.Edits.{Grows}
use Rattle.index.proofs.whole_entries.put_windows.Given as goal

abbrev pub invariant-loop-first : goal.invariant-loop-first
invariant-loop-first l = record {
  rest : (q : List ℕ) (n : ℕ) → (set.contains (members_in l.sets q) n || (nat_eq n l.number && list_any (λ k. bytes_eq k q) (windows l.left))) ≡ (set.contains (members_in l.fn.sets q) n || (nat_eq n l.number && list_any (λ k. bytes_eq k q) (windows l.text)));
  counted : CountsEach bytes_eq (members_in l.fn.sets) (members_in l.sets) l.fn.edits l.edits;
  more : Grows (members_in l.fn.sets) (members_in l.sets);
}

abbrev pub decreases-loop-first : goal.decreases-loop-first
decreases-loop-first l = length l.left

use Rattle.std.proofs.Common.{◌≡◌, ◌&&◌, ◌||◌, ℕ, List, nat_eq}
use Rattle.schema.specs.declared.slots.IndexKind.{IndexKind}
use Rattle.index_keys.specs.EntryKeys.{gives_key}
use Rattle.index_keys.specs.TypeNorms.{has_by}
use Rattle.index_keys.proofs.type_norms.push_norms.Given as goal

abbrev pub invariant-loop-norm : goal.invariant-loop-norm
invariant-loop-norm l = record {
  rest : (kind : IndexKind) (q : List ℕ) (n : ℕ) → (has_by kind l.all.items q n || (nat_eq n l.number && gives_key kind l.norm-iterator q)) ≡ (has_by kind l.fn.all.items q n || (nat_eq n l.number && gives_key kind l.fn.norms q));
}

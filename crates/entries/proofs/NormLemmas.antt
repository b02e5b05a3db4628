-- The set of the normal forms of an entry's values.
use Rattle.std.proofs.Common.{◌≡◌, ℕ, Bool, true, false, cond, List, [], ◌∷◌, ◌++◌, refl, sym, ap, ◌∙◌, nat_eq}
use Rattle.std.specs.Prelude.{◌&&◌, ◌||◌}
use Rattle.std.specs.declared.cmp.Ordering.{Ordering}
use Rattle.std.specs.declared.cmp.Ordering.TheVariants.{Less, Equal, Greater}
use Rattle.std.specs.Ordering.{nat_cmp, ordering_then, is_eq}
use Rattle.std.specs.Cmp.Lexicographic.{slice_cmp}
use Rattle.std.specs.BTreeSet.{BTreeSet, contains}
use Rattle.std.specs.Str.{bytes_eq}
use Rattle.std.proofs.lemmas.Cmp.{nat_eq_equiv}
use Rattle.std.proofs.lemmas.List.Folds.{list_any-append}
use Rattle.std.proofs.lemmas.Map.Text.{is_eq-slice_cmp}
use Rattle.values.specs.Values.{Value}
use Rattle.paths.specs.Paths.{Pair, pair_cmp}
use Rattle.entries.specs.Entries.{values_of, push_value}
use Rattle.entries.specs.StoredEntries.{EntryAttribute}
use Rattle.values.specs.Norms.{has_norm}
use Rattle.entries.specs.inner.StoredEntries.{AreNormsOf}
use Rattle.entries.proofs.Pushed.{values_pushed}

then_ties : (o r : Ordering) → is_eq (ordering_then o r) ≡ is_eq o && is_eq r
then_ties Less r = refl
then_ties Equal r = refl
then_ties Greater r = refl

then_equal : (o : Ordering) → is_eq (ordering_then o Equal) ≡ is_eq o
then_equal Less = refl
then_equal Equal = refl
then_equal Greater = refl

and_true : (b : Bool) → b && true ≡ b
and_true true = refl
and_true false = refl

numbers_tie : (t u : ℕ) → is_eq (nat_cmp t u) ≡ nat_eq t u
numbers_tie t u = sym (then_equal (nat_cmp t u)) ∙ is_eq-slice_cmp (t ∷ []) (u ∷ []) ∙ and_true (nat_eq t u)

pair_tie : (t u : ℕ) (n m : List ℕ) → is_eq (pair_cmp (t, n) (u, m)) ≡ nat_eq t u && bytes_eq n m
pair_tie t u n m = then_ties (nat_cmp t u) (slice_cmp nat_cmp n m) ∙ (λ i. numbers_tie t u i && is_eq-slice_cmp n m i)

pub or_swap : (a b : Bool) → cond a true b ≡ b || (a || false)
or_swap true true = refl
or_swap true false = refl
or_swap false true = refl
or_swap false false = refl

-- the set after the normal form of one more value comes
pub norms_pushed : (old new : BTreeSet Pair) (es : List EntryAttribute) (t : ℕ) (v : Value) → AreNormsOf old es → ((q : Pair) → contains pair_cmp new q ≡ cond (is_eq (pair_cmp (t, v.norm) q)) true (contains pair_cmp old q)) → AreNormsOf new (push_value es t v)
norms_pushed old new es t v h updates = record {
  each = λ u n.
      updates (u, n)
      ∙ (λ i. cond (pair_tie t u v.norm n i) true (h.each u n i))
      ∙ elim (nat_eq t u) as (λ b. cond (b && bytes_eq v.norm n) true (has_norm n (values_of es u)) ≡ has_norm n (cond b (values_of es u ++ v ∷ []) (values_of es u))) [
        | true ↦ or_swap (bytes_eq v.norm n) (has_norm n (values_of es u)) ∙ sym (list_any-append (λ (w : Value). bytes_eq w.norm n) (values_of es u) (v ∷ []))
        | false ↦ refl
      ]
      ∙ ap (λ b. has_norm n (cond b (values_of es u ++ v ∷ []) (values_of es u))) (nat_eq_equiv.symm t u)
      ∙ ap (has_norm n) (sym (values_pushed es t v u));
}

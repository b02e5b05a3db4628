-- Sets of normal forms.
use Rattle.std.proofs.Common.{◌≡◌, ℕ, Bool, true, false, cond, not, ◌||◌, List, [], ◌∷◌, ◌++◌, length, refl, sym, ap, ◌∙◌}
use Rattle.std.specs.Prelude.{filter, nat_eq}
use Rattle.std.specs.BTreeSet.{BTreeSet, contains}
use Rattle.std.specs.Cmp.Lexicographic.{slice_cmp}
use Rattle.std.specs.Ordering.{nat_cmp, is_eq}
use Rattle.std.specs.Str.{bytes_eq}
use Rattle.std.proofs.lemmas.List.Folds.{list_any-append}
use Rattle.std.proofs.lemmas.Map.Text.{is_eq-slice_cmp}
use Rattle.ldif.specs.declared.record.Op.{Op}
use Rattle.ldif.specs.declared.record.Op.TheVariants as ops
use Rattle.values.specs.Norms.{has_norm}
use Rattle.values.specs.Values.{Value}
use Rattle.reasons.specs.inner.Changes.{HasNormsOf, changed_values}

-- what an insertion does
abbrev pub IsPut : BTreeSet (List ℕ) → BTreeSet (List ℕ) → List ℕ → Type 0
IsPut old new norm = (q : List ℕ) → contains (slice_cmp nat_cmp) new q ≡ cond (is_eq (slice_cmp nat_cmp norm q)) true (contains (slice_cmp nat_cmp) old q)

or_front : (a b c : Bool) → (cond a true b || c) ≡ (b || (a || c))
or_front true true c = refl
or_front true false c = refl
or_front false b c = refl

or_last : (a b : Bool) → cond a true b ≡ (b || (a || false))
or_last true true = refl
or_last true false = refl
or_last false true = refl
or_last false false = refl

module _ (old new : BTreeSet (List ℕ)) (v : Value) (norm : List ℕ) (is : norm ≡ v.norm) (put : IsPut old new norm) where
  found : (n : List ℕ) → contains (slice_cmp nat_cmp) new n ≡ cond (bytes_eq v.norm n) true (contains (slice_cmp nat_cmp) old n)
  found n = put n ∙ ap (λ (b : Bool). cond b true (contains (slice_cmp nat_cmp) old n)) (is_eq-slice_cmp norm n ∙ ap (λ (m : List ℕ). bytes_eq m n) is)

  -- one more of those that are to come
  pub norms_more : (vs rest : List Value) → vs ≡ v ∷ rest → (n : List ℕ) → (contains (slice_cmp nat_cmp) new n || has_norm n rest) ≡ (contains (slice_cmp nat_cmp) old n || has_norm n vs)
  norms_more vs rest first n =
      ap (λ (b : Bool). b || has_norm n rest) (found n) ∙ or_front (bytes_eq v.norm n) (contains (slice_cmp nat_cmp) old n) (has_norm n rest)
      ∙ sym (ap (λ (ws : List Value). contains (slice_cmp nat_cmp) old n || has_norm n ws) first)

  -- one more behind those that are there
  pub norms_pushed : (vs : List Value) → HasNormsOf old vs → HasNormsOf new (vs ++ v ∷ [])
  norms_pushed vs has = record {
    each = λ n. found n ∙ or_last (bytes_eq v.norm n) (contains (slice_cmp nat_cmp) old n) ∙ ap (λ (b : Bool). b || (bytes_eq v.norm n || false)) (has.each n)
        ∙ sym (list_any-append (λ (w : Value). bytes_eq w.norm n) vs (v ∷ []));
  }

same_filter : (p q : Value → Bool) → ((v : Value) → p v ≡ q v) → (vs : List Value) → filter p vs ≡ filter q vs
same_filter p q same [] = refl
same_filter p q same (v ∷ vs) = ap (λ (b : Bool). cond b (v ∷ filter p vs) (filter p vs)) (same v) ∙ ap (λ (ws : List Value). cond (q v) (v ∷ ws) ws) (same_filter p q same vs)

-- those that are left
pub left_are_those : (gone : BTreeSet (List ℕ)) (come old : List Value) → HasNormsOf gone come → filter (λ v. not (contains (slice_cmp nat_cmp) gone v.norm)) old ≡ filter (λ v. not (has_norm v.norm come)) old
left_are_those gone come old has = same_filter (λ v. not (contains (slice_cmp nat_cmp) gone v.norm)) (λ v. not (has_norm v.norm come)) (λ v. ap (λ (b : Bool). not b) (has.each v.norm)) old

pub some_left : (op : Op) (old come : List Value) → op ≡ ops.Delete → nat_eq (length come) 0 ≡ false → filter (λ v. not (has_norm v.norm come)) old ≡ changed_values op old come
some_left op old come is some = by come some ∙ ap (λ (o : Op). changed_values o old come) (sym is)
  where
    by : (vs : List Value) → nat_eq (length vs) 0 ≡ false → filter (λ v. not (has_norm v.norm vs)) old ≡ changed_values ops.Delete old vs
    by [] h = absurd cc
    by (v ∷ vs) h = refl

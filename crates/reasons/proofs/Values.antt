-- Values that come and go one by one.
use Rattle.std.proofs.Common.{◌≡◌, ℕ, Bool, true, false, cond, not, ◌||◌, List, [], ◌∷◌, ◌++◌, refl, sym, ap, ◌∙◌}
use Rattle.std.specs.List.{list_any, filter}
use Rattle.std.proofs.lemmas.List.Folds.{list_any-append}
use Rattle.ldif.specs.declared.record.Op.TheVariants as ops
use Rattle.values.specs.declared.types.AttributeType.{AttributeType}
use Rattle.schema.specs.Values.{are_equal}
use Rattle.entries.specs.Modifies.{without_value}
use Rattle.reasons.specs.BlockFlaws.{values_with}

-- what passes one test and then another
twice : {X : Type 0} (p q both : X → Bool) → ((x : X) → both x ≡ cond (p x) (q x) false) → (xs : List X) → filter q (filter p xs) ≡ filter both xs
twice p q both is [] = refl
twice {X} p q both is (x ∷ xs) = by (p x) (twice p q both is xs) ∙ ap (λ (b : Bool). cond b (x ∷ filter both xs) (filter both xs)) (sym (is x))
  where
    by : (b : Bool) → filter q (filter p xs) ≡ filter both xs → filter q (cond b (x ∷ filter p xs) (filter p xs)) ≡ cond (cond b (q x) false) (x ∷ filter both xs) (filter both xs)
    by true rest = ap (λ (ys : List X). cond (q x) (x ∷ ys) ys) rest
    by false rest = rest

same : {X : Type 0} (p : X → Bool) → ((x : X) → p x ≡ true) → (xs : List X) → filter p xs ≡ xs
same p is [] = refl
same {X} p is (x ∷ xs) = ap (λ (b : Bool). cond b (x ∷ filter p xs) (filter p xs)) (is x) ∙ ap (λ (ys : List X). x ∷ ys) (same p is xs)

neither : (a b : Bool) → not (a || (b || false)) ≡ cond (not a) (not b) false
neither true b = refl
neither false true = refl
neither false false = refl

module _ (types : List AttributeType) (t : ℕ) (old : List (List ℕ)) where
  pub one_goes : (earlier : List (List ℕ)) (v : List ℕ) → without_value types t (values_with types t ops.Delete old earlier) v ≡ values_with types t ops.Delete old (earlier ++ v ∷ [])
  one_goes earlier v = twice (λ w. not (list_any (are_equal types t w) earlier)) (λ w. not (are_equal types t w v)) (λ w. not (list_any (are_equal types t w) (earlier ++ v ∷ []))) is old
    where
      is : (w : List ℕ) → not (list_any (are_equal types t w) (earlier ++ v ∷ [])) ≡ cond (not (list_any (are_equal types t w) earlier)) (not (are_equal types t w v)) false
      is w = ap (λ (b : Bool). not b) (list_any-append (are_equal types t w) earlier (v ∷ [])) ∙ neither (list_any (are_equal types t w) earlier) (are_equal types t w v)

  pub none_goes : values_with types t ops.Delete old [] ≡ old
  none_goes = same (λ w. not (list_any (are_equal types t w) [])) (λ w. refl) old

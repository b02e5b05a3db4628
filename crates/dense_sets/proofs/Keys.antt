-- Sets that a key has: small ones, and when they are dense.
use Rattle.std.proofs.Common.{◌≡◌, ◌⊎◌, ℕ, ◌+◌, ◌-◌, ◌*◌, ◌<◌, ◌≤◌, Bool, true, false, cond, ◌||◌, ◌&&◌, List, [], ◌∷◌, length, get_or, refl, sym, ap, subst, ◌∙◌, arith, nat_eq, inl, inr, IsTrue, IfOk, Result}
use Rattle.std.proofs.lemmas.Bool.{eq-eqb, ne_eqb, cases_lt, true≢false}
use Rattle.std.proofs.lemmas.List.Folds.{list_any_at}
use Rattle.std.proofs.lemmas.Result.{IfOk-weaker}
use Rattle.std.proofs.Math.Bool.{beq}
use Rattle.std.specs.List.{filter}
use Rattle.std.specs.declared.alloc.AllocError.{AllocError}
use Rattle.std.specs.Ordering.{nat_cmp}
use Rattle.std.specs.Cmp.{nat_cmp_total}
use Rattle.std.specs.FinSet as set
use Rattle.std.specs.FinSet.{from_list, contains-from_list_nat, len-empty, len-insert, nat_cmp-IsAntisymmetric, same_set, contains-intersection, contains-difference}
use Rattle.dense_sets.specs.declared.forms.Form.{Form}
use Rattle.id_sets.specs.Ascending.{IsAscending}
use Rattle.dense_sets.specs.Keys.{Kept, IsDense}
use Rattle.dense_sets.specs.inner.Forms.{kept_as, members_of}
use Rattle.id_sets.specs.Lists.{holds}
use Rattle.id_sets.proofs.Ascending.{ascending_at, ascending_filter, holds_filter, holds_is, holds_none, len_ascending}
use Rattle.id_sets.proofs.Logic.{beq_true, beq_false}
use Rattle.dense_sets.proofs.Logic.{or_false, or_true}
use Rattle.dense_sets.proofs.Through.{inserted}

pub contains_one : (x q : ℕ) → set.contains (from_list {R = nat_cmp} (x ∷ [])) q ≡ nat_eq x q
contains_one x q = contains-from_list_nat (x ∷ []) q ∙ or_false (nat_eq x q)

pub few_not_dense : (s : set.FinSet nat_cmp) → set.len s ≤ 64 → IsDense s → ⊥
few_not_dense s few d = let many = d.many in omega arith

-- a number more is one member more, at most
pub len_more : (s : set.FinSet nat_cmp) (x : ℕ) → set.len (set.insert s x) ≤ set.len s + 1
len_more s x =
    elim (set.contains s x) as (λ b. set.len (set.insert s x) ≡ cond b (set.len s) (set.len s + 1) → set.len (set.insert s x) ≤ set.len s + 1) [
      | true ↦ λ e. omega (arith, e)
      | false ↦ λ e. omega (arith, e)
    ] (len-insert nat_cmp_total s x)

pub len_one : (x : ℕ) → set.len (from_list {R = nat_cmp} (x ∷ [])) ≤ 1
len_one x = let more = len_more set.empty x in let none = len-empty nat_cmp in omega (arith, more, none)

-- a set of few numbers that is no words stays none
pub few_as_list : (k : Kept) (s : set.FinSet nat_cmp) → k.is_words ≡ false → set.len s ≤ 64 → (IsTrue false → IsTrue k.is_words ⊎ IsDense s) × (IsTrue k.is_words ⊎ IsDense s → IsTrue false)
few_as_list k s e few = (λ h. absurd (true≢false (sym h)), λ h. elim h [ inl w ↦ sym e ∙ w | inr d ↦ absurd (few_not_dense s few d) ])

-- the greatest number tells whether a set is dense
pub dense_is : (s : set.FinSet nat_cmp) (many greatest : ℕ) → many ≡ set.len s → set.contains s greatest ≡ true → ((q : ℕ) → set.contains s q ≡ true → q ≤ greatest) → (((64 < many) × (greatest < 1024 * many)) → IsDense s) × (IsDense s → ((64 < many) × (greatest < 1024 * many)))
dense_is s many greatest e there up = (
  λ h. record { many = (let l = h.0 in omega (arith, l, e)); low = λ q m. (let l = h.1 in let u = up q m in omega (arith, l, e, u)) },
  λ d. ((let l = d.many in omega (arith, l, e)), (let l = d.low greatest there in omega (arith, l, e))),
)

-- the number that is put in, or the last of the list, is the greatest of all
module _ (xs : List ℕ) (list : set.FinSet nat_cmp) (id greatest : ℕ) (a : IsAscending xs) (is : from_list {R = nat_cmp} xs ≡ list) where
  pub len_with : (more : ℕ) → more ≡ cond (set.contains list id) 0 1 → length xs + more ≡ set.len (set.insert list id)
  len_with more e =
      let all : set.len list ≡ length xs = sym (ap set.len is) ∙ len_ascending xs a in
      sym (len-insert nat_cmp_total list id ∙ rw all (elim (set.contains list id) as (λ b. more ≡ cond b 0 1 → cond b (length xs) (length xs + 1) ≡ length xs + more) [
        | true ↦ λ m. omega (arith, m)
        | false ↦ λ m. omega (arith, m)
      ] e))

  pub greatest_with : id ≤ greatest → (0 < length xs → get_or xs (length xs - 1) 0 ≤ greatest) → ((greatest ≡ id) ⊎ ((0 < length xs) × (greatest ≡ get_or xs (length xs - 1) 0))) → set.contains (set.insert list id) greatest ≡ true
  greatest_with own last one = inserted list id greatest ∙ elim one as (λ _. (nat_eq greatest id || set.contains list greatest) ≡ true) [
    | inl e ↦ rw (eq-eqb greatest id e) refl
    | inr h ↦ (let some = h.0 in ap (λ b. nat_eq greatest id || b) (sym (holds_is xs list is greatest) ∙ list_any_at (λ y. nat_eq y greatest) xs (length xs - 1) 0 (omega arith) (eq-eqb _ _ (sym h.1))) ∙ or_true (nat_eq greatest id))
  ]

  pub none_above : id ≤ greatest → (0 < length xs → get_or xs (length xs - 1) 0 ≤ greatest) → (q : ℕ) → set.contains (set.insert list id) q ≡ true → q ≤ greatest
  none_above own last q m = elim (cases_lt greatest q) [
    | inl l ↦ absurd (true≢false (sym m ∙ inserted list id q ∙ rw (ne_eqb q id (omega arith)) (sym (holds_is xs list is q) ∙ holds_none xs q (λ k h e. (let up = ascending_at xs a k (length xs - 1) (omega arith) (omega arith) in let top = last (omega arith) in omega (arith, up, top))))))
    | inr l ↦ l
  ]

-- what a list keeps of itself by the members of another set
module _ (xs kept : List ℕ) (t : set.FinSet nat_cmp) (wanted : Bool) (e : kept ≡ filter (λ q. beq (set.contains t q) wanted) xs) where
  pub sifted_ascending : IsAscending xs → IsAscending kept
  sifted_ascending a = subst IsAscending (sym e) (ascending_filter (λ q. beq (set.contains t q) wanted) xs a)

  pub contains_sifted : (q : ℕ) → set.contains (from_list {R = nat_cmp} kept) q ≡ (set.contains (from_list {R = nat_cmp} xs) q && beq (set.contains t q) wanted)
  contains_sifted q =
      contains-from_list_nat kept q
      ∙ ap (λ zs. holds zs q) e
      ∙ holds_filter (λ q. beq (set.contains t q) wanted) xs q
      ∙ ap (λ b. b && beq (set.contains t q) wanted) (sym (contains-from_list_nat xs q))

pub sifted_both : (xs kept : List ℕ) (t : set.FinSet nat_cmp) → kept ≡ filter (λ q. beq (set.contains t q) true) xs → from_list {R = nat_cmp} kept ≡ set.intersection (from_list xs) t
sifted_both xs kept t e = same_set nat_cmp_total nat_cmp-IsAntisymmetric _ _ (λ q. contains_sifted xs kept t true e q ∙ ap (λ b. set.contains (from_list {R = nat_cmp} xs) q && b) (beq_true (set.contains t q)) ∙ sym (contains-intersection nat_cmp_total (from_list xs) t q))

pub sifted_left : (xs kept : List ℕ) (t : set.FinSet nat_cmp) → kept ≡ filter (λ q. beq (set.contains t q) false) xs → from_list {R = nat_cmp} kept ≡ set.difference (from_list xs) t
sifted_left xs kept t e = same_set nat_cmp_total nat_cmp-IsAntisymmetric _ _ (λ q. contains_sifted xs kept t false e q ∙ ap (λ b. set.contains (from_list {R = nat_cmp} xs) q && b) (beq_false (set.contains t q)) ∙ sym (contains-difference nat_cmp_total (from_list xs) t q))

-- a form that was made has the members that were wanted
pub made : (r : Result Form AllocError) (k : Kept) (s : set.FinSet nat_cmp) → k.members ≡ s → IfOk r (λ form. kept_as form ≡ k) → IfOk r (λ form. members_of form ≡ s)
made r k s e h = IfOk-weaker r (λ form. kept_as form ≡ k) (λ form. members_of form ≡ s) (λ form is. ap (λ (k : Kept). k.members) is ∙ e) h

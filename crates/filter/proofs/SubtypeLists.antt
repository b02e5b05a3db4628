-- A type and its subtypes, listed one after the other.
use Rattle.std.proofs.Common.{◌≡◌, ◌↔◌, ℕ, ◌<◌, ◌==◌, Bool, true, false, List, length, sym, ap, subst, ◌∙◌, ◌+◌, ◌++◌, [], ◌∷◌, cond, ◌&&◌, get_or, zero-add}
use Rattle.std.proofs.lemmas.Bool.{eqb-true, eq-eqb}
use Rattle.std.specs.Bool.{one_answer}
use Rattle.std.specs.List.{filter, range_with_len}
use Rattle.std.proofs.Math.Bool.{and-true}
use Rattle.std.proofs.lemmas.List.{append-nil}
use Rattle.std.proofs.lemmas.List.Folds.{list_any_at}
use Rattle.std.proofs.lemmas.List.FromFn.{filter_of_map_range_with_len_more, length-range_with_len, get_or-range_with_len}
use Rattle.std.proofs.lemmas.Map.Views.{any-filter_same}
use Rattle.std.proofs.lemmas.List.{map-id}
use Rattle.values.specs.declared.types.AttributeType.{AttributeType}
use Rattle.schema.specs.Subtypes.{IsSubtype, is_subtype, subtypes}
use Rattle.filter.specs.Prepared.{is_among}

with_one : (q : ℕ → Bool) (n : ℕ) → q n ≡ true → filter q (range_with_len 0 n) ++ n ∷ [] ≡ filter q (range_with_len 0 (n + 1))
with_one q n e =
    sym
    (ap (filter q) (sym (map-id (range_with_len 0 (n + 1))))
    ∙ filter_of_map_range_with_len_more q (λ x. x) 0 n n (zero-add n)
    ∙ ap (λ (xs : List ℕ). filter q xs ++ cond (q n) (n ∷ []) []) (map-id (range_with_len 0 n))
    ∙ ap (λ (b : Bool). filter q (range_with_len 0 n) ++ cond b (n ∷ []) []) e)

without_one : (q : ℕ → Bool) (n : ℕ) → q n ≡ false → filter q (range_with_len 0 n) ≡ filter q (range_with_len 0 (n + 1))
without_one q n e =
    sym
    (ap (filter q) (sym (map-id (range_with_len 0 (n + 1))))
    ∙ filter_of_map_range_with_len_more q (λ x. x) 0 n n (zero-add n)
    ∙ ap (λ (xs : List ℕ). filter q xs ++ cond (q n) (n ∷ []) []) (map-id (range_with_len 0 n))
    ∙ ap (λ (b : Bool). filter q (range_with_len 0 n) ++ cond b (n ∷ []) []) e
    ∙ append-nil (filter q (range_with_len 0 n)))

-- what was found before a number, with that number where it is one
pub found_more : (types : List AttributeType) (t n under : ℕ) (found : List ℕ) (r : Bool) → under ≡ n → (is_subtype types n t ≡ true) ↔ IsSubtype types n t → (r ≡ true) ↔ IsSubtype types under t
    → found ≡ filter (λ u. is_subtype types u t) (range_with_len 0 n) → r ≡ true → found ++ under ∷ [] ≡ filter (λ u. is_subtype types u t) (range_with_len 0 (n + 1))
found_more types t n under found r is told answers before holds =
    let same = one_answer r (is_subtype types n t) (subst (λ (u : ℕ). (r ≡ true) ↔ IsSubtype types u t) is answers) told in
    ap (λ (xs : List ℕ). xs ++ under ∷ []) before
    ∙ ap (λ (u : ℕ). filter (λ u. is_subtype types u t) (range_with_len 0 n) ++ u ∷ []) is
    ∙ with_one (λ u. is_subtype types u t) n (sym same ∙ holds)

pub found_no_more : (types : List AttributeType) (t n under : ℕ) (found : List ℕ) (r : Bool) → under ≡ n → (is_subtype types n t ≡ true) ↔ IsSubtype types n t → (r ≡ true) ↔ IsSubtype types under t
    → found ≡ filter (λ u. is_subtype types u t) (range_with_len 0 n) → r ≡ false → found ≡ filter (λ u. is_subtype types u t) (range_with_len 0 (n + 1))
found_no_more types t n under found r is told answers before fails =
    let same = one_answer r (is_subtype types n t) (subst (λ (u : ℕ). (r ≡ true) ↔ IsSubtype types u t) is answers) told in
    before ∙ without_one (λ u. is_subtype types u t) n (sym same ∙ fails)

pub among_subtypes : (types : List AttributeType) (t u : ℕ) → u < length types → is_among (subtypes types t) u ≡ is_subtype types u t
among_subtypes types t u lt =
    let every = range_with_len 0 (length types) in
    let there =
    list_any_at (λ w. w == u) every u 0 (subst (λ (n : ℕ). u < n) (sym (length-range_with_len 0 (length types))) lt)
    (eq-eqb (get_or every u 0) u (get_or-range_with_len 0 (length types) u 0 lt ∙ zero-add u)) in
    any-filter_same (λ w. w == u) (λ w. is_subtype types w t) (is_subtype types u t) (λ w e. ap (λ w. is_subtype types w t) (eqb-true w u e)) every
    ∙ ap (λ (b : Bool). is_subtype types u t && b) there
    ∙ and-true (is_subtype types u t)

-- What the bytes of a packed path say of it: its length, its parent, and the paths that it begins.
use Rattle.std.proofs.Common.{◌≡◌, ℕ, zero, suc, ◌+◌, ◌-◌, ◌<◌, ◌≤◌, ◌⊎◌, inl, inr, Bool, true, false, cond, List, [], ◌∷◌, ◌++◌, length, take, drop, get_or, refl, sym, ap, subst, ◌∙◌, arith, append_assoc, length-append}
use Rattle.std.specs.Prelude.{◌==◌, ◌&&◌, nat_eq, nat_lt, count_by}
use Rattle.std.specs.List.{flat_map, sum_by, AllByRecursion, starts_with}
use Rattle.std.specs.declared.cmp.Ordering.{Ordering}
use Rattle.std.specs.declared.cmp.Ordering.TheVariants.{Less, Equal, Greater}
use Rattle.std.specs.Ordering.{nat_cmp, ordering_then, is_eq}
use Rattle.std.specs.Cmp.Lexicographic.{slice_cmp}
use Rattle.std.proofs.lemmas.Bool.{and_parts, cases_order, ne_eqb}
use Rattle.std.proofs.lemmas.Bool.Decides.{nat_tests, Decides-eqb}
use Rattle.std.proofs.lemmas.Cmp.{nat_list_cmp_total, tied_itself}
use Rattle.std.proofs.lemmas.List.{append_cancel_left, append-nil, take_more, take_all, take_at, drop_at, get_or-append_right, get_or_append_left, get_or_at, get_or_default}
use Rattle.std.proofs.lemmas.List.Concat.{flat_map-append}
use Rattle.std.proofs.lemmas.List.Sums.{sum_by-append, sum_by-cons}
use Rattle.std.proofs.lemmas.Slice.Eq.{starts_is}
use Rattle.paths.specs.Paths.{RdnKey, Path, rdn_key_cmp, begins, parent_of, is_root}
use Rattle.paths.specs.Packed.{type_code, pair_code, step_code, pack}
use Rattle.paths.specs.PathLaws.{rdn_key_total}
use Rattle.paths.proofs.Orders.{step_exact}
use Rattle.paths.proofs.PackOrder.{step_fits, step_above}
use Rattle.paths.proofs.Unpacked.{pairs_high, step_ends}

pub pack_append : (p q : Path) → pack (p ++ q) ≡ pack p ++ pack q
unfolding pack
pack_append p q = flat_map-append step_code p q

pub pack_push : (p : Path) (s : RdnKey) → pack (p ++ s ∷ []) ≡ pack p ++ step_code s
unfolding pack
pack_push p s = flat_map-append step_code p (s ∷ []) ∙ ap (λ bs. flat_map step_code p ++ bs) (append-nil (step_code s))

-- ---- beginnings

tied_first : (o p : Ordering) → ordering_then o p ≡ Equal → o ≡ Equal
tied_first Less p h = h
tied_first Equal p h = refl
tied_first Greater p h = h

tied_with : (xs ys : List ℕ) → xs ≡ ys → slice_cmp nat_cmp xs ys ≡ Equal
tied_with xs ys is = ap (slice_cmp nat_cmp xs) (sym is) ∙ tied_itself nat_list_cmp_total xs

same_first : (x y : RdnKey) (u v : List ℕ) → step_code x ++ u ≡ step_code y ++ v → x ≡ y
same_first x y u v is = step_exact x y (tied_first (rdn_key_cmp x y) (slice_cmp nat_cmp u v) (sym (step_fits x y u v) ∙ tied_with (step_code x ++ u) (step_code y ++ v) is))

from_packed : (p q : Path) (rest : List ℕ) → pack q ≡ pack p ++ rest → begins p q ≡ true
unfolding pack
from_packed [] q rest is = refl
from_packed (x ∷ p) [] rest is =
    let less = sym (step_above x (pack p ++ rest)) ∙ ap (slice_cmp nat_cmp []) (sym (append_assoc (step_code x) (pack p) rest) ∙ sym is) in
    absurd (let no : Less ≡ Equal = less in cc)
from_packed (x ∷ p) (y ∷ q) rest is =
    let both : step_code x ++ (pack p ++ rest) ≡ step_code y ++ pack q = sym (append_assoc (step_code x) (pack p) rest) ∙ sym is in
    let same : x ≡ y = same_first x y (pack p ++ rest) (pack q) both in
    let left : pack q ≡ pack p ++ rest = append_cancel_left (step_code y) (pack q) (pack p ++ rest) (sym both ∙ ap (λ s. step_code s ++ (pack p ++ rest)) same) in
    ap (λ o. is_eq o && begins p q) (ap (rdn_key_cmp x) (sym same) ∙ tied_itself rdn_key_total x) ∙ from_packed p q rest left

exact_eq : (o : Ordering) → is_eq o ≡ true → o ≡ Equal
exact_eq Less h = absurd cc
exact_eq Equal h = refl
exact_eq Greater h = absurd cc

to_packed : (p q : Path) → begins p q ≡ true → pack q ≡ pack p ++ pack (drop (length p) q)
unfolding pack
to_packed [] q h = refl
to_packed (x ∷ p) [] h = absurd cc
to_packed (x ∷ p) (y ∷ q) h =
    let both = and_parts (is_eq (rdn_key_cmp x y)) (begins p q) h in
    let same : x ≡ y = step_exact x y (exact_eq (rdn_key_cmp x y) both.0) in
    ap (λ s. step_code s ++ pack q) (sym same) ∙ ap (λ bs. step_code x ++ bs) (to_packed p q both.1) ∙ sym (append_assoc (step_code x) (pack p) (pack (drop (length p) q)))

same_tests : (a b : Bool) → (a ≡ true → b ≡ true) → (b ≡ true → a ≡ true) → a ≡ b
same_tests true b h k = sym (h refl)
same_tests false true h k = k refl
same_tests false false h k = refl

pub begins_packed : (p q : Path) → starts_with nat_eq (pack q) (pack p) ≡ begins p q
begins_packed p q =
    let parts = starts_is Decides-eqb (pack q) (pack p) (starts_with nat_eq (pack q) (pack p)) refl in
    same_tests (starts_with nat_eq (pack q) (pack p)) (begins p q)
    (λ on. from_packed p q (drop (length (pack p)) (pack q)) (parts.0 on))
    (λ on. parts.1 (pack (drop (length p) q)) (to_packed p q on))

-- ---- length

abbrev is_end : ℕ → Bool
is_end b = b == 0

zeros : ℕ → ℕ
zeros b = cond (is_end b) 1 0

none_ends : (bs : List ℕ) → AllByRecursion (λ b. 0 < b) bs → sum_by zeros bs ≡ 0
unfolding zeros
none_ends [] h = refl
none_ends (b ∷ bs) h = sum_by-cons zeros b bs ∙ ap (λ n. n + sum_by zeros bs) (isnt b h.0) ∙ ap (λ n. 0 + n) (none_ends bs h.1)
  where
    isnt : (b : ℕ) → 0 < b → zeros b ≡ 0
    isnt b h = grind (arith, nat_tests)

one_end : (s : RdnKey) (bs : List ℕ) → sum_by zeros (step_code s ++ bs) ≡ sum_by zeros bs + 1
unfolding zeros
one_end s bs =
    let parts = ap (sum_by zeros) (step_ends s bs) ∙ sum_by-append zeros (flat_map pair_code s) (0 ∷ bs) in
    omega (arith, parts, none_ends (flat_map pair_code s) (pairs_high s), sum_by-cons zeros 0 bs)

pub ends_counted : (p : Path) → count_by is_end (pack p) ≡ length p
unfolding pack zeros
ends_counted [] = refl
ends_counted (s ∷ p) = one_end s (pack p) ∙ ap (λ n. n + 1) (ends_counted p) ∙ omega arith

pub root_is_empty : (p : Path) → (length (pack p) == 0) ≡ is_root p
unfolding pack step_code pair_code type_code
root_is_empty [] = refl
root_is_empty ([] ∷ p) = ne_eqb (length (pack ([] ∷ p))) 0 (λ e. omega arith)
root_is_empty ((q ∷ s) ∷ p) = ne_eqb (length (pack ((q ∷ s) ∷ p))) 0 (λ e. omega arith)

-- of a path and one that it begins, the longer one has more bytes
pub longer_packed : (p q : Path) → begins p q ≡ true → nat_lt (length (pack p)) (length (pack q)) ≡ nat_lt (length p) (length q)
unfolding pack
longer_packed [] [] h = refl
longer_packed [] (y ∷ q) h = some (length (pack (y ∷ q))) (length q) (root_is_empty (y ∷ q))
  where
    some : (n m : ℕ) → (n == 0) ≡ false → nat_lt 0 n ≡ nat_lt 0 (suc m)
    some n m h = grind (arith, nat_tests)
longer_packed (x ∷ p) [] h = absurd cc
longer_packed (x ∷ p) (y ∷ q) h =
    let both = and_parts (is_eq (rdn_key_cmp x y)) (begins p q) h in
    let same : x ≡ y = step_exact x y (exact_eq (rdn_key_cmp x y) both.0) in
    (λ i. nat_lt (length-append (step_code x) (pack p) i) (length-append (step_code y) (pack q) i))
    ∙ ap (λ s. nat_lt (length (step_code x) + length (pack p)) (length (step_code s) + length (pack q))) (sym same)
    ∙ further (length (step_code x)) (length (pack p)) (length (pack q)) (length p) (length q) (longer_packed p q both.1)
  where
    further : (a m n k l : ℕ) → nat_lt m n ≡ nat_lt k l → nat_lt (a + m) (a + n) ≡ nat_lt (suc k) (suc l)
    further a m n k l h = grind (arith, nat_tests)

-- ---- the parent

record Last (p : Path) : Type 0 where
  step : RdnKey
  is : p ≡ parent_of p ++ step ∷ []

last_of : (p : Path) → 0 < length p → Last p
last_of p some = record {
  step = get_or p (length p - 1) [];
  is = sym (take_all (length p - 1 + 1) p (omega arith)) ∙ take_more p (length p - 1) [] (omega arith);
}

-- the parent's code, the last step's pairs, and the end of the step
in_three : (p : Path) (last : Last p) → pack p ≡ pack (parent_of p) ++ (flat_map pair_code last.step ++ 0 ∷ [])
in_three p last = ap pack last.is ∙ pack_push (parent_of p) last.step ∙ ap (λ bs. pack (parent_of p) ++ bs) (sym (append-nil (step_code last.step)) ∙ step_ends last.step [])

some_step : (p : Path) → 0 < length (pack p) → 0 < length p
unfolding pack
some_step [] h = h
some_step (s ∷ p) h = omega arith

ends_at_end : (p : Path) → 0 < length (pack p) → get_or (pack p) (length (pack p) - 1) 0 ≡ 0
ends_at_end p some =
    let last : Last p = last_of p (some_step p some) in
    let front : List ℕ = pack (parent_of p) ++ flat_map pair_code last.step in
    let is : pack p ≡ front ++ 0 ∷ [] = in_three p last ∙ sym (append_assoc (pack (parent_of p)) (flat_map pair_code last.step) (0 ∷ [])) in
    ap (λ bs. get_or bs (length (pack p) - 1) 0) is ∙ get_or_at front 0 [] 0 (length (pack p) - 1) (omega (arith, ap length is, length-append front (0 ∷ [])))

high_at : (bs : List ℕ) (i : ℕ) → AllByRecursion (λ b. 0 < b) bs → i < length bs → 0 < get_or bs i 0
high_at [] i h lt = absurd (omega arith)
high_at (b ∷ bs) zero h lt = h.0
high_at (b ∷ bs) (suc i) h lt = high_at bs i h.1 (omega arith)

module _ (a b : List ℕ) (n : ℕ) (high : AllByRecursion (λ x. 0 < x) b) (le : n ≤ length (a ++ (b ++ 0 ∷ [])) - 1) (none : (k : ℕ) → n ≤ k → k + 1 < length (a ++ (b ++ 0 ∷ [])) → 0 < get_or (a ++ (b ++ 0 ∷ [])) k 0) (stop : (n ≡ 0) ⊎ (get_or (a ++ (b ++ 0 ∷ [])) (n - 1) 0 ≡ 0)) (end : 0 < length a → get_or a (length a - 1) 0 ≡ 0) where
  long : length (a ++ (b ++ 0 ∷ [])) ≡ length a + (length b + 1)
  long = length-append a (b ++ 0 ∷ []) ∙ ap (λ m. length a + m) (length-append b (0 ∷ []))

  isnt_before : n < length a → ⊥
  isnt_before lt =
      let seen : get_or (a ++ (b ++ 0 ∷ [])) (length a - 1) 0 ≡ 0 = get_or_append_left a (b ++ 0 ∷ []) 0 (length a - 1) (omega arith) ∙ end (omega arith) in
      omega (arith, none (length a - 1) (omega arith) (omega (arith, long)), seen)

  isnt_behind : length a < n → ⊥
  isnt_behind lt = elim stop [
    | inl is ↦ omega arith
    | inr is ↦
        let in_b : n - 1 - length a < length b = omega (arith, long) in
        let seen : get_or (a ++ (b ++ 0 ∷ [])) (n - 1) 0 ≡ get_or b (n - 1 - length a) 0 =
        get_or-append_right a (b ++ 0 ∷ []) (length a) (n - 1) 0 refl (omega arith) ∙ get_or_append_left b (0 ∷ []) 0 (n - 1 - length a) in_b in
        omega (arith, high_at b (n - 1 - length a) high in_b, seen, is)
  ]

  cut : take n (a ++ (b ++ 0 ∷ [])) ≡ a
  cut = take_at a (b ++ 0 ∷ []) n (elim (cases_order n (length a)) [ inl is ↦ sym is | inr (inl lt) ↦ absurd (isnt_before lt) | inr (inr lt) ↦ absurd (isnt_behind lt) ])

-- the parent goes up to the last end before the last byte
pub parent_cut : (bs : List ℕ) (p : Path) (n : ℕ) → bs ≡ pack p → n ≤ length bs - 1 → ((k : ℕ) → n ≤ k → k + 1 < length bs → 0 < get_or bs k 0) → (n ≡ 0) ⊎ (get_or bs (n - 1) 0 ≡ 0) → take n bs ≡ pack (parent_of p)
unfolding pack
parent_cut bs [] n is le none stop = ap (take n) is ∙ take_all n [] (omega (arith, ap length is))
parent_cut bs (s ∷ p) n is le none stop =
    let all : Path = s ∷ p in
    let last : Last all = last_of all (omega arith) in
    let whole : bs ≡ pack (parent_of all) ++ (flat_map pair_code last.step ++ 0 ∷ []) = is ∙ in_three all last in
    let Cuts : List ℕ → Type 0 = λ x. n ≤ length x - 1 → ((k : ℕ) → n ≤ k → k + 1 < length x → 0 < get_or x k 0) → (n ≡ 0) ⊎ (get_or x (n - 1) 0 ≡ 0) → take n x ≡ pack (parent_of all) in
    subst Cuts (sym whole) (λ l f t. cut (pack (parent_of all)) (flat_map pair_code last.step) n (pairs_high last.step) l f t (ends_at_end (parent_of all))) le none stop

-- ---- steps pushed

pub step_more : (steps : Path) (i : ℕ) (old new : List ℕ) (s : RdnKey) → i < length steps → old ≡ pack (take i steps) → s ≡ get_or steps i s → new ≡ old ++ step_code s → new ≡ pack (take (i + 1) steps)
step_more steps i old new s lt so_far at pushed =
    pushed ∙ ap (λ bs. bs ++ step_code s) so_far ∙ sym (pack_push (take i steps) s)
    ∙ ap (λ (x : RdnKey). pack (take i steps ++ x ∷ [])) (at ∙ get_or_default steps i s [] lt) ∙ ap pack (sym (take_more steps i [] lt))

pub packed_more : (p : Path) (s : RdnKey) (old code new : List ℕ) → old ≡ pack p → code ≡ step_code s → new ≡ old ++ code → new ≡ pack (p ++ s ∷ [])
packed_more p s old code new is coded pushed = pushed ∙ (λ i. is i ++ coded i) ∙ sym (pack_push p s)

-- ---- what comes behind a beginning

module _ (p q : Path) (front whole : List ℕ) (is_front : front ≡ pack p) (is_whole : whole ≡ pack q) (below : begins p q ≡ true) where
  split : whole ≡ front ++ pack (drop (length p) q)
  split = is_whole ∙ to_packed p q below ∙ ap (λ bs. bs ++ pack (drop (length p) q)) (sym is_front)

  pub front_fits : length front ≤ length whole
  front_fits = omega (arith, ap length split, length-append front (pack (drop (length p) q)))

  pub rest_packed : drop (length front) whole ≡ pack (drop (length p) q)
  rest_packed = ap (drop (length front)) split ∙ drop_at front (pack (drop (length p) q)) (length front) refl

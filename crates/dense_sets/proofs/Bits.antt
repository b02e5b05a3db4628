-- What becomes of the bits of words, and of the sets that they make.
use Rattle.std.proofs.Common.{◌≡◌, ℕ, zero, suc, ◌-◌, ◌*◌, ◌/◌, ◌%◌, ◌^◌, ◌<◌, ◌≤◌, min, max, Bool, false, not, cond, ◌||◌, ◌&&◌, List, [], ◌∷◌, ◌++◌, length, get_or, refl, sym, ap, ◌∙◌, arith, nat_eq, inl, inr}
use Rattle.std.proofs.lemmas.Bool.{eq-eqb, ne_eqb, cases_lt, cases_eq}
use Rattle.std.proofs.lemmas.List.{get_or-set_same, get_or-set_other}
use Rattle.std.proofs.lemmas.Bool.Decides.{nat_tests}
use Rattle.std.proofs.Math.ListN.{set as put}
use Rattle.std.specs.Int.{w64, bit_not}
use Rattle.std.proofs.lemmas.Nat.Bits.{bit_at_set_same, bit_at_set_other, bit_at_clear_same, bit_at_clear_other}
use Rattle.std.specs.Int.{bit_at}
use Rattle.std.specs.Int.Bits.{bit_and, bit_or}
use Rattle.std.specs.Ordering.{nat_cmp}
use Rattle.std.specs.Prelude.{replicate, IfOk, Result, Ok, Err}
use Rattle.std.specs.Cmp.{nat_cmp_total, unsigned_tied}
use Rattle.std.specs.FinSet as set
use Rattle.std.specs.FinSet.{nat_cmp-IsAntisymmetric, same_set, contains-insert, contains-remove, contains-intersection, contains-union, contains-difference}
use Rattle.dense_sets.specs.inner.Merged.{IsMerged}
use Rattle.id_sets.specs.Words.{has_bit, set_of_words}
use Rattle.id_sets.proofs.Bits.{contains_words, has_bit_past}

-- sets whose bits are those of a set
pub words_are : (ws : List ℕ) (s : set.FinSet nat_cmp) → ((q : ℕ) → has_bit ws q ≡ set.contains s q) → set_of_words ws ≡ s
words_are ws s h = same_set nat_cmp_total nat_cmp-IsAntisymmetric _ _ (λ q. contains_words ws q ∙ h q)

-- what becomes of two bits
pub both_set : (a b : ℕ) → a < 2 → b < 2 → nat_eq (min a b) 1 ≡ (nat_eq a 1 && nat_eq b 1)
both_set a b h k = grind (arith, nat_tests)

pub either_set : (a b : ℕ) → a < 2 → b < 2 → nat_eq (max a b) 1 ≡ (nat_eq a 1 || nat_eq b 1)
either_set a b h k = grind (arith, nat_tests)

pub first_set : (a b : ℕ) → a < 2 → b < 2 → nat_eq (min a (1 - b)) 1 ≡ (nat_eq a 1 && not (nat_eq b 1))
first_set a b h k = grind (arith, nat_tests)

-- the bits of merged words, where each bit of a merged word is what its two bits become
module _ (f : ℕ → ℕ → ℕ) (g : Bool → Bool → Bool) (old other new : List ℕ)
    (bits : (k i : ℕ) → i < 64 → nat_eq (bit_at (f (get_or old k 0) (get_or other k 0)) i) 1 ≡ g (nat_eq (bit_at (get_or old k 0) i) 1) (nat_eq (bit_at (get_or other k 0) i) 1))
    (alone : length other < length old → (b : Bool) → g b false ≡ b)
    (outside : (q : ℕ) → 64 * length old ≤ q → g false (has_bit other q) ≡ false)
    (m : IsMerged f old other new) (long : length new ≡ length old) where
  bit_within : (q : ℕ) → q < 64 * length old → q / 64 < length other → has_bit new q ≡ g (has_bit old q) (has_bit other q)
  unfolding has_bit
  bit_within q h k = rw (m.both (q / 64) (omega arith) k) (bits (q / 64) (q % 64) (omega arith))

  bit_alone : (q : ℕ) → length other ≤ q / 64 → has_bit new q ≡ has_bit old q
  unfolding has_bit
  bit_alone q k = ap (λ w. nat_eq (bit_at w (q % 64)) 1) (m.alone (q / 64) k)

  pub has_bit_merged : (q : ℕ) → has_bit new q ≡ g (has_bit old q) (has_bit other q)
  has_bit_merged q =
      elim (cases_lt q (64 * length old)) as (λ _. has_bit new q ≡ g (has_bit old q) (has_bit other q)) [
        | inl h ↦ elim (cases_lt (q / 64) (length other)) as (λ _. has_bit new q ≡ g (has_bit old q) (has_bit other q)) [
          | inl k ↦ bit_within q h k
          | inr k ↦ bit_alone q k ∙ sym (ap (g (has_bit old q)) (has_bit_past other q (omega arith)) ∙ alone (omega arith) (has_bit old q))
        ]
        | inr h ↦ has_bit_past new q (omega (arith, long)) ∙ sym (ap (λ b. g b (has_bit other q)) (has_bit_past old q h) ∙ outside q h)
      ]

-- a number is its word and its place in the word
pub same_place : (p q : ℕ) → p / 64 ≡ q / 64 → p % 64 ≡ q % 64 → p ≡ q
same_place p q h k = omega arith

pub has_bit_at : (ws : List ℕ) (i v q : ℕ) → i < length ws → has_bit (put ws i v) q ≡ cond (nat_eq (q / 64) i) (nat_eq (bit_at v (q % 64)) 1) (has_bit ws q)
unfolding has_bit
has_bit_at ws i v q h =
    elim (cases_eq (q / 64) i) as (λ _. nat_eq (bit_at (get_or (put ws i v) (q / 64) 0) (q % 64)) 1 ≡ cond (nat_eq (q / 64) i) (nat_eq (bit_at v (q % 64)) 1) (nat_eq (bit_at (get_or ws (q / 64) 0) (q % 64)) 1)) [
      | inl e ↦ rw (e, eq-eqb i i refl, get_or-set_same ws i v 0 h) refl
      | inr n ↦ rw (ne_eqb (q / 64) i n, get_or-set_other ws i (q / 64) v 0 n) refl
    ]

pub has_bit_set : (ws : List ℕ) (p q : ℕ) → p / 64 < length ws → has_bit (put ws (p / 64) (bit_or (get_or ws (p / 64) 0) (1 * 2 ^ (p % 64) % 2 ^ 64))) q ≡ (nat_eq q p || has_bit ws q)
has_bit_set ws p q h =
    has_bit_at ws (p / 64) _ q h
    ∙ elim (cases_eq (q / 64) (p / 64)) as (λ _. cond (nat_eq (q / 64) (p / 64)) (nat_eq (bit_at (bit_or (get_or ws (p / 64) 0) (1 * 2 ^ (p % 64) % 2 ^ 64)) (q % 64)) 1) (has_bit ws q) ≡ (nat_eq q p || has_bit ws q)) [
      | inl e ↦ elim (cases_eq (q % 64) (p % 64)) as (λ _. cond (nat_eq (q / 64) (p / 64)) (nat_eq (bit_at (bit_or (get_or ws (p / 64) 0) (1 * 2 ^ (p % 64) % 2 ^ 64)) (q % 64)) 1) (has_bit ws q) ≡ (nat_eq q p || has_bit ws q)) [
        | inl f ↦ rw (eq-eqb q p (same_place q p e f), eq-eqb (q / 64) (p / 64) e, f, bit_at_set_same w64 (get_or ws (p / 64) 0) (p % 64) (omega arith)) refl
        | inr n ↦ rw (ne_eqb q p (λ s. n (ap (λ x. x % 64) s)), eq-eqb (q / 64) (p / 64) e, bit_at_set_other w64 (get_or ws (p / 64) 0) (p % 64) (omega arith) (q % 64) n) (unfold has_bit in rw e refl)
      ]
      | inr n ↦ rw (ne_eqb (q / 64) (p / 64) n, ne_eqb q p (λ s. n (ap (λ x. x / 64) s))) refl
    ]

pub has_bit_clear : (ws : List ℕ) (p q : ℕ) → p / 64 < length ws → has_bit (put ws (p / 64) (bit_and (get_or ws (p / 64) 0) (bit_not w64 (1 * 2 ^ (p % 64) % 2 ^ 64)))) q ≡ (not (nat_eq q p) && has_bit ws q)
has_bit_clear ws p q h =
    has_bit_at ws (p / 64) _ q h
    ∙ elim (cases_eq (q / 64) (p / 64)) as (λ _. cond (nat_eq (q / 64) (p / 64)) (nat_eq (bit_at (bit_and (get_or ws (p / 64) 0) (bit_not w64 (1 * 2 ^ (p % 64) % 2 ^ 64))) (q % 64)) 1) (has_bit ws q) ≡ (not (nat_eq q p) && has_bit ws q)) [
      | inl e ↦ elim (cases_eq (q % 64) (p % 64)) as (λ _. cond (nat_eq (q / 64) (p / 64)) (nat_eq (bit_at (bit_and (get_or ws (p / 64) 0) (bit_not w64 (1 * 2 ^ (p % 64) % 2 ^ 64))) (q % 64)) 1) (has_bit ws q) ≡ (not (nat_eq q p) && has_bit ws q)) [
        | inl f ↦ rw (eq-eqb q p (same_place q p e f), eq-eqb (q / 64) (p / 64) e, f, bit_at_clear_same w64 (get_or ws (p / 64) 0) (p % 64) (omega arith)) refl
        | inr n ↦ rw (ne_eqb q p (λ s. n (ap (λ x. x % 64) s)), eq-eqb (q / 64) (p / 64) e, bit_at_clear_other w64 (get_or ws (p / 64) 0) (p % 64) (omega arith) (q % 64) (omega arith) n) (unfold has_bit in rw e refl)
      ]
      | inr n ↦ rw (ne_eqb (q / 64) (p / 64) n, ne_eqb q p (λ s. n (ap (λ x. x / 64) s))) refl
    ]

-- zeros at the end change nothing
pub zeros_end : (ws zs : List ℕ) (k : ℕ) → ((i : ℕ) → get_or zs i 0 ≡ 0) → get_or (ws ++ zs) k 0 ≡ get_or ws k 0
zeros_end [] zs k h = h k
zeros_end (w ∷ ws) zs zero h = refl
zeros_end (w ∷ ws) zs (suc k) h = zeros_end ws zs k h

pub has_bit_zeros : (ws zs : List ℕ) (q : ℕ) → ((i : ℕ) → get_or zs i 0 ≡ 0) → has_bit (ws ++ zs) q ≡ has_bit ws q
unfolding has_bit
has_bit_zeros ws zs q h = ap (λ w. nat_eq (bit_at w (q % 64)) 1) (zeros_end ws zs (q / 64) h)

pub words_insert : (new old : List ℕ) (s : set.FinSet nat_cmp) (p : ℕ) → set_of_words old ≡ s → ((q : ℕ) → has_bit new q ≡ (nat_eq q p || has_bit old q)) → set_of_words new ≡ set.insert s p
words_insert new old s p e h = words_are new _ (λ q. h q ∙ sym (contains-insert nat_cmp_total s p q ∙ rw (unsigned_tied q p, ← e, contains_words old q) refl))

pub words_remove : (new old : List ℕ) (s : set.FinSet nat_cmp) (p : ℕ) → set_of_words old ≡ s → ((q : ℕ) → has_bit new q ≡ (not (nat_eq q p) && has_bit old q)) → set_of_words new ≡ set.remove s p
words_remove new old s p e h = words_are new _ (λ q. h q ∙ sym (contains-remove nat_cmp_total s p q ∙ rw (unsigned_tied q p, ← e, contains_words old q) refl))

module _ (new xs ys : List ℕ) (s t : set.FinSet nat_cmp) (e : set_of_words xs ≡ s) (f : set_of_words ys ≡ t) where
  left_has : (q : ℕ) → has_bit xs q ≡ set.contains s q
  left_has q = sym (contains_words xs q) ∙ ap (λ u. set.contains u q) e

  right_has : (q : ℕ) → has_bit ys q ≡ set.contains t q
  right_has q = sym (contains_words ys q) ∙ ap (λ u. set.contains u q) f

  pub words_meet : ((q : ℕ) → has_bit new q ≡ (has_bit xs q && has_bit ys q)) → set_of_words new ≡ set.intersection s t
  words_meet h = words_are new _ (λ q. h q ∙ rw (left_has q, right_has q) (sym (contains-intersection nat_cmp_total s t q)))

  pub words_join : ((q : ℕ) → has_bit new q ≡ (has_bit xs q || has_bit ys q)) → set_of_words new ≡ set.union s t
  words_join h = words_are new _ (λ q. h q ∙ rw (left_has q, right_has q) (sym (contains-union nat_cmp_total s t q)))

  pub words_minus : ((q : ℕ) → has_bit new q ≡ (has_bit xs q && not (has_bit ys q))) → set_of_words new ≡ set.difference s t
  words_minus h = words_are new _ (λ q. h q ∙ rw (left_has q, right_has q) (sym (contains-difference nat_cmp_total s t q)))

-- a clause on a result from two others
pub IfOk-from_two : {T E : Type 0} (r : Result T E) (P Q R : T → Type 0) → ((x : T) → P x → Q x → R x) → IfOk r P → IfOk r Q → IfOk r R
IfOk-from_two (Ok x) P Q R h p q = h x p q
IfOk-from_two (Err e) P Q R h p q = tt

pub replicate_zero : (n i : ℕ) → ◌≡◌ {A = ℕ} (get_or (replicate n 0) i 0) 0
replicate_zero zero i = refl
replicate_zero (suc n) zero = refl
replicate_zero (suc n) (suc i) = replicate_zero n i

-- Packed paths read back.
use Rattle.std.proofs.Common.{◌≡◌, ℕ, ◌+◌, ◌-◌, ◌*◌, ◌/◌, ◌%◌, ◌<◌, Bool, true, false, cond, List, [], ◌∷◌, ◌++◌, map, refl, sym, ap, subst, ◌∙◌, arith, append_assoc}
use Rattle.std.specs.Prelude.{nat_lt, ◌==◌}
use Rattle.std.specs.List.{flat_map, onto_first, AllByRecursion, list_all}
use Rattle.std.proofs.lemmas.Bool.{ne_eqb, and_parts}
use Rattle.std.proofs.lemmas.Bool.Decides.{nat_tests}
use Rattle.paths.specs.Paths.{Pair, RdnKey, Path}
use Rattle.paths.specs.Packed.{byte_code, value_code, type_code, pair_code, step_code, pack, parts, value_of, pair_of, pairs_of, unpack, IsPacked}

pub all_append : {X : Type 0} (P : X → Type 0) (xs ys : List X) → AllByRecursion P xs → AllByRecursion P ys → AllByRecursion P (xs ++ ys)
all_append P [] ys h g = g
all_append P (x ∷ xs) ys h g = (h.0, all_append P xs ys h.1 g)

-- ---- values

by_low : (b : ℕ) (bs : List ℕ) (low : Bool) → nat_lt b 3 ≡ low → value_of false (cond low (2 ∷ (b + 2) ∷ []) (b ∷ []) ++ bs) ≡ b ∷ value_of false bs
unfolding value_of
by_low b bs true h = ap (λ n. n ∷ value_of false bs) (same b)
  where
    same : (b : ℕ) → b + 2 - 2 ≡ b
    same b = omega arith
by_low b bs false h = ap (λ t. cond t (value_of true bs) (b ∷ value_of false bs)) (differs b h)
  where
    differs : (b : ℕ) → nat_lt b 3 ≡ false → (b == 2) ≡ false
    differs b h = grind (arith, nat_tests)

byte_back : (b : ℕ) (bs : List ℕ) → value_of false (byte_code b ++ bs) ≡ b ∷ value_of false bs
unfolding byte_code
byte_back b bs = by_low b bs (nat_lt b 3) refl

bytes_back : (v : List ℕ) → value_of false (flat_map byte_code v) ≡ v
unfolding value_of
bytes_back [] = refl
bytes_back (b ∷ v) = byte_back b (flat_map byte_code v) ∙ ap (λ w. b ∷ w) (bytes_back v)

-- bytes of a text stand for themselves
pub as_they_are : (v : List ℕ) → list_all (λ b. nat_lt 2 b) v ≡ true → flat_map byte_code v ≡ v
unfolding byte_code
as_they_are [] h = refl
as_they_are (b ∷ v) h =
    let both = and_parts (nat_lt 2 b) (list_all (λ c. nat_lt 2 c) v) h in
    ap (λ t. cond t (2 ∷ (b + 2) ∷ []) (b ∷ []) ++ flat_map byte_code v) (high b both.0) ∙ ap (λ w. b ∷ w) (as_they_are v both.1)
  where
    high : (b : ℕ) → nat_lt 2 b ≡ true → nat_lt b 3 ≡ false
    high b h = grind (arith, nat_tests)

-- ---- pairs

body : Pair → List ℕ
body p = type_code p.0 ++ flat_map byte_code p.1

type_back : (t : ℕ) → ((t / 254 / 254 + 2 - 2) * 254 + (t / 254 % 254 + 2 - 2)) * 254 + (t % 254 + 2 - 2) ≡ t
type_back t = omega arith

pair_back : (p : Pair) → pair_of (body p) ≡ p
unfolding body type_code pair_of
pair_back p = λ i. (type_back p.0 i, bytes_back p.1 i)

-- ---- what stands before each z

parted : (z : ℕ) (bs rest : List ℕ) → AllByRecursion (λ b. z < b) bs → parts z (bs ++ z ∷ rest) ≡ bs ∷ parts z rest
unfolding parts
parted z [] rest h = ap (λ t. cond t ([] ∷ parts z rest) (onto_first z (parts z rest))) (same z)
  where
    same : (z : ℕ) → (z == z) ≡ true
    same z = grind (arith, nat_tests)
parted z (b ∷ bs) rest h =
    ap (λ t. cond t ([] ∷ parts z (bs ++ z ∷ rest)) (onto_first b (parts z (bs ++ z ∷ rest)))) (ne_eqb b z (λ e. omega arith))
    ∙ ap (onto_first b) (parted z bs rest h.1)

bytes_high : (v : List ℕ) → AllByRecursion (λ b. 1 < b) (flat_map byte_code v)
unfolding byte_code
bytes_high [] = tt
bytes_high (b ∷ v) = all_append (λ b. 1 < b) (byte_code b) (flat_map byte_code v) (by (nat_lt b 3) refl) (bytes_high v)
  where
    high : (b : ℕ) → nat_lt b 3 ≡ false → 1 < b
    high b h = grind (arith, nat_tests)

    by : (low : Bool) → nat_lt b 3 ≡ low → AllByRecursion (λ b. 1 < b) (cond low (2 ∷ (b + 2) ∷ []) (b ∷ []))
    by true h = (omega arith, (omega arith, tt))
    by false h = (high b h, tt)

body_high : (p : Pair) → AllByRecursion (λ b. 1 < b) (body p)
unfolding body type_code
body_high p = (omega arith, (omega arith, (omega arith, bytes_high p.1)))

-- ---- steps

pair_ends : (p : Pair) (bs : List ℕ) → pair_code p ++ bs ≡ body p ++ 1 ∷ bs
unfolding body pair_code value_code type_code
pair_ends p bs = ap (λ x. type_code p.0 ++ x) (append_assoc (flat_map byte_code p.1) (1 ∷ []) bs)

pairs_parted : (s : RdnKey) → parts 1 (flat_map pair_code s) ≡ map body s
unfolding parts
pairs_parted [] = refl
pairs_parted (p ∷ s) = ap (parts 1) (pair_ends p (flat_map pair_code s)) ∙ parted 1 (body p) (flat_map pair_code s) (body_high p) ∙ ap (λ x. body p ∷ x) (pairs_parted s)

pairs_back : (s : RdnKey) → pairs_of (flat_map pair_code s) ≡ s
unfolding pairs_of
pairs_back s = ap (map pair_of) (pairs_parted s) ∙ each_back s
  where
    each_back : (s : RdnKey) → map pair_of (map body s) ≡ s
    each_back [] = refl
    each_back (p ∷ s) = λ i. pair_back p i ∷ each_back s i

lower : (bs : List ℕ) → AllByRecursion (λ b. 1 < b) bs → AllByRecursion (λ b. 0 < b) bs
lower [] h = tt
lower (b ∷ bs) h = (omega arith, lower bs h.1)

pub pairs_high : (s : RdnKey) → AllByRecursion (λ b. 0 < b) (flat_map pair_code s)
pairs_high [] = tt
pairs_high (p ∷ s) =
    subst (AllByRecursion (λ b. 0 < b)) (sym (pair_ends p (flat_map pair_code s)))
    (all_append (λ b. 0 < b) (body p) (1 ∷ flat_map pair_code s) (lower (body p) (body_high p)) (omega arith, pairs_high s))

pub step_ends : (s : RdnKey) (bs : List ℕ) → step_code s ++ bs ≡ flat_map pair_code s ++ 0 ∷ bs
unfolding step_code
step_ends s bs = append_assoc (flat_map pair_code s) (0 ∷ []) bs

-- ---- paths

steps_parted : (p : Path) → parts 0 (pack p) ≡ map (λ s. flat_map pair_code s) p
unfolding parts pack
steps_parted [] = refl
steps_parted (s ∷ p) = ap (parts 0) (step_ends s (pack p)) ∙ parted 0 (flat_map pair_code s) (pack p) (pairs_high s) ∙ ap (λ x. flat_map pair_code s ∷ x) (steps_parted p)

pub unpacked : (p : Path) → unpack (pack p) ≡ p
unfolding unpack
unpacked p = ap (map pairs_of) (steps_parted p) ∙ each_back p
  where
    each_back : (p : Path) → map pairs_of (map (λ s. flat_map pair_code s) p) ≡ p
    each_back [] = refl
    each_back (s ∷ p) = λ i. pairs_back s i ∷ each_back p i

-- bytes that are a path's code read as it
pub reads_as : (bs : List ℕ) (p : Path) → bs ≡ pack p → unpack bs ≡ p
reads_as bs p is = ap unpack is ∙ unpacked p

pub is_packed : (bs : List ℕ) (p : Path) → bs ≡ pack p → IsPacked bs
is_packed bs p is = ap pack (reads_as bs p is) ∙ sym is

-- the bytes of a path
pub bytes_of : (bs : List ℕ) (p : Path) → IsPacked bs → unpack bs ≡ p → bs ≡ pack p
bytes_of bs p packed is = sym packed ∙ ap pack is

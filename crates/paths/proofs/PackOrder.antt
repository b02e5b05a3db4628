-- Packed paths are in the order of paths.
use Rattle.std.proofs.Common.{◌≡◌, ℕ, ◌+◌, ◌/◌, ◌%◌, ◌<◌, Bool, true, false, cond, List, [], ◌∷◌, ◌++◌, refl, sym, ap, ◌∙◌, arith, append_assoc}
use Rattle.std.specs.Prelude.{nat_lt}
use Rattle.std.specs.List.{flat_map}
use Rattle.std.specs.declared.cmp.Ordering.{Ordering}
use Rattle.std.specs.declared.cmp.Ordering.TheVariants.{Less, Equal, Greater}
use Rattle.std.specs.Ordering.{nat_cmp, ordering_then}
use Rattle.std.specs.Cmp.Lexicographic.{slice_cmp}
use Rattle.std.proofs.lemmas.Bool.Decides.{nat_tests}
use Rattle.paths.specs.Paths.{Pair, RdnKey, Path, pair_cmp, rdn_key_cmp, path_cmp}
use Rattle.paths.specs.Packed.{byte_code, value_code, type_code, pair_code, step_code, pack}

abbrev bytes_cmp : List ℕ → List ℕ → Ordering
bytes_cmp = slice_cmp nat_cmp

-- codes are in the order of what they stand for, whatever comes behind them
abbrev pub Fits : {A : Type 0} → (A → List ℕ) → (A → A → Ordering) → Type 0
Fits {A} code cmp = (a b : A) (x y : List ℕ) → slice_cmp nat_cmp (code a ++ x) (code b ++ y) ≡ ordering_then (cmp a b) (slice_cmp nat_cmp x y)

pub then_assoc : (a b c : Ordering) → ordering_then (ordering_then a b) c ≡ ordering_then a (ordering_then b c)
then_assoc Less b c = refl
then_assoc Equal b c = refl
then_assoc Greater b c = refl

-- ---- lists of codes, each of which begins above z, with z behind the last

record Above (z : ℕ) (bs : List ℕ) : Type 0 where
  first : ℕ
  rest : List ℕ
  is : bs ≡ first ∷ rest
  above : z < first

less_than : (a b : ℕ) → a < b → nat_cmp a b ≡ Less
less_than a b h = grind (arith, nat_tests)

greater_than : (a b : ℕ) → b < a → nat_cmp a b ≡ Greater
greater_than a b h = grind (arith, nat_tests)

tied : (a : ℕ) → nat_cmp a a ≡ Equal
tied a = grind (arith, nat_tests)

module _ {A : Type 0} (code : A → List ℕ) (cmp : A → A → Ordering) (z : ℕ) (fits : Fits code cmp) (begins : (a : A) → Above z (code a)) where
  opened : (a : A) (xs : List A) (u : List ℕ) → flat_map code (a ∷ xs) ++ z ∷ u ≡ code a ++ (flat_map code xs ++ z ∷ u)
  opened a xs u = append_assoc (code a) (flat_map code xs) (z ∷ u)

  before : (b : A) (ys : List A) (u v : List ℕ) → slice_cmp nat_cmp (z ∷ u) (flat_map code (b ∷ ys) ++ z ∷ v) ≡ Less
  before b ys u v =
      let above = begins b in
      ap (slice_cmp nat_cmp (z ∷ u)) (opened b ys v ∙ ap (λ w. w ++ (flat_map code ys ++ z ∷ v)) above.is)
      ∙ ap (λ o. ordering_then o (slice_cmp nat_cmp u (above.rest ++ (flat_map code ys ++ z ∷ v)))) (less_than z above.first above.above)

  behind : (a : A) (xs : List A) (u v : List ℕ) → slice_cmp nat_cmp (flat_map code (a ∷ xs) ++ z ∷ u) (z ∷ v) ≡ Greater
  behind a xs u v =
      let above = begins a in
      ap (λ w. slice_cmp nat_cmp w (z ∷ v)) (opened a xs u ∙ ap (λ w. w ++ (flat_map code xs ++ z ∷ u)) above.is)
      ∙ ap (λ o. ordering_then o (slice_cmp nat_cmp (above.rest ++ (flat_map code xs ++ z ∷ u)) v)) (greater_than above.first z above.above)

  list_order : (xs ys : List A) (u v : List ℕ) → slice_cmp nat_cmp (flat_map code xs ++ z ∷ u) (flat_map code ys ++ z ∷ v) ≡ ordering_then (slice_cmp cmp xs ys) (slice_cmp nat_cmp u v)
  list_order [] [] u v = ap (λ o. ordering_then o (slice_cmp nat_cmp u v)) (tied z)
  list_order [] (b ∷ ys) u v = before b ys u v
  list_order (a ∷ xs) [] u v = behind a xs u v
  list_order (a ∷ xs) (b ∷ ys) u v =
      (λ i. slice_cmp nat_cmp (opened a xs u i) (opened b ys v i))
      ∙ fits a b (flat_map code xs ++ z ∷ u) (flat_map code ys ++ z ∷ v)
      ∙ ap (ordering_then (cmp a b)) (list_order xs ys u v)
      ∙ sym (then_assoc (cmp a b) (slice_cmp cmp xs ys) (slice_cmp nat_cmp u v))

  list_fits : Fits (λ xs. flat_map code xs ++ z ∷ []) (slice_cmp cmp)
  list_fits xs ys u v = (λ i. slice_cmp nat_cmp (append_assoc (flat_map code xs) (z ∷ []) u i) (append_assoc (flat_map code ys) (z ∷ []) v i)) ∙ list_order xs ys u v

-- ---- values

shifted : (a b : ℕ) → nat_cmp (a + 2) (b + 2) ≡ nat_cmp a b
shifted a b = grind (arith, nat_tests)

low_first : (a b : ℕ) → nat_lt a 3 ≡ true → nat_lt b 3 ≡ false → nat_cmp a b ≡ Less
low_first a b h k = grind (arith, nat_tests)

low_below : (b : ℕ) → nat_lt b 3 ≡ false → nat_cmp 2 b ≡ Less
low_below b h = grind (arith, nat_tests)

high_last : (a b : ℕ) → nat_lt a 3 ≡ false → nat_lt b 3 ≡ true → nat_cmp a b ≡ Greater
high_last a b h k = grind (arith, nat_tests)

high_above : (a : ℕ) → nat_lt a 3 ≡ false → nat_cmp a 2 ≡ Greater
high_above a h = grind (arith, nat_tests)

abbrev coded : Bool → ℕ → List ℕ
coded low b = cond low (2 ∷ (b + 2) ∷ []) (b ∷ [])

by_sides : (a b : ℕ) (x y : List ℕ) (c d : Bool) → nat_lt a 3 ≡ c → nat_lt b 3 ≡ d → slice_cmp nat_cmp (coded c a ++ x) (coded d b ++ y) ≡ ordering_then (nat_cmp a b) (slice_cmp nat_cmp x y)
by_sides a b x y true true h k = ap (λ o. ordering_then o (slice_cmp nat_cmp x y)) (shifted a b)
by_sides a b x y true false h k =
    ap (λ o. ordering_then o (slice_cmp nat_cmp ((a + 2) ∷ x) y)) (low_below b k) ∙ sym (ap (λ o. ordering_then o (slice_cmp nat_cmp x y)) (low_first a b h k))
by_sides a b x y false true h k =
    ap (λ o. ordering_then o (slice_cmp nat_cmp x ((b + 2) ∷ y))) (high_above a h) ∙ sym (ap (λ o. ordering_then o (slice_cmp nat_cmp x y)) (high_last a b h k))
by_sides a b x y false false h k = refl

byte_fits : Fits byte_code nat_cmp
unfolding byte_code
byte_fits a b x y = by_sides a b x y (nat_lt a 3) (nat_lt b 3) refl refl

byte_above : (b : ℕ) → Above 1 (byte_code b)
unfolding byte_code
byte_above b = by (nat_lt b 3) refl
  where
    high : (b : ℕ) → nat_lt b 3 ≡ false → 1 < b
    high b h = grind (arith, nat_tests)

    by : (low : Bool) → nat_lt b 3 ≡ low → Above 1 (coded low b)
    by true h = record { first = 2; rest = (b + 2) ∷ []; is = refl; above = omega arith }
    by false h = record { first = b; rest = []; is = refl; above = high b h }

value_fits : Fits value_code (slice_cmp nat_cmp)
unfolding value_code
value_fits = list_fits byte_code nat_cmp 1 byte_fits byte_above

-- ---- types

by_digits : (a b : ℕ) → ordering_then (nat_cmp (a / 254) (b / 254)) (nat_cmp (a % 254) (b % 254)) ≡ nat_cmp a b
by_digits a b = grind (arith, nat_tests)

digits : (t u : ℕ) (o : Ordering) → ordering_then (nat_cmp (t / 254 / 254) (u / 254 / 254)) (ordering_then (nat_cmp (t / 254 % 254) (u / 254 % 254)) (ordering_then (nat_cmp (t % 254) (u % 254)) o)) ≡ ordering_then (nat_cmp t u) o
digits t u o =
    sym (then_assoc (nat_cmp (t / 254 / 254) (u / 254 / 254)) (nat_cmp (t / 254 % 254) (u / 254 % 254)) (ordering_then (nat_cmp (t % 254) (u % 254)) o))
    ∙ ap (λ p. ordering_then p (ordering_then (nat_cmp (t % 254) (u % 254)) o)) (by_digits (t / 254) (u / 254))
    ∙ sym (then_assoc (nat_cmp (t / 254) (u / 254)) (nat_cmp (t % 254) (u % 254)) o)
    ∙ ap (λ p. ordering_then p o) (by_digits t u)

type_fits : Fits type_code nat_cmp
unfolding type_code
type_fits t u x y =
    (λ i. ordering_then (shifted (t / 254 / 254) (u / 254 / 254) i) (ordering_then (shifted (t / 254 % 254) (u / 254 % 254) i) (ordering_then (shifted (t % 254) (u % 254) i) (slice_cmp nat_cmp x y))))
    ∙ digits t u (slice_cmp nat_cmp x y)

-- ---- pairs, steps and paths

pair_fits : Fits pair_code pair_cmp
unfolding pair_code
pair_fits p q x y =
    (λ i. slice_cmp nat_cmp (append_assoc (type_code p.0) (value_code p.1) x i) (append_assoc (type_code q.0) (value_code q.1) y i))
    ∙ type_fits p.0 q.0 (value_code p.1 ++ x) (value_code q.1 ++ y)
    ∙ ap (ordering_then (nat_cmp p.0 q.0)) (value_fits p.1 q.1 x y)
    ∙ sym (then_assoc (nat_cmp p.0 q.0) (slice_cmp nat_cmp p.1 q.1) (slice_cmp nat_cmp x y))

pair_above : (p : Pair) → Above 0 (pair_code p)
unfolding pair_code type_code
pair_above p = record { first = p.0 / 254 / 254 + 2; rest = (p.0 / 254 % 254 + 2) ∷ (p.0 % 254 + 2) ∷ value_code p.1; is = refl; above = omega arith }

pub step_fits : Fits step_code rdn_key_cmp
unfolding step_code
step_fits = list_fits pair_code pair_cmp 0 pair_fits pair_above

-- a code that begins somewhere comes behind no code at all
pub step_above : (s : RdnKey) (bs : List ℕ) → slice_cmp nat_cmp [] (step_code s ++ bs) ≡ Less
unfolding step_code pair_code type_code
step_above [] bs = refl
step_above (p ∷ ps) bs = refl

step_below : (s : RdnKey) (bs : List ℕ) → slice_cmp nat_cmp (step_code s ++ bs) [] ≡ Greater
unfolding step_code pair_code type_code
step_below [] bs = refl
step_below (p ∷ ps) bs = refl

pub packed_order : (p q : Path) → slice_cmp nat_cmp (pack p) (pack q) ≡ path_cmp p q
unfolding pack
packed_order [] [] = refl
packed_order [] (y ∷ q) = step_above y (pack q)
packed_order (x ∷ p) [] = step_below x (pack p)
packed_order (x ∷ p) (y ∷ q) = step_fits x y (pack p) (pack q) ∙ ap (ordering_then (rdn_key_cmp x y)) (packed_order p q)

-- A numeric OID is numbers joined by dots.
use Rattle.std.proofs.Common.{◌≡◌, ℕ, ◌<◌, Bool, true, false, cond, not, ◌&&◌, ◌||◌, eqb, List, [], ◌∷◌, ◌++◌, length, refl, sym, ap, subst, ◌∙◌, ◌⊎◌, inl, inr, arith}
use Rattle.std.specs.List.{list_all, join_with_byte}
use Rattle.std.specs.Char.{is_ascii_digit}
use Rattle.std.proofs.lemmas.Bool.{and_parts, eqb-true}
use Rattle.base.specs.Naming.{is_name, are_groups, is_oid, is_name_or_oid}
use Rattle.definitions.specs.Grammar.{is_number, IsOid, IsNameOrOid}

-- ---- numbers joined by dots are groups

digits_on : (digits rest : List ℕ) → list_all is_ascii_digit digits ≡ true → are_groups false (digits ++ rest) ≡ are_groups false rest
unfolding are_groups
digits_on [] rest h = refl
digits_on (d ∷ ds) rest h =
    let k = and_parts (is_ascii_digit d) (list_all is_ascii_digit ds) h in
    ap (λ (t : Bool). cond t (are_groups false (ds ++ rest)) (eqb d 46 && not false && are_groups true (ds ++ rest))) k.0
    ∙ digits_on ds rest k.1

number_on : (number rest : List ℕ) → is_number number ≡ true → are_groups true (number ++ rest) ≡ are_groups false rest
unfolding are_groups
number_on [] rest h = absurd cc
number_on (d ∷ ds) rest h =
    let k = and_parts (is_ascii_digit d) (list_all is_ascii_digit ds) h in
    ap (λ (t : Bool). cond t (are_groups false (ds ++ rest)) (eqb d 46 && not true && are_groups true (ds ++ rest))) k.0
    ∙ digits_on ds rest k.1

joined_groups : (n : List ℕ) (ns : List (List ℕ)) → list_all is_number (n ∷ ns) ≡ true → are_groups true (join_with_byte 46 (n ∷ ns)) ≡ true
unfolding are_groups
joined_groups n [] h =
    ap (are_groups true) (sym (without n)) ∙ number_on n [] (and_parts (is_number n) true h).0 where
      without : (xs : List ℕ) → xs ++ [] ≡ xs
      without [] = refl
      without (x ∷ xs) = ap (λ (ys : List ℕ). x ∷ ys) (without xs)
joined_groups n (m ∷ ms) h =
    let k = and_parts (is_number n) (list_all is_number (m ∷ ms)) h in
    number_on n (46 ∷ join_with_byte 46 (m ∷ ms)) k.0 ∙ joined_groups m ms k.1

pub oid_found : (text : List ℕ) → IsOid text → is_oid text ≡ true
oid_found text oid = ap is_oid oid.text_is ∙ by oid.numbers oid.some oid.are_numbers where
  by : (ns : List (List ℕ)) → 0 < length ns → list_all is_number ns ≡ true → is_oid (join_with_byte 46 ns) ≡ true
  by [] some are = absurd (omega arith)
  by (n ∷ ns) some are = joined_groups n ns are

-- ---- and groups are numbers joined by dots

-- digits, and nothing or a dot and an OID behind them
record GoesOn (text : List ℕ) : Type 0 where
  digits : List ℕ
  are_digits : list_all is_ascii_digit digits ≡ true
  rest : (text ≡ digits) ⊎ ((behind : List ℕ) × (text ≡ digits ++ 46 ∷ behind) × IsOid behind)

one_number : (text : List ℕ) → is_number text ≡ true → IsOid text
one_number text h = record { numbers = text ∷ []; some = omega arith; are_numbers = ap (λ (t : Bool). t && true) h; text_is = refl }

more_numbers : (number behind text : List ℕ) → is_number number ≡ true → text ≡ number ++ 46 ∷ behind → IsOid behind → IsOid text
more_numbers number behind text h is oid = by oid.numbers oid.some oid.are_numbers oid.text_is where
  by : (ns : List (List ℕ)) → 0 < length ns → list_all is_number ns ≡ true → behind ≡ join_with_byte 46 ns → IsOid text
  by [] some are text_is = absurd (omega arith)
  by (n ∷ ns) some are text_is = record {
    numbers = number ∷ n ∷ ns;
    some = omega arith;
    are_numbers = (λ i. h i && are i);
    text_is = is ∙ ap (λ (r : List ℕ). number ++ 46 ∷ r) text_is;
  }

begun : (b : ℕ) (bs : List ℕ) → is_ascii_digit b ≡ true → GoesOn bs → IsOid (b ∷ bs)
begun b bs h goes = by goes.rest where
  some : list_all is_ascii_digit (b ∷ goes.digits) ≡ true
  some = (λ i. h i && goes.are_digits i)

  by : (bs ≡ goes.digits) ⊎ ((behind : List ℕ) × (bs ≡ goes.digits ++ 46 ∷ behind) × IsOid behind) → IsOid (b ∷ bs)
  by (inl e) = subst IsOid (ap (λ (r : List ℕ). b ∷ r) (sym e)) (one_number (b ∷ goes.digits) some)
  by (inr e) = more_numbers (b ∷ goes.digits) e.0 (b ∷ bs) some (ap (λ (r : List ℕ). b ∷ r) e.1) e.2

longer : (b : ℕ) (bs : List ℕ) → is_ascii_digit b ≡ true → GoesOn bs → GoesOn (b ∷ bs)
longer b bs h goes = record { digits = b ∷ goes.digits; are_digits = (λ i. h i && goes.are_digits i); rest = by goes.rest } where
  by : (bs ≡ goes.digits) ⊎ ((behind : List ℕ) × (bs ≡ goes.digits ++ 46 ∷ behind) × IsOid behind)
      → (b ∷ bs ≡ b ∷ goes.digits) ⊎ ((behind : List ℕ) × (b ∷ bs ≡ (b ∷ goes.digits) ++ 46 ∷ behind) × IsOid behind)
  by (inl e) = inl (ap (λ (r : List ℕ). b ∷ r) e)
  by (inr e) = inr (e.0, ap (λ (r : List ℕ). b ∷ r) e.1, e.2)

abbrev Groups : Bool → List ℕ → Type 0
Groups true text = IsOid text
Groups false text = GoesOn text

-- by whether the next byte is a digit, or a dot where none is due
step : (due : Bool) (b : ℕ) (bs : List ℕ) (d p : Bool) → is_ascii_digit b ≡ d → eqb b 46 ≡ p → (are_groups false bs ≡ true → GoesOn bs) → (are_groups true bs ≡ true → IsOid bs)
    → cond d (are_groups false bs) (p && not due && are_groups true bs) ≡ true → Groups due (b ∷ bs)
step true b bs true p e f on oid h = begun b bs e (on h)
step false b bs true p e f on oid h = longer b bs e (on h)
step true b bs false true e f on oid h = absurd cc
step false b bs false true e f on oid h = record { digits = []; are_digits = refl; rest = inr (bs, ap (λ (c : ℕ). c ∷ bs) (eqb-true b 46 f), oid h) }
step due b bs false false e f on oid h = absurd cc

groups : (due : Bool) (text : List ℕ) → are_groups due text ≡ true → Groups due text
unfolding are_groups
groups true [] h = absurd cc
groups false [] h = record { digits = []; are_digits = refl; rest = inl refl }
groups due (b ∷ bs) h = step due b bs (is_ascii_digit b) (eqb b 46) refl refl (groups false bs) (groups true bs) h

pub oid_only : (text : List ℕ) → is_oid text ≡ true → IsOid text
oid_only text h = groups true text h

-- ---- names and OIDs

pub name_or_oid_found : (text : List ℕ) → IsNameOrOid text → is_name_or_oid text ≡ true
name_or_oid_found text (inl name) = ap (λ (t : Bool). t || is_oid text) name
name_or_oid_found text (inr oid) = by (is_name text) (oid_found text oid) where
  by : (t : Bool) → is_oid text ≡ true → (t || is_oid text) ≡ true
  by true h = refl
  by false h = h

pub name_or_oid_only : (text : List ℕ) → is_name_or_oid text ≡ true → IsNameOrOid text
name_or_oid_only text h = by (is_name text) refl h where
  by : (t : Bool) → is_name text ≡ t → (t || is_oid text) ≡ true → IsNameOrOid text
  by true e h = inl e
  by false e h = inr (oid_only text h)

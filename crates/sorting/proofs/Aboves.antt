-- What is above a name has an earlier turn.
use Rattle.std.proofs.Common.{◌≡◌, ℕ, zero, suc, ◌+◌, ◌<◌, ◌≤◌, max, Bool, true, false, cond, List, [], ◌∷◌, ◌++◌, map, length, length-append, get_or, Option, Some, None, refl, sym, ap, subst, ◌∙◌, arith}
use Rattle.std.specs.Prelude.{◌||◌, nat_lt, ⊤}
use Rattle.std.specs.List.{list_any}
use Rattle.std.specs.Str.{bytes_eq}
use Rattle.std.specs.Ordering.{nat_cmp, ordering_then}
use Rattle.std.specs.Cmp.Lexicographic.{bytes_decides}
use Rattle.std.specs.Cmp.{nat_cmp_is}
use Rattle.std.specs.declared.cmp.Ordering.{Ordering}
use Rattle.std.specs.declared.cmp.Ordering.TheVariants.{Less, Equal}
use Rattle.std.proofs.lemmas.Bool.Decides.{nat_tests}
use Rattle.dn.specs.Names.{Rdn, Name}
use Rattle.sorting.specs.NormalNames.{normal_rdn, name_text, texts_up, name_of_rdns, normal_name}
use Rattle.sorting.specs.Turns.{is_named, last_from, last_named, greatest_last, turn_of, turn_cmp}
use Rattle.sorting.specs.Orders.{is_above}
use Rattle.sorting.specs.declared.normal_names.NormalName.{NormalName}
use Rattle.sorting.specs.declared.turns.Turn.{Turn}
use Rattle.sorting.proofs.Texts.{AreFree, same_rdns, free_rdns}

same_bytes : (a b : List ℕ) → bytes_eq a b ≡ true → a ≡ b
same_bytes a b e = (bytes_decides a b).0 e

-- ---- names that are made of RDNs

pub record IsMade (name : NormalName) : Type 0 where
  pub rdn : List ℕ
  pub rdns : List (List ℕ)
  pub free : AreFree (rdn ∷ rdns)
  pub text_is : name.text ≡ name_text (rdn ∷ rdns)
  pub above_is : name.above ≡ texts_up rdns

-- a text among those of a name and those above it is that of its last RDNs
record IsEnd (text : List ℕ) (rdns : List (List ℕ)) : Type 0 where
  front : List (List ℕ)
  rdn : List ℕ
  end : List (List ℕ)
  free : AreFree (rdn ∷ end)
  text_is : text ≡ name_text (rdn ∷ end)
  texts_are : texts_up rdns ≡ front ++ name_text (rdn ∷ end) ∷ texts_up end

end_of : (text : List ℕ) (rdns : List (List ℕ)) → AreFree rdns → list_any (bytes_eq text) (texts_up rdns) ≡ true → IsEnd text rdns
end_of text [] free is = let no : false ≡ true = is in cc
end_of text (r ∷ rs) free is = by (bytes_eq text (name_text (r ∷ rs))) refl is (end_of text rs free.1)
  where
    by : (t : Bool) → bytes_eq text (name_text (r ∷ rs)) ≡ t → (t || list_any (bytes_eq text) (texts_up rs)) ≡ true → (list_any (bytes_eq text) (texts_up rs) ≡ true → IsEnd text rs) → IsEnd text (r ∷ rs)
    by true e h later = record { front = []; rdn = r; end = rs; free = free; text_is = same_bytes text (name_text (r ∷ rs)) e; texts_are = refl }
    by false e h later =
        let further = later h in
        record { front = name_text (r ∷ rs) ∷ further.front; rdn = further.rdn; end = further.end; free = further.free; text_is = further.text_is; texts_are = ap (λ l. name_text (r ∷ rs) ∷ l) further.texts_are }

abbrev tail_up : List (List ℕ) → List (List ℕ)
tail_up [] = []
tail_up (r ∷ rs) = texts_up rs

-- what is above a name that is above another, is above that, too
pub record IsFurther (name other : NormalName) : Type 0 where
  pub front : List (List ℕ)
  pub texts_are : other.above ≡ front ++ name.text ∷ name.above

further : (name other : NormalName) → IsMade name → IsMade other → list_any (bytes_eq name.text) other.above ≡ true → IsFurther name other
further name other made that is =
    let end = end_of name.text that.rdns that.free.1 (sym (ap (list_any (bytes_eq name.text)) that.above_is) ∙ is) in
    let same : made.rdn ∷ made.rdns ≡ end.rdn ∷ end.end = same_rdns (made.rdn ∷ made.rdns) (end.rdn ∷ end.end) made.free end.free (sym made.text_is ∙ end.text_is) in
    record {
      front = end.front;
      texts_are = that.above_is ∙ end.texts_are ∙ ap (λ (t : List ℕ). end.front ++ t ∷ texts_up end.end) (sym end.text_is)
          ∙ ap (λ (l : List (List ℕ)). end.front ++ name.text ∷ l) (sym (made.above_is ∙ ap tail_up same));
    }

-- ---- positions

module _ (names : List (Option NormalName)) where
  grows : (m n : ℕ) (texts : List (List ℕ)) → m ≤ n → greatest_last names m texts ≤ greatest_last names n texts
  grows m n [] h = h
  grows m n (t ∷ ts) h = grows (max m (last_named names t)) (max n (last_named names t)) ts (omega (arith, h))

  at_least : (n : ℕ) (texts : List (List ℕ)) → n ≤ greatest_last names n texts
  at_least n [] = omega arith
  at_least n (t ∷ ts) = let h = at_least (max n (last_named names t)) ts in omega (arith, h)

  reaches : (n i : ℕ) (front : List (List ℕ)) (text : List ℕ) (texts : List (List ℕ)) → i ≤ last_named names text → greatest_last names i texts ≤ greatest_last names n (front ++ text ∷ texts)
  reaches n i [] text texts h = grows i (max n (last_named names text)) texts (omega (arith, h))
  reaches n i (f ∷ fs) text texts h = reaches (max n (last_named names f)) i fs text texts h

-- the number of a stanza is at most that of the last with its name
last_of : (n : ℕ) (names : List (Option NormalName)) (i : ℕ) (name : Option NormalName) (text : List ℕ) → i < length names → name ≡ get_or names i name → is_named text name ≡ true → n + i ≤ last_from n names text
unfolding last_from
last_of n [] i name text lt is named = absurd (omega (arith, lt))
last_of n (first ∷ names) zero name text lt is named =
    let here : is_named text first ≡ true = sym (ap (is_named text) is) ∙ named in
    by (is_named text first) here
  where
    by : (t : Bool) → t ≡ true → n + 0 ≤ max (cond t n 0) (last_from (n + 1) names text)
    by true e = omega arith
    by false e = cc
last_of n (first ∷ names) (suc i) name text lt is named =
    let h = last_of (n + 1) names i name text (omega (arith, lt)) is named in
    let bound = max_right (cond (is_named text first) n 0) (last_from (n + 1) names text) in omega (arith, h, bound)
  where
    max_right : (a b : ℕ) → b ≤ max a b
    max_right a b = omega arith

-- ---- turns

turn_less : (s t : Turn) → s.position ≤ t.position → s.depth < t.depth → turn_cmp s t ≡ Less
turn_less s t le lt = by (nat_lt s.position t.position) refl
  where
    rest : Ordering
    rest = ordering_then (nat_cmp s.depth t.depth) (nat_cmp s.number t.number)

    by : (b : Bool) → nat_lt s.position t.position ≡ b → ordering_then (nat_cmp s.position t.position) rest ≡ Less
    by true e = ap (λ o. ordering_then o rest) (sym (nat_cmp_is s.position t.position Less (grind (arith, nat_tests))))
    by false e =
        ap (λ o. ordering_then o rest) (sym (nat_cmp_is s.position t.position Equal (grind (arith, nat_tests))))
        ∙ ap (λ o. ordering_then o (nat_cmp s.number t.number)) (sym (nat_cmp_is s.depth t.depth Less lt))

-- each name that there is, is made of RDNs
abbrev pub IsMadeOrNone : Option NormalName → Type 0
IsMadeOrNone None = ⊤
IsMadeOrNone (Some name) = IsMade name

-- a stanza above another has an earlier turn
pub earlier : (names : List (Option NormalName)) (i j : ℕ) (n m : Option NormalName) → i < length names → n ≡ get_or names i n → IsMadeOrNone n → IsMadeOrNone m
    → is_above n m ≡ true → turn_cmp (turn_of names i n) (turn_of names j m) ≡ Less
earlier names i j None m lt is a b above = cc
earlier names i j (Some name) None lt is a b above = cc
earlier names i j (Some name) (Some other) lt is a b above =
    let f = further name other a b above in
    let last : i ≤ last_named names name.text = let h = last_of 0 names i (Some name) name.text lt is (itself name.text) in omega (arith, h) in
    let positions : greatest_last names i name.above ≤ greatest_last names j other.above =
    subst (λ (l : List (List ℕ)). greatest_last names i name.above ≤ greatest_last names j l) (sym f.texts_are) (reaches names j i f.front name.text name.above last) in
    let long = ap (λ (l : List (List ℕ)). length l) f.texts_are ∙ length-append f.front (name.text ∷ name.above) in
    turn_less (turn_of names i (Some name)) (turn_of names j (Some other)) positions (omega (arith, long))
  where
    itself : (text : List ℕ) → bytes_eq text text ≡ true
    itself text = (bytes_decides text text).1 refl

-- names that are read are made of RDNs
pub read_is_made : (n : Name) → IsMadeOrNone (normal_name n)
read_is_made [] = tt
read_is_made (r ∷ rs) = record { rdn = normal_rdn r; rdns = map normal_rdn rs; free = free_rdns (r ∷ rs); text_is = refl; above_is = refl }

-- a name is above one that has its RDNs behind another one
pub above_its_rdns : (first r : Rdn) (n m : Name) → map normal_rdn m ≡ map normal_rdn (r ∷ n) → is_above (normal_name m) (normal_name (first ∷ r ∷ n)) ≡ true
above_its_rdns first r n m same = by (map normal_rdn m) same
  where
    by : (rdns : List (List ℕ)) → rdns ≡ map normal_rdn (r ∷ n) → is_above (name_of_rdns rdns) (normal_name (first ∷ r ∷ n)) ≡ true
    by [] e = absurd (let no : [] ≡ normal_rdn r ∷ map normal_rdn n = e in cc)
    by (x ∷ xs) e =
        ap (λ (l : List (List ℕ)). list_any (bytes_eq (name_text (x ∷ xs))) (texts_up l)) (sym e)
        ∙ ap (λ (t : Bool). t || list_any (bytes_eq (name_text (x ∷ xs))) (texts_up xs)) ((bytes_decides (name_text (x ∷ xs)) (name_text (x ∷ xs))).1 refl)

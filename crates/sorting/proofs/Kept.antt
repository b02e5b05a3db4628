-- Stanzas that are in order stay as they are, and in any case all are there.
use Rattle.std.proofs.Common.{◌≡◌, ℕ, ◌+◌, ◌<◌, ◌≤◌, max, Bool, true, false, cond, List, [], ◌∷◌, ◌++◌, length, length-append, get_or, Option, Some, None, refl, sym, ap, subst, ◌∙◌, append_assoc, append-nil, arith}
use Rattle.std.specs.Prelude.{◌||◌}
use Rattle.std.specs.BTreeSet.{insert_key}
use Rattle.std.specs.Cmp.{nat_cmp_is}
use Rattle.std.specs.List.{list_any, AllByRecursion}
use Rattle.std.specs.Ordering.{nat_cmp, match_ordering, ordering_then}
use Rattle.std.specs.Str.{bytes_eq}
use Rattle.std.specs.declared.cmp.Ordering.{Ordering}
use Rattle.std.specs.declared.cmp.Ordering.TheVariants.{Greater}
use Rattle.sorting.specs.Turns.{names_above, is_named, last_from, last_named, greatest_last, turn_of, turns_from, turn_cmp, with_turns, turns}
use Rattle.sorting.specs.Orders.{is_above, AreInOrder}
use Rattle.sorting.specs.Sorted.{names_of, in_turn, sorted_stanzas}
use Rattle.sorting.specs.declared.normal_names.NormalName.{NormalName}
use Rattle.sorting.specs.declared.turns.Turn.{Turn}
use Rattle.sorting.proofs.InTurn.{Names}

-- ---- positions of stanzas that are in order

-- the last with a name is no later than where the names end
bounded : (m k : ℕ) (names : Names) (text : List ℕ) → m + length names ≤ k + 1 → last_from m names text ≤ k
unfolding last_from
bounded m k [] text le = omega arith
bounded m k (name ∷ names) text le = by (is_named text name) (bounded (m + 1) k names text (omega (arith, le)))
  where
    by : (b : Bool) → last_from (m + 1) names text ≤ k → max (cond b m 0) (last_from (m + 1) names text) ≤ k
    by true h = omega (arith, h, le)
    by false h = omega (arith, h)

none_later : (m : ℕ) (names : Names) (text : List ℕ) → AllByRecursion (λ name. is_named text name ≡ false) names → last_from m names text ≡ 0
unfolding last_from
none_later m [] text none = refl
none_later m (name ∷ names) text none = ap (λ (b : Bool). max (cond b m 0) (last_from (m + 1) names text)) none.0 ∙ ap (max 0) (none_later (m + 1) names text none.1) ∙ omega arith

in_front : (m k : ℕ) (front more : Names) (text : List ℕ) → m + length front ≤ k + 1 → AllByRecursion (λ name. is_named text name ≡ false) more → last_from m (front ++ more) text ≤ k
unfolding last_from
in_front m k [] more text le none = let h = none_later m more text none in omega (arith, h)
in_front m k (name ∷ front) more text le none = by (is_named text name) (in_front (m + 1) k front more text (omega (arith, le)) none)
  where
    by : (b : Bool) → last_from (m + 1) (front ++ more) text ≤ k → max (cond b m 0) (last_from (m + 1) (front ++ more) text) ≤ k
    by true h = omega (arith, h, le)
    by false h = omega (arith, h)

-- whether a name is among texts
abbrev is_among : Option NormalName → List (List ℕ) → Bool
is_among None texts = false
is_among (Some name) texts = list_any (bytes_eq name.text) texts

first_of : (name : Option NormalName) (text : List ℕ) (texts : List (List ℕ)) → is_among name (text ∷ texts) ≡ false → is_named text name ≡ false
first_of None text texts h = refl
first_of (Some name) text texts h = by (bytes_eq name.text text) h
  where
    by : (b : Bool) → (b || list_any (bytes_eq name.text) texts) ≡ false → b ≡ false
    by true h = h
    by false h = refl

others_of : (name : Option NormalName) (text : List ℕ) (texts : List (List ℕ)) → is_among name (text ∷ texts) ≡ false → is_among name texts ≡ false
others_of None text texts h = refl
others_of (Some name) text texts h = by (bytes_eq name.text text) h
  where
    by : (b : Bool) → (b || list_any (bytes_eq name.text) texts) ≡ false → list_any (bytes_eq name.text) texts ≡ false
    by true h = cc
    by false h = h

all_first : (names : Names) (text : List ℕ) (texts : List (List ℕ)) → AllByRecursion (λ name. is_among name (text ∷ texts) ≡ false) names → AllByRecursion (λ name. is_named text name ≡ false) names
all_first [] text texts h = tt
all_first (name ∷ names) text texts h = (first_of name text texts h.0, all_first names text texts h.1)

all_others : (names : Names) (text : List ℕ) (texts : List (List ℕ)) → AllByRecursion (λ name. is_among name (text ∷ texts) ≡ false) names → AllByRecursion (λ name. is_among name texts ≡ false) names
all_others [] text texts h = tt
all_others (name ∷ names) text texts h = (others_of name text texts h.0, all_others names text texts h.1)

stays : (names front more : Names) (name : Option NormalName) (n : ℕ) (texts : List (List ℕ)) → names ≡ front ++ name ∷ more → n ≡ length front
    → AllByRecursion (λ later. is_among later texts ≡ false) more → greatest_last names n texts ≡ n
stays names front more name n [] whole count none = refl
stays names front more name n (text ∷ texts) whole count none =
    let cut : names ≡ (front ++ name ∷ []) ++ more = whole ∙ sym (append_assoc front (name ∷ []) more) in
    let long = length-append front (name ∷ []) in
    let low : last_named names text ≤ n = subst (λ (ns : Names). last_from 0 ns text ≤ n) (sym cut) (in_front 0 n (front ++ name ∷ []) more text (omega (arith, long, count)) (all_first more text texts none)) in
    let same : max n (last_named names text) ≡ n = omega (arith, low) in
    ap (λ (m : ℕ). greatest_last names m texts) same ∙ stays names front more name n texts whole count (all_others more text texts none)

above_none : (name later : Option NormalName) → is_above later name ≡ false → is_among later (names_above name) ≡ false
above_none name None h = refl
above_none name (Some later) h = h

all_above_none : (name : Option NormalName) (more : Names) → AllByRecursion (λ later. is_above later name ≡ false) more → AllByRecursion (λ later. is_among later (names_above name) ≡ false) more
all_above_none name [] h = tt
all_above_none name (later ∷ more) h = (above_none name later h.0, all_above_none name more h.1)

-- ---- turns that rise stay as they are

behind_all : (ks : List Turn) (k : Turn) → AllByRecursion (λ s. s.position < k.position) ks → insert_key turn_cmp ks k ≡ ks ++ k ∷ []
behind_all [] k all = refl
behind_all (x ∷ xs) k all =
    ap (λ (o : Ordering). match_ordering o (k ∷ x ∷ xs) (x ∷ xs) (x ∷ insert_key turn_cmp xs k)) greater
    ∙ ap (λ (ts : List Turn). x ∷ ts) (behind_all xs k all.1)
  where
    greater : turn_cmp k x ≡ Greater
    greater = ap (λ o. ordering_then o (ordering_then (nat_cmp k.depth x.depth) (nat_cmp k.number x.number))) (sym (nat_cmp_is k.position x.position Greater all.0))

higher : (n : ℕ) (ts : List Turn) → AllByRecursion (λ s. s.position < n) ts → AllByRecursion (λ s. s.position < n + 1) ts
higher n [] all = tt
higher n (t ∷ ts) all = let h = all.0 in (omega (arith, h), higher n ts all.1)

one_higher : (n : ℕ) (ts : List Turn) (t : Turn) → t.position ≡ n → AllByRecursion (λ s. s.position < n) ts → AllByRecursion (λ s. s.position < n + 1) (ts ++ t ∷ [])
one_higher n [] t is all = (omega (arith, is), tt)
one_higher n (s ∷ ts) t is all = let h = all.0 in (omega (arith, h), one_higher n ts t is all.1)

one_place : (n : ℕ) (ts : List Turn) (t : Turn) → t.position ≡ n → AllByRecursion (λ s. s.position < n) ts → AllByRecursion (λ s. s.position < t.position) ts
one_place n ts t is all = subst (λ (m : ℕ). AllByRecursion (λ s. s.position < m) ts) (sym is) all

kept_turns : (names front more : Names) (n : ℕ) (so_far : List Turn) → names ≡ front ++ more → n ≡ length front → AreInOrder more → AllByRecursion (λ s. s.position < n) so_far
    → with_turns so_far (turns_from names n more) ≡ so_far ++ turns_from names n more
unfolding with_turns turns_from
kept_turns names front [] n so_far whole count order low = sym (append-nil so_far)
kept_turns names front (name ∷ more) n so_far whole count order low =
    let t = turn_of names n name in
    let is : t.position ≡ n = stays names front more name n (names_above name) whole count (all_above_none name more order.0) in
    let long = length-append front (name ∷ []) in
    ap (λ (ks : List Turn). with_turns ks (turns_from names (n + 1) more)) (behind_all so_far t (one_place n so_far t is low))
    ∙ kept_turns names (front ++ name ∷ []) more (n + 1) (so_far ++ t ∷ []) (whole ∙ sym (append_assoc front (name ∷ []) more)) (omega (arith, long, count)) order.1 (one_higher n so_far t is low)
    ∙ append_assoc so_far (t ∷ []) (turns_from names (n + 1) more)

at_end : (front : List (List ℕ)) (stanza : List ℕ) (more : List (List ℕ)) → get_or (front ++ stanza ∷ more) (length front) [] ≡ stanza
at_end [] stanza more = refl
at_end (x ∷ xs) stanza more = at_end xs stanza more

pub each_itself : (names : Names) (ps front more : List (List ℕ)) (n : ℕ) → ps ≡ front ++ more → n ≡ length front → in_turn ps (turns_from names n (names_of more)) ≡ more
unfolding turns_from
each_itself names ps front [] n whole count = refl
each_itself names ps front (stanza ∷ more) n whole count =
    let long = length-append front (stanza ∷ []) in
    let here : get_or ps n [] ≡ stanza = ap (λ (l : List (List ℕ)). get_or l n []) whole ∙ ap (λ (m : ℕ). get_or (front ++ stanza ∷ more) m []) count ∙ at_end front stanza more in
    (λ i. here i ∷ each_itself names ps (front ++ stanza ∷ []) more (n + 1) (whole ∙ sym (append_assoc front (stanza ∷ []) more)) (omega (arith, long, count)) i)

pub kept : (ps : List (List ℕ)) → AreInOrder (names_of ps) → sorted_stanzas ps ≡ ps
unfolding turns
kept ps order =
    ap (in_turn ps) (kept_turns (names_of ps) [] (names_of ps) 0 [] refl refl order tt)
    ∙ each_itself (names_of ps) ps [] ps 0 refl refl

-- Ranks that rise, one after the other.
use Rattle.std.proofs.Common.{◌≡◌, ℕ, ◌+◌, ◌<◌, ◌≤◌, Bool, true, false, List, [], ◌∷◌, ◌++◌, if◌then◌else◌, nat_le, nat_lt, Result, Ok, Err, refl, sym, ap, ◌∙◌, arith}
use Rattle.std.proofs.lemmas.Bool.Decides.{nat_tests}
use Rattle.std.specs.Prelude.{◌&&◌}
use Rattle.std.proofs.lemmas.Bool.{false_from_ne_true}
use Rattle.std.proofs.lemmas.List.{append-nil}
use Rattle.base.specs.Answers.{◌>>=◌, each}
use Rattle.base.proofs.Each.{with_front}
use Rattle.id_sets.specs.Ascending.{AllAbove, IsAscending}
use Rattle.stored_index.specs.KeyLines.{are_rising, are_within, are_in_order, ranks_in}
use Rattle.stored_index.specs.Words.{number_in}
use Rattle.stored_index.specs.declared.fault.IndexFaultKind.{IndexFaultKind}
use Rattle.stored_index.specs.declared.fault.IndexFaultKind.TheVariants.{Order, Rank}

-- the least that may come behind these
abbrev pub least_after : ℕ → List ℕ → ℕ
least_after least [] = least
least_after least (rank ∷ ranks) = least_after (rank + 1) ranks

pub least_more : (least : ℕ) (ns : List ℕ) (n : ℕ) → least_after least (ns ++ n ∷ []) ≡ n + 1
least_more least [] n = refl
least_more least (m ∷ ns) n = least_more (m + 1) ns n

both : (b : Bool) → (if b then true else false) ≡ b
both true = refl
both false = refl

chosen : (b : Bool) (x y z : Bool) → x ≡ (if y then z else false) → (if b then x else false) ≡ (if (if b then y else false) then z else false)
chosen true x y z h = h
chosen false x y z h = refl

first_true : (a b : Bool) → (if a then b else false) ≡ true → (a ≡ true) × (b ≡ true)
first_true true b h = (refl, h)
first_true false b h = absurd (cc)

all_cons : (a b : Bool) → a ≡ true → b ≡ true → (a && b) ≡ true
all_cons a b e f = rw (e, f) refl

-- a further one that is at least the least keeps the order
pub rising_more : (least : ℕ) (ns : List ℕ) (n : ℕ) → are_rising least (ns ++ n ∷ []) ≡ (if are_rising least ns then nat_le (least_after least ns) n else false)
unfolding are_rising
rising_more least [] n = both (nat_le least n)
rising_more least (m ∷ ns) n = chosen (nat_le least m) _ _ _ (rising_more (m + 1) ns n)

-- ranks that rise are below what the least behind them is at most
pub within : (entries least : ℕ) (ns : List ℕ) → are_rising least ns ≡ true → least_after least ns ≤ entries → (least ≤ entries) × (are_within entries ns ≡ true)
unfolding are_rising
within entries least [] rising le = (le, refl)
within entries least (n ∷ ns) rising le =
    let here = first_true (nat_le least n) (are_rising (n + 1) ns) rising in
    let more = within entries (n + 1) ns here.1 le in
    let low : least ≤ n = grind (arith, nat_tests, here.0) in
    let test : nat_lt n entries ≡ true = grind (arith, nat_tests, more.0) in
    let bound = more.0 in
    (omega arith, all_cons (nat_lt n entries) (are_within entries ns) test more.1)

and_is : (a b : Bool) → (a && b) ≡ (if a then b else false)
and_is true b = refl
and_is false b = refl

and_parts : (a b : Bool) → (a && b) ≡ true → (a ≡ true) × (b ≡ true)
and_parts a b h = first_true a b (sym (and_is a b) ∙ h)

pub itself : (key : Bool) → key ≡ are_in_order key []
unfolding are_rising
itself true = refl
itself false = refl

pub in_order_more : (key a : Bool) (ns : List ℕ) (least n : ℕ) → a ≡ are_in_order key ns → least ≡ least_after 0 ns → (a && nat_le least n) ≡ are_in_order key (ns ++ n ∷ [])
in_order_more true a ns least n e f = rw (e, f) (and_is (are_rising 0 ns) (nat_le (least_after 0 ns) n) ∙ sym (rising_more 0 ns n))
in_order_more false a ns least n e f = rw e refl

-- what keeping a rank makes of those that were kept, where they are asked for
pub kept : (r new : List ℕ) (asked a : Bool) (entries least rank : ℕ) (ns : List ℕ) → asked ≡ true → (a ≡ true → least ≤ entries → r ≡ ns)
    → new ≡ (if (asked && (a && nat_le least rank)) && nat_lt rank entries then r ++ rank ∷ [] else r) → (a && nat_le least rank) ≡ true → rank + 1 ≤ entries
    → new ≡ ns ++ rank ∷ []
kept r new asked a entries least rank ns is so_far put rises fits =
    let parts = and_parts a (nat_le least rank) rises in
    let low : least ≤ rank = grind (arith, nat_tests, parts.1) in
    let small : nat_lt rank entries ≡ true = grind (arith, nat_tests) in
    let wanted = all_cons (asked && (a && nat_le least rank)) (nat_lt rank entries) (all_cons asked (a && nat_le least rank) is rises) small in
    put ∙ ap (λ (w : Bool). if w then r ++ rank ∷ [] else r) wanted ∙ ap (λ (xs : List ℕ). xs ++ rank ∷ []) (so_far parts.0 (omega arith))

-- and where they aren't
pub none_kept : (r new : List ℕ) (asked a : Bool) (entries least rank : ℕ) → asked ≡ false → r ≡ []
    → new ≡ (if (asked && (a && nat_le least rank)) && nat_lt rank entries then r ++ rank ∷ [] else r) → new ≡ []
none_kept r new asked a entries least rank isnt none put =
    put ∙ ap (λ (q : Bool). if (q && (a && nat_le least rank)) && nat_lt rank entries then r ++ rank ∷ [] else r) isnt ∙ none

above_all : (least low : ℕ) (ns : List ℕ) → low < least → are_rising least ns ≡ true → AllAbove low ns
unfolding are_rising
above_all least low [] lt rising = tt
above_all least low (n ∷ ns) lt rising =
    let here = first_true (nat_le least n) (are_rising (n + 1) ns) rising in
    let le : least ≤ n = grind (arith, nat_tests, here.0) in
    (omega arith, above_all (n + 1) low ns (omega arith) here.1)

pub ascending : (least : ℕ) (ns : List ℕ) → are_rising least ns ≡ true → IsAscending ns
unfolding are_rising
ascending least [] rising = tt
ascending least (n ∷ ns) rising =
    let here = first_true (nat_le least n) (are_rising (n + 1) ns) rising in
    (above_all (n + 1) n ns (omega arith) here.1, ascending (n + 1) ns here.1)

pub bounded : (entries least : ℕ) (ns : List ℕ) → least ≤ entries → are_within entries ns ≡ true → least_after least ns ≤ entries
bounded entries least [] le all = le
bounded entries least (n ∷ ns) le all =
    let parts = and_parts (nat_lt n entries) (are_within entries ns) all in
    let here : n < entries = grind (arith, nat_tests, parts.0) in
    bounded entries (n + 1) ns (omega arith) parts.1

pub rising_of : (key : Bool) (ns : List ℕ) → are_in_order key ns ≡ true → are_rising 0 ns ≡ true
rising_of true ns h = h
rising_of false ns h = absurd (cc)

-- ---- what the whole comes to

pub all_read : (f : List ℕ → Result ℕ IndexFaultKind) (ns : List ℕ) (whole : Result (List ℕ) IndexFaultKind) → with_front ns (each f []) ≡ whole → whole ≡ Ok ns
unfolding with_front each
all_read f ns whole h = sym h ∙ ap (λ (xs : List ℕ). Ok xs) (append-nil ns)

opened : (f : List ℕ → Result ℕ IndexFaultKind) (all : List (List ℕ)) (word : List ℕ) (words : List (List ℕ)) → all ≡ word ∷ words → each f all ≡ (f word >>= λ y. each f words >>= λ ys. Ok (y ∷ ys))
unfolding each
opened f all word words cut = ap (each f) cut

pub one_fails : (f : List ℕ → Result ℕ IndexFaultKind) (all : List (List ℕ)) (word : List ℕ) (words : List (List ℕ)) (front : List ℕ) (whole : Result (List ℕ) IndexFaultKind) (fault : IndexFaultKind)
    → all ≡ word ∷ words → with_front front (each f all) ≡ whole → f word ≡ Err fault → whole ≡ Err fault
unfolding with_front
one_fails f all word words front whole fault cut h e =
    sym h ∙ ap (with_front front) (opened f all word words cut ∙ ap (λ (r : Result ℕ IndexFaultKind). r >>= λ y. each f words >>= λ ys. Ok (y ∷ ys)) e)

pub faulty : (key : Bool) (entries : ℕ) (words : List (List ℕ)) (fault : IndexFaultKind) → each number_in words ≡ Err fault → ranks_in key entries words ≡ Err fault
unfolding ranks_in
faulty key entries words fault h = rw h refl

pub out_of_order : (key : Bool) (entries : ℕ) (words : List (List ℕ)) (ns : List ℕ) → each number_in words ≡ Ok ns → are_in_order key ns ≡ false → ranks_in key entries words ≡ Err Order
unfolding ranks_in
out_of_order key entries words ns h e = rw (h, e) refl

pub of_no_entry : (key : Bool) (entries : ℕ) (words : List (List ℕ)) (ns : List ℕ) → each number_in words ≡ Ok ns → are_in_order key ns ≡ true → entries < least_after 0 ns → ranks_in key entries words ≡ Err Rank
unfolding ranks_in
of_no_entry key entries words ns h e lt =
    let none : are_within entries ns ≡ false = false_from_ne_true _ (λ all. let k = bounded entries 0 ns (omega arith) all in omega arith) in
    rw (h, e, none) refl

pub as_they_are : (key : Bool) (entries : ℕ) (words : List (List ℕ)) (ns : List ℕ) → each number_in words ≡ Ok ns → are_in_order key ns ≡ true → least_after 0 ns ≤ entries → ranks_in key entries words ≡ Ok ns
unfolding ranks_in
as_they_are key entries words ns h e le =
    let all = (within entries 0 ns (rising_of key ns e) le).1 in
    rw (h, e, all) refl

-- Types that are told.
use Rattle.std.proofs.Common.{◌≡◌, ℕ, ◌+◌, ◌<◌, ◌∙◌, ap, sym, refl, true, false, Bool, ◌||◌, ◌==◌, nat_eq, if◌then◌else◌, cond, List, [], ◌∷◌, ◌++◌, length, take, map, get_or, codes, append_assoc, arith}
use Rattle.std.specs.List.{filter, AllByRecursion}
use Rattle.std.proofs.lemmas.Bool.Decides.{nat_tests}
use Rattle.std.proofs.lemmas.List.{map_more, length-map, length-take-le}
use Rattle.schema.specs.Conf.{Conf}
use Rattle.schema.specs.Superclasses.{has_number}
use Rattle.sentences.specs.ClassWords.{listed}
use Rattle.sentences.specs.PartWords.{type_words}

abbrev pub before : ℕ → List ℕ
before place = if place == 0 then [] else codes ", "

before_more : (n : ℕ) → 0 < n → before n ≡ codes ", "
before_more n some = grind (arith, nat_tests)

listed_more : (texts : List (List ℕ)) (text : List ℕ) → listed (texts ++ text ∷ []) ≡ (listed texts ++ before (length texts)) ++ text
listed_more [] text = refl
listed_more (x ∷ []) text = refl
listed_more (x ∷ y ∷ ys) text =
    let front = x ++ codes ", " in
    let same : before (length (y ∷ ys)) ≡ before (length (x ∷ y ∷ ys)) = before_more (length (y ∷ ys)) (omega arith) ∙ sym (before_more (length (x ∷ y ∷ ys)) (omega arith)) in
    ap (λ z. front ++ z) (listed_more (y ∷ ys) text)
    ∙ sym (append_assoc front (listed (y ∷ ys) ++ before (length (y ∷ ys))) text)
    ∙ ap (λ z. z ++ text) (sym (append_assoc front (listed (y ∷ ys)) (before (length (y ∷ ys)))))
    ∙ ap (λ z. ((front ++ listed (y ∷ ys)) ++ z) ++ text) same

pub types_listed : (conf : Conf) (types : List ℕ) (i t : ℕ) (out words comma new : List ℕ) → i < length types → t ≡ get_or types i t
    → words ≡ out ++ listed (map (type_words conf) (take i types)) → comma ≡ words ++ before i → new ≡ comma ++ type_words conf t
    → new ≡ out ++ listed (map (type_words conf) (take (i + 1) types))
types_listed conf types i t out words comma new more is so_far first last =
    let texts : List (List ℕ) = map (type_words conf) (take i types) in
    let len : length texts ≡ i = length-map (take i types) (type_words conf) ∙ length-take-le i types (omega (arith, more)) in
    let next : map (type_words conf) (take (i + 1) types) ≡ texts ++ type_words conf t ∷ [] =
    map_more (type_words conf) types i t more ∙ ap (λ u. texts ++ type_words conf u ∷ []) (sym is) in
    last ∙ ap (λ z. z ++ type_words conf t) (first ∙ (λ j. so_far j ++ before (sym len j)) ∙ append_assoc out (listed texts) (before (length texts)))
    ∙ append_assoc out (listed texts ++ before (length texts)) (type_words conf t)
    ∙ ap (λ z. out ++ z) (sym (listed_more texts (type_words conf t)) ∙ ap listed (sym next))

-- ---- what is required

itself : (n : ℕ) → nat_eq n n ≡ true
itself n = grind (arith, nat_tests)

either_way : (a b : Bool) → b ≡ true → (a || b) ≡ true
either_way true b is = refl
either_way false b is = is

kept : (P : ℕ → Bool) (q : Bool) (t : ℕ) (ts : List ℕ) → P t ≡ true → AllByRecursion (λ u. P u ≡ true) ts → AllByRecursion (λ u. P u ≡ true) (cond q (t ∷ ts) ts)
kept P true t ts is are = (is, are)
kept P false t ts is are = are

some_required : (required types : List ℕ) (P Q : ℕ → Bool) → ((t : ℕ) → has_number required t ≡ true → has_number types t ≡ true)
    → ((t : ℕ) → has_number types t ≡ P t) → AllByRecursion (λ t. P t ≡ true) (filter Q required)
some_required [] types P Q among are = tt
some_required (t ∷ ts) types P Q among are =
    kept P (Q t) t (filter Q ts) (sym (are t) ∙ among t (ap (λ b. b || has_number ts t) (itself t)))
    (some_required ts types P Q (λ u h. among u (either_way (nat_eq u t) (has_number ts u) h)) are)

pub all_required : (types : List ℕ) (P Q : ℕ → Bool) → ((t : ℕ) → has_number types t ≡ P t) → AllByRecursion (λ t. P t ≡ true) (filter Q types)
all_required types P Q are = some_required types types P Q (λ t h. h) are

-- A loop that reads each of a list, up to the first fault: what was read, followed by what the rest reads as, is what the whole reads as.
use Rattle.std.proofs.Common.{◌≡◌, ℕ, ◌+◌, ◌<◌, ◌≤◌, List, [], ◌∷◌, ◌++◌, length, get_or, drop, map, Option, Some, None, Result, Ok, Err, refl, sym, ap, ◌∙◌, append_assoc}
use Rattle.std.proofs.lemmas.List.{drop_more, drop_all, append-nil, map-append}
use Rattle.base.specs.Answers.{◌>>=◌, each, Fails}

-- what fails in a step fails in the whole, where the step's fault is the whole's
pub passed_on : {Y Z F : Type 0} (e : Option F) (part : Result Y F) (whole : Result Z F) → ((fault : F) → part ≡ Err fault → whole ≡ Err fault) → Fails e part → Fails e whole
passed_on None part whole same h = tt
passed_on (Some fault) part whole same h = same fault h

unfoldable pub with_front : {Y F : Type 0} → List Y → Result (List Y) F → Result (List Y) F
with_front front (Ok ys) = Ok (front ++ ys)
with_front front (Err fault) = Err fault

pub nothing_front : {Y F : Type 0} (r : Result (List Y) F) → with_front [] r ≡ r
unfolding with_front
nothing_front (Ok ys) = refl
nothing_front (Err fault) = refl

abbrev ok : {Y F : Type 0} → List Y → Result (List Y) F
ok ys = Ok ys

pub more : {Y F : Type 0} (front : List Y) (y : Y) (r : Result (List Y) F) → with_front (front ++ y ∷ []) r ≡ with_front front (r >>= λ ys. Ok (y ∷ ys))
unfolding with_front
more front y (Ok ys) = ap ok (append_assoc front (y ∷ []) ys)
more front y (Err fault) = refl

-- ---- the same, where something is left behind what was read

unfoldable pub onto : {Y Z F : Type 0} → List Y → Result (List Y × Z) F → Result (List Y × Z) F
onto front (Ok found) = Ok (front ++ found.0, found.1)
onto front (Err fault) = Err fault

pub onto_nothing : {Y Z F : Type 0} (r : Result (List Y × Z) F) → onto [] r ≡ r
unfolding onto
onto_nothing (Ok found) = refl
onto_nothing (Err fault) = refl

abbrev left_behind : {Y Z F : Type 0} → List Y → Z → Result (List Y × Z) F
left_behind ys rest = Ok (ys, rest)

pub onto_more : {Y Z F : Type 0} (front : List Y) (y : Y) (r : Result (List Y × Z) F) → onto (front ++ y ∷ []) r ≡ onto front (r >>= λ found. Ok (y ∷ found.0, found.1))
unfolding onto
onto_more {Y} front y (Ok found) = ap (λ (ys : List Y). left_behind ys found.1) (append_assoc front (y ∷ []) found.0)
onto_more front y (Err fault) = refl

pub onto_one : {Y Z F : Type 0} (y : Y) (r : Result (List Y × Z) F) → onto (y ∷ []) r ≡ (r >>= λ found. Ok (y ∷ found.0, found.1))
unfolding onto
onto_one y (Ok found) = refl
onto_one y (Err fault) = refl

-- ---- where the list is cut in front

first : {X Y F : Type 0} (f : X → Result Y F) (all : List X) (x : X) (xs : List X) → all ≡ x ∷ xs → each f all ≡ (f x >>= λ y. each f xs >>= λ ys. Ok (y ∷ ys))
unfolding each
first f all x xs cut = ap (each f) cut

pub on_cons : {X Y F : Type 0} (f : X → Result Y F) (all : List X) (x : X) (xs : List X) (front : List Y) (y : Y) (total : Result (List Y) F) → all ≡ x ∷ xs → f x ≡ Ok y
    → with_front front (each f all) ≡ total → with_front (front ++ y ∷ []) (each f xs) ≡ total
on_cons {X} {Y} {F} f all x xs front y total cut is so_far =
    more front y (each f xs) ∙ sym (ap (with_front front) (first f all x xs cut ∙ ap (λ (r : Result Y F). r >>= λ y. each f xs >>= λ ys. Ok (y ∷ ys)) is)) ∙ so_far

pub ends_cons : {X Y F : Type 0} (f : X → Result Y F) (all : List X) (x : X) (xs : List X) (e : Option F) (front : List Y) (total : Result (List Y) F) → all ≡ x ∷ xs → Fails e (f x)
    → with_front front (each f all) ≡ total → Fails e total
unfolding with_front
ends_cons {X} {Y} {F} f all x xs e front total cut h so_far =
    passed_on e (f x) total (λ fault is. sym so_far ∙ ap (with_front front) (first f all x xs cut ∙ ap (λ (r : Result Y F). r >>= λ y. each f xs >>= λ ys. Ok (y ∷ ys)) is)) h

pub done_nil : {X Y F : Type 0} (f : X → Result Y F) (all : List X) (front : List Y) (total : Result (List Y) F) → all ≡ [] → with_front front (each f all) ≡ total → total ≡ Ok front
unfolding each with_front
done_nil {X} f all front total nil so_far = sym so_far ∙ ap (λ (zs : List X). with_front front (each f zs)) nil ∙ ap ok (append-nil front)

-- ---- where an index goes through it

module _ {A X Y F : Type 0} (f : X → Result Y F) (g : A → X) (xs : List A) (i : ℕ) where
  module _ (d : A) where
    cut : i < length xs → map g (drop i xs) ≡ g (get_or xs i d) ∷ map g (drop (i + 1) xs)
    cut lt = ap (map g) (drop_more xs i d lt)

    pub goes_on : (front : List Y) (y : Y) (total : Result (List Y) F) → i < length xs → f (g (get_or xs i d)) ≡ Ok y
        → with_front front (each f (map g (drop i xs))) ≡ total → with_front (front ++ y ∷ []) (each f (map g (drop (i + 1) xs))) ≡ total
    goes_on front y total lt = on_cons f (map g (drop i xs)) (g (get_or xs i d)) (map g (drop (i + 1) xs)) front y total (cut lt)

    pub ends : (e : Option F) (front : List Y) (total : Result (List Y) F) → i < length xs → Fails e (f (g (get_or xs i d)))
        → with_front front (each f (map g (drop i xs))) ≡ total → Fails e total
    ends e front total lt = ends_cons f (map g (drop i xs)) (g (get_or xs i d)) (map g (drop (i + 1) xs)) e front total (cut lt)

  pub is_done : (front : List Y) (total : Result (List Y) F) → length xs ≤ i → with_front front (each f (map g (drop i xs))) ≡ total → total ≡ Ok front
  is_done front total le = done_nil f (map g (drop i xs)) front total (ap (map g) (drop_all i xs le))

-- ---- where what was read is seen by a view

pub map_put : {A B : Type 0} (f : A → B) (xs : List A) (x : A) (ys : List A) → ys ≡ xs ++ x ∷ [] → map f ys ≡ map f xs ++ f x ∷ []
map_put f xs x ys e = ap (map f) e ∙ map-append f xs (x ∷ [])

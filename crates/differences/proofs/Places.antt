-- The values that go and come, found value by value.
use Rattle.std.proofs.Common.{◌≡◌, ℕ, suc, ◌+◌, ◌-◌, ◌<◌, ◌≤◌, Bool, true, false, cond, List, [], ◌∷◌, ◌++◌, length, take, drop, get_or, Option, Some, None, refl, sym, ap, subst, ◌∙◌, append_assoc, arith}
use Rattle.std.specs.Prelude.{◌||◌}
use Rattle.std.specs.List.{list_any}
use Rattle.std.specs.Str.{bytes_eq}
use Rattle.std.specs.Borrow.{Bor}
use Rattle.std.proofs.lemmas.Cmp.{nat_list_eq_equiv}
use Rattle.std.proofs.lemmas.List.{map-append, length-map, length-drop, drop_more, drop-map, drop-drop, drop_all, take_all}
use Rattle.differences.specs.EntryChanges.{Values, and_goes, values_between}
use Rattle.differences.specs.inner.Cuts.{one_later, place_in, moved_by, stretch, texts, pair_of, behind}

pub texts_more : (vs : List (Bor (List ℕ))) (i : ℕ) (d : Bor (List ℕ)) → i < length vs → drop i (texts vs) ≡ (get_or vs i d).now ∷ drop (i + 1) (texts vs)
texts_more vs i d lt =
    drop-map (λ (v : Bor (List ℕ)). v.now) i vs
    ∙ ap texts (drop_more vs i d lt)
    ∙ ap (λ (xs : Values). (get_or vs i d).now ∷ xs) (sym (drop-map (λ (v : Bor (List ℕ)). v.now) (i + 1) vs))

-- ---- the place of a value

abbrev found : ℕ → Option ℕ
found n = Some n

later : (i : ℕ) (o : Option ℕ) → moved_by i (one_later o) ≡ moved_by (i + 1) o
later i None = refl
later i (Some n) = ap found (omega arith)

module _ (vs : List (Bor (List ℕ))) (w : List ℕ) (from i : ℕ) (d : Bor (List ℕ)) (lt : i < length vs) (so_far : moved_by from (place_in w (drop from (texts vs))) ≡ moved_by i (place_in w (drop i (texts vs)))) where
  here : (b : Bool) → bytes_eq (get_or vs i d).now w ≡ b → moved_by i (place_in w (drop i (texts vs))) ≡ moved_by i (cond b (Some 0) (one_later (place_in w (drop (i + 1) (texts vs)))))
  here b is = ap (λ (xs : Values). moved_by i (place_in w xs)) (texts_more vs i d lt) ∙ ap (λ c. moved_by i (cond c (Some 0) (one_later (place_in w (drop (i + 1) (texts vs)))))) is

  pub is_here : bytes_eq (get_or vs i d).now w ≡ true → Some i ≡ moved_by from (place_in w (drop from (texts vs)))
  is_here same = let n : i ≡ i + 0 = omega arith in ap found n ∙ sym (here true same) ∙ sym so_far

  pub is_later : bytes_eq (get_or vs i d).now w ≡ false → moved_by from (place_in w (drop from (texts vs))) ≡ moved_by (i + 1) (place_in w (drop (i + 1) (texts vs)))
  is_later other = so_far ∙ here false other ∙ later i (place_in w (drop (i + 1) (texts vs)))

-- ---- a stretch

stretch_more : (vs : List (Bor (List ℕ))) (i to : ℕ) (d : Bor (List ℕ)) → i < to → to ≤ length vs → stretch i to (texts vs) ≡ (get_or vs i d).now ∷ stretch (i + 1) to (texts vs)
stretch_more vs i to d lt le =
    let n : to - i ≡ suc (to - (i + 1)) = omega arith in
    ap (λ (xs : Values). take (to - i) xs) (texts_more vs i d (omega arith)) ∙ ap (λ k. take k ((get_or vs i d).now ∷ drop (i + 1) (texts vs))) n

pub pushed : (items after : List (Bor (List ℕ))) (vs : List (Bor (List ℕ))) (i to : ℕ) (d : Bor (List ℕ)) (total : Values) → i < to → to ≤ length vs → after ≡ items ++ get_or vs i d ∷ []
    → texts items ++ stretch i to (texts vs) ≡ total → texts after ++ stretch (i + 1) to (texts vs) ≡ total
pushed items after vs i to d total lt le is so_far =
    ap (λ (xs : List (Bor (List ℕ))). texts xs ++ stretch (i + 1) to (texts vs)) is
    ∙ ap (λ (xs : Values). xs ++ stretch (i + 1) to (texts vs)) (map-append (λ (v : Bor (List ℕ)). v.now) items (get_or vs i d ∷ []))
    ∙ append_assoc (texts items) ((get_or vs i d).now ∷ []) (stretch (i + 1) to (texts vs))
    ∙ ap (λ (xs : Values). texts items ++ xs) (sym (stretch_more vs i to d lt le))
    ∙ so_far

-- ---- the first list cut at the next value of the second

any_same : (w v : List ℕ) (b : Bool) → bytes_eq v w ≡ b → bytes_eq w v ≡ b
any_same w v b is = nat_list_eq_equiv.symm w v ∙ is

none_any : (w : List ℕ) (vs : Values) → place_in w vs ≡ None → list_any (bytes_eq w) vs ≡ false
none_any w [] h = refl
none_any w (v ∷ vs) h = by (bytes_eq v w) refl (place_in w vs) (none_any w vs) h
  where
    by : (b : Bool) → bytes_eq v w ≡ b → (o : Option ℕ) → (o ≡ None → list_any (bytes_eq w) vs ≡ false) → cond b (Some 0) (one_later o) ≡ None → list_any (bytes_eq w) (v ∷ vs) ≡ false
    by true same o rest said = absurd cc
    by false same None rest said = ap (λ b. b || list_any (bytes_eq w) vs) (any_same w v false same) ∙ rest refl
    by false same (Some n) rest said = absurd cc

some_any : (w : List ℕ) (vs : Values) (n : ℕ) → place_in w vs ≡ Some n → list_any (bytes_eq w) vs ≡ true
some_any w [] n h = absurd cc
some_any w (v ∷ vs) n h = by (bytes_eq v w) refl (place_in w vs) (some_any w vs) h
  where
    by : (b : Bool) → bytes_eq v w ≡ b → (o : Option ℕ) → ((k : ℕ) → o ≡ Some k → list_any (bytes_eq w) vs ≡ true) → cond b (Some 0) (one_later o) ≡ Some n → list_any (bytes_eq w) (v ∷ vs) ≡ true
    by true same o rest said = ap (λ b. b || list_any (bytes_eq w) vs) (any_same w v true same)
    by false same None rest said = absurd cc
    by false same (Some k) rest said = ap (λ b. b || list_any (bytes_eq w) vs) (any_same w v false same) ∙ rest k refl

pub at_none : (vs : Values) (w : List ℕ) (ws : Values) → place_in w vs ≡ None → values_between vs (w ∷ ws) ≡ pair_of vs (w ∷ ws)
unfolding values_between
at_none [] w ws h = refl
at_none (v ∷ vs) w ws h = by (bytes_eq v w) (place_in w vs) (none_any w vs) h
  where
    by : (b : Bool) (o : Option ℕ) → (o ≡ None → list_any (bytes_eq w) vs ≡ false) → cond b (Some 0) (one_later o) ≡ None
        → cond b (values_between vs ws) (cond (list_any (bytes_eq w) vs) (and_goes v (values_between vs (w ∷ ws))) (pair_of (v ∷ vs) (w ∷ ws))) ≡ pair_of (v ∷ vs) (w ∷ ws)
    by true o rest said = absurd cc
    by false None rest said = ap (λ b. cond b (and_goes v (values_between vs (w ∷ ws))) (pair_of (v ∷ vs) (w ∷ ws))) (rest refl)
    by false (Some n) rest said = absurd cc

pub at_some : (vs : Values) (w : List ℕ) (ws : Values) (n : ℕ) → place_in w vs ≡ Some n → values_between vs (w ∷ ws) ≡ behind (take n vs) (values_between (drop (n + 1) vs) ws)
unfolding values_between
at_some [] w ws n h = absurd cc
at_some (v ∷ vs) w ws n h = by (bytes_eq v w) (place_in w vs) (some_any w vs) (at_some vs w ws) n h
  where
    by : (b : Bool) (o : Option ℕ) → ((k : ℕ) → o ≡ Some k → list_any (bytes_eq w) vs ≡ true) → ((k : ℕ) → o ≡ Some k → values_between vs (w ∷ ws) ≡ behind (take k vs) (values_between (drop (k + 1) vs) ws))
        → (n : ℕ) → cond b (Some 0) (one_later o) ≡ Some n
        → cond b (values_between vs ws) (cond (list_any (bytes_eq w) vs) (and_goes v (values_between vs (w ∷ ws))) (pair_of (v ∷ vs) (w ∷ ws))) ≡ behind (take n (v ∷ vs)) (values_between (drop (n + 1) (v ∷ vs)) ws)
    by true o any rest n said =
        let zero_is : 0 ≡ n = cc in
        subst (λ k. values_between vs ws ≡ behind (take k (v ∷ vs)) (values_between (drop (k + 1) (v ∷ vs)) ws)) zero_is refl
    by false None any rest n said = absurd cc
    by false (Some k) any rest n said =
        let next : k + 1 ≡ n = cc in
        let up : k + 1 ≡ suc k = omega arith in
        let over : n + 1 ≡ suc (k + 1) = omega (arith, next) in
        ap (λ b. cond b (and_goes v (values_between vs (w ∷ ws))) (pair_of (v ∷ vs) (w ∷ ws))) (any k refl)
        ∙ ap (and_goes v) (rest k refl)
        ∙ (λ i. behind (take ((sym up ∙ next) i) (v ∷ vs)) (values_between (drop (k + 1) vs) ws))
        ∙ ap (λ m. behind (take n (v ∷ vs)) (values_between (drop m (v ∷ vs)) ws)) (sym over)

pub at_end : (vs : Values) → values_between vs [] ≡ pair_of vs []
unfolding values_between
at_end [] = refl
at_end (v ∷ vs) = refl

-- ---- a walk through the second list

not_moved : (k : ℕ) (o : Option ℕ) → None ≡ moved_by k o → o ≡ None
not_moved k None h = refl
not_moved k (Some n) h = absurd cc

moved_to : (k place : ℕ) (o : Option ℕ) → Some place ≡ moved_by k o → (n : ℕ) × (o ≡ Some n) × (place ≡ k + n)
moved_to k place None h = absurd cc
moved_to k place (Some n) h = (n, refl, cc)

all_left : (vs : List (Bor (List ℕ))) (at : ℕ) → at ≤ length vs → stretch at (length vs) (texts vs) ≡ drop at (texts vs)
all_left vs at le = take_all (length vs - at) (drop at (texts vs)) (omega (arith, length-drop at (texts vs), length-map vs (λ (v : Bor (List ℕ)). v.now)))

module _ (before after : List (Bor (List ℕ))) (gone : List (Bor (List ℕ))) (at k : ℕ) (within : at ≤ length before) (whole : Values × Values)
    (so_far : behind (texts gone) (values_between (drop at (texts before)) (drop k (texts after))) ≡ whole) where
  pub none_left : (d : Bor (List ℕ)) (out : List (Bor (List ℕ))) → k < length after → None ≡ moved_by at (place_in (get_or after k d).now (drop at (texts before)))
      → texts out ≡ texts gone ++ stretch at (length before) (texts before) → pair_of (texts out) (drop k (texts after)) ≡ whole
  none_left d out lt none is =
      let next = texts_more after k d lt in
      (λ i. pair_of ((is ∙ ap (λ (xs : Values). texts gone ++ xs) (all_left before at within)) i) (next i))
      ∙ ap (behind (texts gone)) (sym (at_none (drop at (texts before)) (get_or after k d).now (drop (k + 1) (texts after)) (not_moved at (place_in (get_or after k d).now (drop at (texts before))) none)))
      ∙ ap (λ (xs : Values). behind (texts gone) (values_between (drop at (texts before)) xs)) (sym next)
      ∙ so_far

  pub some_left : (d : Bor (List ℕ)) (out : List (Bor (List ℕ))) (place : ℕ) → k < length after → Some place ≡ moved_by at (place_in (get_or after k d).now (drop at (texts before)))
      → texts out ≡ texts gone ++ stretch at place (texts before) → behind (texts out) (values_between (drop (place + 1) (texts before)) (drop (k + 1) (texts after))) ≡ whole
  some_left d out place lt some is =
      let next = texts_more after k d lt in
      let m = moved_to at place (place_in (get_or after k d).now (drop at (texts before))) some in
      let n : ℕ = m.0 in
      let far : place - at ≡ n = omega (arith, m.2) in
      let over : at + (n + 1) ≡ place + 1 = omega (arith, m.2) in
      let rest : Values × Values = values_between (drop (n + 1) (drop at (texts before))) (drop (k + 1) (texts after)) in
      (λ i. behind ((is ∙ ap (λ j. texts gone ++ take j (drop at (texts before))) far) i) (values_between ((ap (λ j. drop j (texts before)) (sym over) ∙ twice at (n + 1) (texts before)) i) (drop (k + 1) (texts after))))
      ∙ ap (λ (xs : Values). pair_of xs rest.1) (append_assoc (texts gone) (take n (drop at (texts before))) rest.0)
      ∙ ap (behind (texts gone)) (sym (at_some (drop at (texts before)) (get_or after k d).now (drop (k + 1) (texts after)) n m.1))
      ∙ ap (λ (xs : Values). behind (texts gone) (values_between (drop at (texts before)) xs)) (sym next)
      ∙ so_far
    where
      twice : (a b : ℕ) (xs : Values) → drop (a + b) xs ≡ drop b (drop a xs)
      twice a b xs = sym (drop-drop b a xs)

  pub all_done : (out : List (Bor (List ℕ))) → length after ≤ k → texts out ≡ texts gone ++ stretch at (length before) (texts before) → pair_of (texts out) (drop (length after) (texts after)) ≡ whole
  all_done out le is =
      let n = length-map after (λ (v : Bor (List ℕ)). v.now) in
      let none : drop (length after) (texts after) ≡ [] = drop_all (length after) (texts after) (omega (arith, n)) in
      let spent : drop k (texts after) ≡ [] = drop_all k (texts after) (omega (arith, n, le)) in
      (λ i. pair_of ((is ∙ ap (λ (xs : Values). texts gone ++ xs) (all_left before at within)) i) (none i))
      ∙ ap (λ (xs : Values). pair_of xs []) refl
      ∙ ap (behind (texts gone)) (sym (at_end (drop at (texts before))))
      ∙ ap (λ (xs : Values). behind (texts gone) (values_between (drop at (texts before)) xs)) (sym spent)
      ∙ so_far

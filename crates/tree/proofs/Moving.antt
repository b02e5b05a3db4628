-- Numbers that are put in where an entry moves to, and taken out where it stood.
use Rattle.std.proofs.Common.{◌≡◌, ℕ, Bool, true, false, cond, List, [], ◌∷◌, ◌++◌, append-nil, append_assoc, refl, sym, ◌∙◌, ap, subst, Option, Some, None, ◌⊎◌, inl, inr}
use Rattle.std.specs.Prelude.{is_some, filter, take_while}
use Rattle.std.specs.declared.ops.Bound.TheVariants.{Included, Unbounded}
use Rattle.std.specs.Ordering.{eq_by_cmp, is_le}
use Rattle.std.specs.List.{AllByRecursion}
use Rattle.std.specs.BTreeMap.Range.{entries_between, range_contains}
use Rattle.std.specs.FinMap as finite
use Rattle.std.specs.FinMap.Entries.{find}
use Rattle.std.proofs.lemmas.List.Sums.{take_while-cons}
use Rattle.paths.specs.Paths.{Path, path_cmp, begins}
use Rattle.tree.specs.Changes.{moved_path, moved_entries, moved}
use Rattle.tree.specs.Trees.{Numbers}
use Rattle.tree.specs.inner.Moves.{is_among, put_all, without_all}
use Rattle.tree.specs.inner.Trees.{numbers_of}
use Rattle.tree.proofs.Kept.{equal}
use Rattle.tree.proofs.Ancestors.{some_at}
use Rattle.tree.proofs.Leaves.{begins_more}
use Rattle.tree.proofs.Order.{rdn_key_total, path_total, path_exact}
use Rattle.tree.proofs.Stretch.{stretch}
use Rattle.tree.proofs.TreeLemmas.{key_filter, and_true}
use Rattle.tree.proofs.Views.{all_found}
use Rattle.tree.proofs.Numbered.{IsRising, inserted, same_key}
use Rattle.tree.proofs.Moved.{off_key, kept_there, bool_cases, same_option, found_from, place_found, came_from, leads_to, lands, stays}

-- ---- what is put in, and what is taken out

-- what is found was put in, or was there
put_from : (P : Path → ℕ → Type 0) (q : Path) (k : ℕ) (m : Numbers) (es : List (Path × ℕ)) → AllByRecursion (λ e. P e.0 e.1) es → finite.get (put_all m es) q ≡ Some k → P q k ⊎ (finite.get m q ≡ Some k)
put_from P q k m [] all is = inr is
put_from P q k m (e ∷ es) all is = elim (put_from P q k (finite.insert m e.0 e.1) es all.1 is) [
  | inl p ↦ inl p
  | inr at ↦ elim (inserted m e.0 e.1 q k at) [
    | inl a ↦ inl (subst (P q) a.1 (subst (λ (y : Path). P y e.1) (sym a.0) all.0))
    | inr b ↦ inr b.1
  ]
]

put_stays : (q : Path) (m : Numbers) (es : List (Path × ℕ)) → finite.contains_key m q ≡ true → finite.contains_key (put_all m es) q ≡ true
put_stays q m [] there = there
put_stays q m (e ∷ es) there = put_stays q (finite.insert m e.0 e.1) es (kept_there m e.0 e.1 q there)

put_there : (q : Path) (m : Numbers) (es : List (Path × ℕ)) → is_among q es ≡ true → finite.contains_key (put_all m es) q ≡ true
put_there q m [] among = cc
put_there q m (e ∷ es) among = by (eq_by_cmp path_cmp q e.0) refl among (put_there q (finite.insert m e.0 e.1) es)
  where
    at_own : eq_by_cmp path_cmp q e.0 ≡ true → finite.contains_key (finite.insert m e.0 e.1) q ≡ true
    at_own tie = ap is_some (finite.get-insert path_total m e.0 e.1 q) ∙ ap (λ b. is_some (cond b (Some e.1) (finite.get m q))) tie

    by : (b : Bool) → eq_by_cmp path_cmp q e.0 ≡ b → is_some (cond b (Some e.1) (find path_cmp q es)) ≡ true → (is_among q es ≡ true → finite.contains_key (put_all (finite.insert m e.0 e.1) es) q ≡ true)
        → finite.contains_key (put_all (finite.insert m e.0 e.1) es) q ≡ true
    by true tie said rest = put_stays q (finite.insert m e.0 e.1) es (at_own tie)
    by false tie said rest = rest said

get_without : (q : Path) (m : Numbers) (es : List (Path × ℕ)) → finite.get (without_all m es) q ≡ cond (is_among q es) None (finite.get m q)
get_without q m [] = refl
get_without q m (e ∷ es) =
    get_without q (finite.remove m e.0) es
    ∙ ap (cond (is_among q es) None) (finite.get-remove path_total m e.0 q)
    ∙ by (eq_by_cmp path_cmp q e.0) (find path_cmp q es)
  where
    by : (b : Bool) (o : Option ℕ) → cond (is_some o) None (cond b None (finite.get m q)) ≡ cond (is_some (cond b (Some e.1) o)) None (finite.get m q)
    by true None = refl
    by true (Some n) = refl
    by false o = refl

-- ---- the entries at and below a path

none_either : (b : Bool) → ◌≡◌ {A = Option ℕ} None (cond b None None)
none_either true = refl
none_either false = refl

find_filter : (f : Path) (q : Path) (es : List (Path × ℕ)) → find path_cmp q (filter (λ e. begins f e.0) es) ≡ cond (begins f q) (find path_cmp q es) None
find_filter f q [] = none_either (begins f q)
find_filter f q (e ∷ es) = by (begins f e.0) (eq_by_cmp path_cmp q e.0) refl refl (find_filter f q es)
  where
    by : (a t : Bool) → begins f e.0 ≡ a → eq_by_cmp path_cmp q e.0 ≡ t → find path_cmp q (filter (λ x. begins f x.0) es) ≡ cond (begins f q) (find path_cmp q es) None
        → find path_cmp q (cond a (e ∷ filter (λ x. begins f x.0) es) (filter (λ x. begins f x.0) es)) ≡ cond (begins f q) (cond t (Some e.1) (find path_cmp q es)) None
    by true true ea et ih =
        let same : q ≡ e.0 = path_exact q e.0 (equal (path_cmp q e.0) et) in
        ap (λ t. cond t (Some e.1) (find path_cmp q (filter (λ x. begins f x.0) es))) et
        ∙ ap (λ b. cond b (Some e.1) None) (sym (ap (begins f) same ∙ ea))
    by true false ea et ih = ap (λ t. cond t (Some e.1) (find path_cmp q (filter (λ x. begins f x.0) es))) et ∙ ih
    by false true ea et ih =
        let same : q ≡ e.0 = path_exact q e.0 (equal (path_cmp q e.0) et) in
        let off : begins f q ≡ false = ap (begins f) same ∙ ea in
        ih ∙ ap (λ b. cond b (find path_cmp q es) None) off ∙ ap (λ b. cond b (Some e.1) None) (sym off)
    by false false ea et ih = ih

both_filter : (P : Path × ℕ → Type 0) (p : Path × ℕ → Bool) (es : List (Path × ℕ)) → AllByRecursion P es → AllByRecursion (λ e. P e × (p e ≡ true)) (filter p es)
both_filter P p [] all = tt
both_filter P p (e ∷ es) all = by (p e) refl (both_filter P p es all.1)
  where
    by : (b : Bool) → p e ≡ b → AllByRecursion (λ x. P x × (p x ≡ true)) (filter p es) → AllByRecursion (λ x. P x × (p x ≡ true)) (cond b (e ∷ filter p es) (filter p es))
    by true is rest = ((all.0, is), rest)
    by false is rest = rest

-- ---- a move

module _ (from to : Path) (m : Numbers) (spare : (q : Path) (n : ℕ) → finite.get m q ≡ Some n → begins to q ≡ false) where
  abbrev along : List (Path × ℕ)
  along = filter (λ e. begins from e.0) (finite.entries m)

  abbrev led : List (Path × ℕ)
  led = moved_entries from to along

  among : (q : Path) → is_among q along ≡ is_some (cond (begins from q) (finite.get m q) None)
  among q = ap is_some (find_filter from q (finite.entries m) ∙ ap (λ o. cond (begins from q) o None) (sym (finite.get-entries m q)))

  -- what comes in at a path stood at one that leads there
  abbrev Came : Path → ℕ → Type 0
  Came q k = (p : Path) × (finite.get m p ≡ Some k) × (begins from p ≡ true) × (moved_path from to p ≡ q)

  each_along : AllByRecursion (λ e. (finite.get m e.0 ≡ Some e.1) × (begins from e.0 ≡ true)) along
  each_along =
      both_filter (λ e. finite.get m e.0 ≡ Some e.1) (λ e. begins from e.0) (finite.entries m)
      (all_found path_cmp path_total (λ p n. finite.get m p ≡ Some n) (finite.entries m) (finite.entries_sorted m) (λ p n at. finite.get-entries m p ∙ at))

  each_led : (es : List (Path × ℕ)) → AllByRecursion (λ e. (finite.get m e.0 ≡ Some e.1) × (begins from e.0 ≡ true)) es → AllByRecursion (λ e. Came e.0 e.1) (moved_entries from to es)
  each_led [] all = tt
  each_led (e ∷ es) all = ((e.0, all.0.0, all.0.1, refl), each_led es all.1)

  none_at : (q : Path) → begins to q ≡ true → finite.get m q ≡ None
  none_at q at = by (finite.get m q) refl
    where
      by : (o : Option ℕ) → finite.get m q ≡ o → o ≡ None
      by None is = refl
      by (Some n) is = absurd (let bad : true ≡ false = sym at ∙ spare q n is in cc)

  -- what comes in lies at or below the new path
  led_below : (q : Path) (k : ℕ) → Came q k → begins to q ≡ true
  led_below q k c = elim (lands from to c.0) [
    | inl a ↦ ap (begins to) (sym c.3 ∙ a.2) ∙ begins_more to a.0
    | inr b ↦ absurd (let bad : true ≡ false = sym c.2 ∙ b.0 in cc)
  ]

  abbrev outcome : Numbers
  outcome = without_all (put_all m led) along

  moved_found : (q : Path) (x : ℕ) → finite.get outcome q ≡ Some x → finite.get (moved from to m) q ≡ Some x
  moved_found q x is = by (is_among q along) refl (sym (get_without q (put_all m led) along) ∙ is)
    where
      stayed : is_among q along ≡ false → finite.get m q ≡ Some x → finite.get (moved from to m) q ≡ Some x
      stayed off at = elim (bool_cases (begins from q)) [
        | inl h ↦ absurd (let bad : true ≡ false = sym (ap (λ b. is_some (cond b (finite.get m q) None)) h ∙ ap is_some at) ∙ sym (among q) ∙ off in cc)
        | inr h ↦ ap (λ (y : Path). finite.get (moved from to m) y) (sym (stays from to q h)) ∙ leads_to from to m spare q x at
      ]

      by : (b : Bool) → is_among q along ≡ b → cond b None (finite.get (put_all m led) q) ≡ Some x → finite.get (moved from to m) q ≡ Some x
      by true off said = absurd (let bad : None ≡ Some x = said in cc)
      by false off said = elim (put_from Came q x m led (each_led along each_along) said) [
        | inl c ↦ ap (λ (y : Path). finite.get (moved from to m) y) (sym c.3) ∙ leads_to from to m spare c.0 x c.1
        | inr at ↦ stayed off at
      ]

  found_moved : (q : Path) (x : ℕ) → finite.get (moved from to m) q ≡ Some x → finite.get outcome q ≡ Some x
  found_moved q x is = arrived (came_from from to m q x is)
    where
      -- where something is, it is this one
      this_one : (finite.get m q ≡ None) ⊎ (finite.get m q ≡ Some x) → is_among q along ≡ false → finite.contains_key (put_all m led) q ≡ true → finite.get outcome q ≡ Some x
      this_one old off there =
          let o = some_at (finite.get (put_all m led) q) there in
          get_without q (put_all m led) along ∙ ap (λ b. cond b None (finite.get (put_all m led) q)) off ∙ o.1
          ∙ elim (put_from Came q o.0 m led (each_led along each_along) o.1) [
            | inl c ↦ sym c.1 ∙ known c.0 o.0 c.1 c.3
            | inr at ↦ elim old [
              | inl none ↦ absurd (let bad : Some o.0 ≡ None = sym at ∙ none in cc)
              | inr own ↦ sym at ∙ own
            ]
          ]
        where
          known : (p : Path) (y : ℕ) → finite.get m p ≡ Some y → moved_path from to p ≡ q → finite.get m p ≡ Some x
          known p y at leads = at ∙ sym (leads_to from to m spare p y at) ∙ ap (λ (z : Path). finite.get (moved from to m) z) leads ∙ is

      arrived : ((p : Path) × (finite.get m p ≡ Some x) × (moved_path from to p ≡ q)) → finite.get outcome q ≡ Some x
      arrived c = elim (lands from to c.0) [
        | inl a ↦ (
            let at : begins to q ≡ true = ap (begins to) (sym c.2 ∙ a.2) ∙ begins_more to a.0 in
            let none : finite.get m q ≡ None = none_at q at in
            let there : is_among c.0 along ≡ true = among c.0 ∙ ap (λ b. is_some (cond b (finite.get m c.0) None)) (ap (begins from) a.1 ∙ begins_more from a.0) ∙ ap is_some c.1 in
            this_one (inl none)
            (among q ∙ ap (λ o. is_some (cond (begins from q) o None)) none ∙ ap is_some (sym (none_either (begins from q))))
            (put_there q m led (ap (λ (y : Path). is_among y led) (sym c.2) ∙ place_found from to c.0 along there)))
        | inr b ↦ (
            let same : c.0 ≡ q = sym b.1 ∙ c.2 in
            let own : finite.get m q ≡ Some x = ap (λ (y : Path). finite.get m y) (sym same) ∙ c.1 in
            this_one (inr own)
            (among q ∙ ap (λ b. is_some (cond b (finite.get m q) None)) (ap (begins from) (sym same) ∙ b.0))
            (put_stays q m led (ap is_some own)))
      ]

  -- those that go along are put in where they lead, and taken out where they stood
  pub moves : outcome ≡ moved from to m
  moves = finite.same_map path_total path_exact _ _ (λ q. same_option _ _ (moved_found q) (found_moved q))

  -- what was put in is taken out again
  pub undone : (n : Numbers) → ((q : Path) → is_among q led ≡ false → finite.get n q ≡ finite.get m q) → without_all n led ≡ m
  undone n others = finite.same_map path_total path_exact _ _ (λ q. get_without q n led ∙ by q (is_among q led) refl)
    where
      by : (q : Path) (b : Bool) → is_among q led ≡ b → cond b None (finite.get n q) ≡ finite.get m q
      by q true among =
          let o = some_at (find path_cmp q led) among in
          let c = found_from from to (λ p x. (finite.get m p ≡ Some x) × (begins from p ≡ true)) q o.0 along each_along o.1 in
          sym (none_at q (led_below q o.0 (c.0, c.1.0, c.1.1, c.2)))
      by q false off = others q off

-- two lists in order that are one map are one list
pub same_numbers : (xs ys : List (Path × ℕ)) → IsRising xs → IsRising ys → numbers_of xs ≡ numbers_of ys → xs ≡ ys
same_numbers xs ys hx hy same = sym (finite.entries-from_sorted path_cmp xs hx) ∙ ap finite.entries same ∙ finite.entries-from_sorted path_cmp ys hy

-- ---- one more

pub put_goes_on : (m m' : Numbers) (e : Path × ℕ) (rest rest' : List (Path × ℕ)) (total : Numbers) → rest ≡ e ∷ rest' → m' ≡ finite.insert m e.0 e.1 → put_all m rest ≡ total → put_all m' rest' ≡ total
put_goes_on m m' e rest rest' total cut is so_far = ap (λ (x : Numbers). put_all x rest') is ∙ sym (ap (put_all m) cut) ∙ so_far

pub others_go_on : (m m' : Numbers) (e : Path × ℕ) (rest rest' : List (Path × ℕ)) (q : Path) → rest ≡ e ∷ rest' → m' ≡ finite.insert m e.0 e.1 → is_among q rest ≡ false → (is_among q rest' ≡ false) × (finite.get m' q ≡ finite.get m q)
others_go_on m m' e rest rest' q cut is off = by (eq_by_cmp path_cmp q e.0) refl (ap (is_among q) (sym cut) ∙ off)
  where
    by : (b : Bool) → eq_by_cmp path_cmp q e.0 ≡ b → is_some (cond b (Some e.1) (find path_cmp q rest')) ≡ false → (is_among q rest' ≡ false) × (finite.get m' q ≡ finite.get m q)
    by true tie said = absurd (let bad : true ≡ false = said in cc)
    by false tie said = (said, ap (λ (x : Numbers). finite.get x q) is ∙ off_key m e.0 e.1 q (same_key e.0 q false tie refl))

pub without_goes_on : (m m' : Numbers) (e : Path × ℕ) (rest rest' : List (Path × ℕ)) (total : Numbers) → rest ≡ e ∷ rest' → m' ≡ finite.remove m e.0 → without_all m rest ≡ total → without_all m' rest' ≡ total
without_goes_on m m' e rest rest' total cut is so_far = ap (λ (x : Numbers). without_all x rest') is ∙ sym (ap (without_all m) cut) ∙ so_far

pub led_goes_on : (from to : Path) (front front' : List (Path × ℕ)) (e : Path × ℕ) (rest rest' total : List (Path × ℕ)) → rest ≡ e ∷ rest' → front' ≡ front ++ (moved_path from to e.0, e.1) ∷ [] → front ++ moved_entries from to rest ≡ total → front' ++ moved_entries from to rest' ≡ total
led_goes_on from to front front' e rest rest' total cut is so_far =
    ap (λ xs. xs ++ moved_entries from to rest') is
    ∙ append_assoc front ((moved_path from to e.0, e.1) ∷ []) (moved_entries from to rest')
    ∙ sym (ap (λ xs. front ++ moved_entries from to xs) cut)
    ∙ so_far

-- those that a path begins stand first among those from it on
pub first_below : (base : Path) (es : List (Path × ℕ)) → IsRising es → take_while (λ e. begins base e.0) (entries_between path_cmp (Included base) Unbounded es) ≡ filter (λ e. begins base e.0) es
first_below base es rising =
    ap (take_while (λ e. begins base e.0)) (key_filter (λ k. range_contains path_cmp (Included base) Unbounded k) (λ k. is_le (path_cmp base k)) (λ k. and_true _) es)
    ∙ stretch rdn_key_total base es rising

pub below_goes_on : (base : Path) (front front' : List (Path × ℕ)) (e : Path × ℕ) (rest rest' total : List (Path × ℕ)) → rest ≡ e ∷ rest' → front' ≡ front ++ e ∷ [] → begins base e.0 ≡ true → front ++ take_while (λ x. begins base x.0) rest ≡ total → front' ++ take_while (λ x. begins base x.0) rest' ≡ total
below_goes_on base front front' e rest rest' total cut is here so_far =
    ap (λ xs. xs ++ take_while (λ x. begins base x.0) rest') is
    ∙ append_assoc front (e ∷ []) (take_while (λ x. begins base x.0) rest')
    ∙ ap (λ xs. front ++ xs) (sym (ap (take_while (λ x. begins base x.0)) cut ∙ take_while-cons (λ x. begins base x.0) e rest' ∙ ap (λ b. cond b (e ∷ take_while (λ x. begins base x.0) rest') []) here))
    ∙ so_far

pub below_ends : (base : Path) (front : List (Path × ℕ)) (e : Path × ℕ) (rest rest' total : List (Path × ℕ)) → rest ≡ e ∷ rest' → begins base e.0 ≡ false → front ++ take_while (λ x. begins base x.0) rest ≡ total → front ≡ total
below_ends base front e rest rest' total cut off so_far =
    sym (append-nil front)
    ∙ ap (λ xs. front ++ xs) (sym (ap (take_while (λ x. begins base x.0)) cut ∙ take_while-cons (λ x. begins base x.0) e rest' ∙ ap (λ b. cond b (e ∷ take_while (λ x. begins base x.0) rest') []) off))
    ∙ so_far

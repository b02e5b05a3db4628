-- A path with all below it at another place: a directory stays one.
use Rattle.std.proofs.Common.{◌≡◌, ◌≢◌, ℕ, ◌+◌, ◌≤◌, Bool, true, false, cond, List, [], ◌∷◌, ◌++◌, refl, sym, ◌∙◌, ap, subst, Option, Some, None, append-nil, append_assoc, drop, length, arith, suc, ◌⊎◌, inl, inr}
use Rattle.std.specs.Prelude.{T, is_some, ◌&&◌}
use Rattle.std.specs.Ordering.{eq_by_cmp, is_eq, is_lt}
use Rattle.std.specs.List.{AllByRecursion}
use Rattle.std.specs.FinMap as finite
use Rattle.std.specs.FinMap.Entries.{find, is_sorted, below_all}
use Rattle.std.proofs.lemmas.Cmp.{tied_itself}
use Rattle.std.proofs.lemmas.List.{same_from_push}
use Rattle.std.proofs.lemmas.Bool.{and_parts}
use Rattle.paths.specs.Paths.{RdnKey, Path, path_cmp, rdn_key_cmp, begins, parent_of, is_root}
use Rattle.schema.specs.Rdns.{rdn_key_of}
use Rattle.schema.specs.Conf.{Conf}
use Rattle.entries.specs.Entries.{EntryContent, IsGood}
use Rattle.tree.specs.Directories.{Entries, IsDirectory}
use Rattle.tree.specs.Changes.{MayStand, MayMove, IsMoved, moved_path, moved_entries, moved}
use Rattle.tree.specs.Trees.{Numbers, has_child, IsNumbered}
use Rattle.tree.proofs.Kept.{equal}
use Rattle.tree.proofs.Adding.{parted, parent_is}
use Rattle.tree.proofs.Ancestors.{some_at, closed}
use Rattle.tree.proofs.Leaves.{child_seen, begins_itself, begins_more, put_there}
use Rattle.tree.proofs.Order.{step_exact, path_total, path_exact}
use Rattle.tree.proofs.Views.{all_found, split_and}
use Rattle.tree.proofs.Numbered.{inserted, removed, same_key}

-- ---- beginnings

pub begun_more : (p q : Path) → begins p q ≡ true → q ≡ p ++ drop (length p) q
begun_more [] q h = refl
begun_more (x ∷ p) [] h = absurd cc
begun_more (x ∷ p) (y ∷ q) h = let k = and_parts _ _ h in λ i. sym (step_exact x y (equal (rdn_key_cmp x y) k.0)) i ∷ begun_more p q k.1 i

begun_longer : (p q r : Path) → begins p q ≡ true → begins p (q ++ r) ≡ true
begun_longer [] q r h = refl
begun_longer (x ∷ p) [] r h = absurd cc
begun_longer (x ∷ p) (y ∷ q) r h = let k = and_parts _ _ h in λ i. k.0 i && begun_longer p q r k.1 i

drop_front : (p r : Path) → drop (length p) (p ++ r) ≡ r
drop_front [] r = refl
drop_front (x ∷ p) r = drop_front p r

nil_front : (p r : Path) → p ++ r ≡ [] → is_root p ≡ true
nil_front [] r e = refl
nil_front (x ∷ p) r e = absurd cc

pub bool_cases : (b : Bool) → (b ≡ true) ⊎ (b ≡ false)
bool_cases true = inl refl
bool_cases false = inr refl

-- ---- maps

pub at_key : {X : Type 0} (m : finite.FinMap path_cmp X) (p : Path) (x : X) (q : Path) → q ≡ p → finite.get (finite.insert m p x) q ≡ Some x
at_key m p x q same = ap (λ (y : Path). finite.get (finite.insert m p x) y) same ∙ finite.get-insert path_total m p x p ∙ ap (λ o. cond (is_eq o) (Some x) (finite.get m p)) (tied_itself path_total p)

pub off_key : {X : Type 0} (m : finite.FinMap path_cmp X) (p : Path) (x : X) (q : Path) → q ≢ p → finite.get (finite.insert m p x) q ≡ finite.get m q
off_key m p x q apart = finite.get-insert path_total m p x q ∙ by (eq_by_cmp path_cmp q p) refl
  where
    by : (b : Bool) → eq_by_cmp path_cmp q p ≡ b → cond b (Some x) (finite.get m q) ≡ finite.get m q
    by true tie = absurd (apart (path_exact q p (equal (path_cmp q p) tie)))
    by false tie = refl

pub kept_there : {X : Type 0} (m : finite.FinMap path_cmp X) (p : Path) (x : X) (q : Path) → finite.contains_key m q ≡ true → finite.contains_key (finite.insert m p x) q ≡ true
kept_there m p x q there =
    ap is_some (finite.get-insert path_total m p x q)
    ∙ elim (eq_by_cmp path_cmp q p) as (λ b. is_some (cond b (Some x) (finite.get m q)) ≡ true) [ true ↦ refl | false ↦ there ]

-- a map of a list has no more entries than the list
few_entries : {X : Type 0} (es : List (Path × X)) → finite.len (finite.from_entries {R = path_cmp} es) ≤ length es
few_entries {X} [] = let a = finite.len-empty path_cmp X in omega (arith, a)
few_entries (e ∷ es) =
    by (finite.contains_key (finite.from_entries {R = path_cmp} es) e.0) (finite.len (finite.from_entries {R = path_cmp} es)) (length es) (finite.len (finite.from_entries {R = path_cmp} (e ∷ es)))
    (finite.len-insert path_total (finite.from_entries es) e.0 e.1) (few_entries es)
  where
    by : (b : Bool) (n l w : ℕ) → w ≡ cond b n (n + 1) → n ≤ l → w ≤ suc l
    by true n l w is le = omega (arith, is, le)
    by false n l w is le = omega (arith, is, le)

module _ (from to : Path) where
  -- what is found among entries that moved stood at a path that leads there
  pub found_from : {X : Type 0} (P : Path → X → Type 0) (q : Path) (k : X) (es : List (Path × X)) → AllByRecursion (λ e. P e.0 e.1) es
      → find path_cmp q (moved_entries from to es) ≡ Some k → (p : Path) × P p k × (moved_path from to p ≡ q)
  found_from P q k [] all is = absurd (let bad : None ≡ Some k = is in cc)
  found_from {X} P q k (e ∷ es) all is = by (eq_by_cmp path_cmp q (moved_path from to e.0)) refl is (found_from P q k es all.1)
    where
      by : (b : Bool) → eq_by_cmp path_cmp q (moved_path from to e.0) ≡ b → cond b (Some e.1) (find path_cmp q (moved_entries from to es)) ≡ Some k → (find path_cmp q (moved_entries from to es) ≡ Some k → (p : Path) × P p k × (moved_path from to p ≡ q)) → (p : Path) × P p k × (moved_path from to p ≡ q)
      by true tie said rest =
          let same : e.1 ≡ k = cc in
          (e.0, subst (P e.0) same all.0, sym (path_exact q (moved_path from to e.0) (equal (path_cmp q (moved_path from to e.0)) tie)))
      by false tie said rest = rest said

  -- what stands somewhere afterwards stood at a path that leads there
  pub came_from : {X : Type 0} (m : finite.FinMap path_cmp X) (q : Path) (k : X) → finite.get (moved from to m) q ≡ Some k → (p : Path) × (finite.get m p ≡ Some k) × (moved_path from to p ≡ q)
  came_from m q k is =
      found_from (λ p n. finite.get m p ≡ Some n) q k (finite.entries m)
      (all_found path_cmp path_total (λ p n. finite.get m p ≡ Some n) (finite.entries m) (finite.entries_sorted m) (λ p n at. finite.get-entries m p ∙ at))
      (sym (finite.get-from_entries path_total (moved_entries from to (finite.entries m)) q) ∙ is)

  some_either : {X : Type 0} (b : Bool) (x : X) (o : Option X) → is_some o ≡ true → is_some (cond b (Some x) o) ≡ true
  some_either true x o is = refl
  some_either false x o is = is

  pub place_found : {X : Type 0} (p : Path) (es : List (Path × X)) → is_some (find path_cmp p es) ≡ true → is_some (find path_cmp (moved_path from to p) (moved_entries from to es)) ≡ true
  place_found p [] is = cc
  place_found {X} p (e ∷ es) is = by (eq_by_cmp path_cmp p e.0) refl is (place_found p es)
    where
      by : (b : Bool) → eq_by_cmp path_cmp p e.0 ≡ b → is_some (cond b (Some e.1) (find path_cmp p es)) ≡ true → (is_some (find path_cmp p es) ≡ true → is_some (find path_cmp (moved_path from to p) (moved_entries from to es)) ≡ true) → is_some (find path_cmp (moved_path from to p) (moved_entries from to (e ∷ es))) ≡ true
      by true tie said rest =
          let same : eq_by_cmp path_cmp (moved_path from to p) (moved_path from to e.0) ≡ true = ap (λ (y : Path). eq_by_cmp path_cmp (moved_path from to y) (moved_path from to e.0)) (path_exact p e.0 (equal (path_cmp p e.0) tie)) ∙ ap is_eq (tied_itself path_total (moved_path from to e.0)) in
          ap (λ b. is_some (cond b (Some e.1) (find path_cmp (moved_path from to p) (moved_entries from to es)))) same
      by false tie said rest = some_either (eq_by_cmp path_cmp (moved_path from to p) (moved_path from to e.0)) e.1 (find path_cmp (moved_path from to p) (moved_entries from to es)) (rest said)

  -- where something stands, something stands afterwards where that path leads
  pub arrives : {X : Type 0} (m : finite.FinMap path_cmp X) (p : Path) → finite.contains_key m p ≡ true → finite.contains_key (moved from to m) (moved_path from to p) ≡ true
  arrives m p there =
      ap is_some (finite.get-from_entries path_total (moved_entries from to (finite.entries m)) (moved_path from to p))
      ∙ place_found p (finite.entries m) (ap is_some (sym (finite.get-entries m p)) ∙ there)

  length_moved : {X : Type 0} (es : List (Path × X)) → length (moved_entries from to es) ≡ length es
  length_moved [] = refl
  length_moved (e ∷ es) = ap (λ n. suc n) (length_moved es)

  pub moved_len : {X : Type 0} (m : finite.FinMap path_cmp X) → finite.len (moved from to m) ≤ finite.len m
  moved_len m = let a = few_entries (moved_entries from to (finite.entries m)) in let b = length_moved (finite.entries m) in let c = finite.len-entries m in omega (arith, a, b, c)

  pub leads_below : (r : Path) → moved_path from to (from ++ r) ≡ to ++ r
  leads_below r = ap (λ b. cond b (to ++ drop (length from) (from ++ r)) (from ++ r)) (begins_more from r) ∙ ap (λ (x : Path). to ++ x) (drop_front from r)

  pub stays : (p : Path) → begins from p ≡ false → moved_path from to p ≡ p
  stays p h = ap (λ b. cond b (to ++ drop (length from) p) p) h

  pub leads_itself : moved_path from to from ≡ to
  leads_itself = ap (moved_path from to) (sym (append-nil from)) ∙ leads_below [] ∙ append-nil to

  -- a path goes along or stays
  pub lands : (p : Path) → ((r : Path) × (p ≡ from ++ r) × (moved_path from to p ≡ to ++ r)) ⊎ ((begins from p ≡ false) × (moved_path from to p ≡ p))
  lands p = elim (bool_cases (begins from p)) [
    | inl h ↦ inl (drop (length from) p, begun_more from p h, ap (λ b. cond b (to ++ drop (length from) p) p) h)
    | inr h ↦ inr (h, stays p h)
  ]

off_removed : {X : Type 0} (m : finite.FinMap path_cmp X) (p q : Path) → q ≢ p → finite.get (finite.remove m p) q ≡ finite.get m q
off_removed m p q apart = finite.get-remove path_total m p q ∙ by (eq_by_cmp path_cmp q p) refl
  where
    by : (b : Bool) → eq_by_cmp path_cmp q p ≡ b → cond b None (finite.get m q) ≡ finite.get m q
    by true tie = absurd (apart (path_exact q p (equal (path_cmp q p) tie)))
    by false tie = refl

pub same_option : {X : Type 0} (a b : Option X) → ((x : X) → a ≡ Some x → b ≡ Some x) → ((x : X) → b ≡ Some x → a ≡ Some x) → a ≡ b
same_option (Some x) b f g = sym (f x refl)
same_option None (Some y) f g = g y refl
same_option None None f g = refl

not_below : (p q : Path) → T (is_lt (path_cmp p q)) → q ≡ p → ⊥
not_below p q below same = subst (λ o. T (is_lt o)) (ap (path_cmp p) same ∙ equal (path_cmp p p) (ap is_eq (tied_itself path_total p))) below

not_tied : (p q : Path) → p ≢ q → eq_by_cmp path_cmp p q ≡ false
not_tied p q apart = elim (bool_cases (eq_by_cmp path_cmp p q)) [
  | inl tie ↦ absurd (apart (path_exact p q (equal (path_cmp p q) tie)))
  | inr off ↦ off
]

-- what leads to the new path is the old one, where nothing is at or below the new one
pub led_back : (from to q : Path) → moved_path from to q ≡ to → begins to q ≡ false → q ≡ from
led_back from to q is other = elim (lands from to q) [
  | inl a ↦ a.1 ∙ ap (λ (z : Path). from ++ z) (sym (drop_front to a.0) ∙ ap (λ (z : Path). drop (length to) z) (sym a.2 ∙ is) ∙ ap (λ (z : Path). drop (length to) z) (sym (append-nil to)) ∙ drop_front to []) ∙ append-nil from
  | inr a ↦ absurd (let k : true ≡ false = sym (begins_itself to) ∙ ap (begins to) (sym (sym a.1 ∙ is)) ∙ other in cc)
]

-- ---- where nothing stands at or below the new path

-- no two paths lead to one
pub led_apart : (from to p q : Path) → begins to p ≡ false → begins to q ≡ false → moved_path from to p ≡ moved_path from to q → p ≡ q
led_apart from to p q at at' same = elim (lands from to p) [
  | inl a ↦ elim (lands from to q) [
    | inl b ↦ (
        let r : a.0 ≡ b.0 = sym (drop_front to a.0) ∙ ap (λ (z : Path). drop (length to) z) (sym a.2 ∙ same ∙ b.2) ∙ drop_front to b.0 in
        a.1 ∙ ap (λ (z : Path). from ++ z) r ∙ sym b.1)
    | inr b ↦ absurd (meets q at' a.0 (sym b.1 ∙ sym same ∙ a.2))
  ]
  | inr a ↦ elim (lands from to q) [
    | inl b ↦ absurd (meets p at b.0 (sym a.1 ∙ same ∙ b.2))
    | inr b ↦ sym a.1 ∙ same ∙ b.1
  ]
]
  where
    meets : (p : Path) → begins to p ≡ false → (r : Path) → p ≡ to ++ r → ⊥
    meets p at r is = let k : true ≡ false = sym (begins_more to r) ∙ ap (begins to) (sym is) ∙ at in cc

module _ {X : Type 0} (from to : Path) (m : finite.FinMap path_cmp X) (spare : (p : Path) (x : X) → finite.get m p ≡ Some x → begins to p ≡ false) where
  -- what stands at a path stands afterwards where it leads
  pub leads_to : (p : Path) (x : X) → finite.get m p ≡ Some x → finite.get (moved from to m) (moved_path from to p) ≡ Some x
  leads_to p x at =
      let o = some_at (finite.get (moved from to m) (moved_path from to p)) (arrives from to m p (ap is_some at)) in
      let c = came_from from to m (moved_path from to p) o.0 o.1 in
      let same : c.0 ≡ p = led_apart from to c.0 p (spare c.0 o.0 c.1) (spare p x at) c.2 in
      o.1 ∙ sym c.1 ∙ ap (λ (y : Path). finite.get m y) same ∙ at

  -- there are as many
  as_many : (es : List (Path × X)) → T (is_sorted path_cmp es) → AllByRecursion (λ e. begins to e.0 ≡ false) es → finite.len (finite.from_entries {R = path_cmp} (moved_entries from to es)) ≡ length es
  as_many [] rising off = finite.len-empty path_cmp X
  as_many (e ∷ es) rising off =
      let both = split_and (below_all path_cmp e.0 es) (is_sorted path_cmp es) rising in
      let rest = as_many es both.1 off.1 in
      let none : finite.contains_key (finite.from_entries {R = path_cmp} (moved_entries from to es)) (moved_path from to e.0) ≡ false = ap is_some (finite.get-from_entries path_total (moved_entries from to es) (moved_path from to e.0)) ∙ fresh off.0 es both.0 off.1 in
      let one : finite.len (finite.from_entries {R = path_cmp} (moved_entries from to (e ∷ es))) ≡ finite.len (finite.from_entries {R = path_cmp} (moved_entries from to es)) + 1 =
      finite.len-insert path_total (finite.from_entries (moved_entries from to es)) (moved_path from to e.0) e.1
      ∙ ap (λ b. cond b (finite.len (finite.from_entries {R = path_cmp} (moved_entries from to es))) (finite.len (finite.from_entries {R = path_cmp} (moved_entries from to es)) + 1)) none in
      omega (arith, rest, one)
    where
      fresh : begins to e.0 ≡ false → (xs : List (Path × X)) → T (below_all path_cmp e.0 xs) → AllByRecursion (λ x. begins to x.0 ≡ false) xs → is_some (find path_cmp (moved_path from to e.0) (moved_entries from to xs)) ≡ false
      fresh first [] above off = refl
      fresh first (x ∷ xs) above off =
          let both = split_and (is_lt (path_cmp e.0 x.0)) (below_all path_cmp e.0 xs) above in
          let other : eq_by_cmp path_cmp (moved_path from to e.0) (moved_path from to x.0) ≡ false = not_tied (moved_path from to e.0) (moved_path from to x.0) (λ same. not_below e.0 x.0 both.0 (led_apart from to x.0 e.0 off.0 first (sym same))) in
          ap (λ b. is_some (cond b (Some x.1) (find path_cmp (moved_path from to e.0) (moved_entries from to xs)))) other ∙ fresh first xs both.1 off.1

  pub same_len : finite.len (moved from to m) ≡ finite.len m
  same_len =
      let off = all_found path_cmp path_total (λ p x. begins to p ≡ false) (finite.entries m) (finite.entries_sorted m) (λ p x at. spare p x (finite.get-entries m p ∙ at)) in
      as_many (finite.entries m) (finite.entries_sorted m) off ∙ sym (finite.len-entries m)

  -- where nothing else goes along
  pub alone_moved : ((p : Path) (x : X) → finite.get m p ≡ Some x → begins from p ≡ true → p ≡ from) → (v : X) → finite.insert (moved from to m) to v ≡ finite.insert (finite.remove m from) to v
  alone_moved alone v = finite.same_map path_total path_exact _ _ (λ q.
      finite.get-insert path_total (moved from to m) to v q
      ∙ by q (eq_by_cmp path_cmp q to) refl
      ∙ sym (finite.get-insert path_total (finite.remove m from) to v q))
    where
      goes : (q : Path) (x : X) → q ≢ to → finite.get (moved from to m) q ≡ Some x → finite.get (finite.remove m from) q ≡ Some x
      goes q x apart is =
          let c = came_from from to m q x is in
          elim (lands from to c.0) [
            | inl a ↦ absurd (apart (sym c.2 ∙ ap (moved_path from to) (alone c.0 x c.1 (ap (begins from) a.1 ∙ begins_more from a.0)) ∙ leads_itself from to))
            | inr b ↦ (
                let same : c.0 ≡ q = sym b.1 ∙ c.2 in
                let off : q ≢ from = λ own. (let k : true ≡ false = sym (begins_itself from) ∙ ap (begins from) (sym (same ∙ own)) ∙ b.0 in cc) in
                off_removed m from q off ∙ ap (λ (y : Path). finite.get m y) (sym same) ∙ c.1)
          ]

      comes : (q : Path) (x : X) → finite.get (finite.remove m from) q ≡ Some x → finite.get (moved from to m) q ≡ Some x
      comes q x is =
          let r = removed m from q x is in
          elim (bool_cases (begins from q)) [
            | inl k ↦ absurd (r.0 (alone q x r.1 k))
            | inr k ↦ ap (λ (y : Path). finite.get (moved from to m) y) (sym (stays from to q k)) ∙ leads_to q x r.1
          ]

      by : (q : Path) (b : Bool) → eq_by_cmp path_cmp q to ≡ b → cond b (Some v) (finite.get (moved from to m) q) ≡ cond b (Some v) (finite.get (finite.remove m from) q)
      by q true tie = refl
      by q false tie = same_option _ _ (λ x. goes q x (same_key to q false tie refl)) (comes q)

-- ---- the directory

-- nothing stands below a path where nothing stands
pub spare_of : (conf : Conf) (d : Entries) → IsDirectory conf d → (to : Path) → finite.contains_key d to ≡ false → (p : Path) (x : EntryContent) → finite.get d p ≡ Some x → begins to p ≡ false
spare_of conf d h to new p x at = elim (bool_cases (begins to p)) [
  | inl k ↦ absurd (let c : true ≡ false = sym (closed conf d h (drop (length to) p) to (ap (λ (y : Path). finite.contains_key d y) (sym (begun_more to p k)) ∙ ap is_some at)) ∙ new in cc)
  | inr k ↦ k
]

-- nor below an entry without a child
pub alone_of : (conf : Conf) (d : Entries) → IsDirectory conf d → (from : Path) → has_child d from ≡ false → (p : Path) (x : EntryContent) → finite.get d p ≡ Some x → begins from p ≡ true → p ≡ from
alone_of conf d h from leaf p x at below = by (drop (length from) p) (begun_more from p below)
  where
    by : (r : Path) → p ≡ from ++ r → p ≡ from
    by [] is = is ∙ append-nil from
    by (s ∷ r) is = absurd (
        let above = closed conf d h r (from ++ s ∷ []) (ap (λ (y : Path). finite.contains_key d y) (append_assoc from (s ∷ []) r ∙ sym is) ∙ ap is_some at) in
        let o = some_at (finite.get d (from ++ s ∷ [])) above in
        let c : true ≡ false = sym (child_seen d from s o.0 o.1) ∙ leaf in cc)

-- what holds at each path with a number
pub of_numbers : (d : Entries) (m : Numbers) → IsNumbered d m → (P : Path → Type 0) → ((p : Path) (x : EntryContent) → finite.get d p ≡ Some x → P p) → (p : Path) (n : ℕ) → finite.get m p ≡ Some n → P p
of_numbers d m are P each p n at = let o = some_at (finite.get d p) (sym (are.there p) ∙ ap is_some at) in each p o.0 o.1

module _ (conf : Conf) (d : Entries) (from to : Path) (e : EntryContent) (h : IsDirectory conf d) (may : MayMove d from to) (fit : MayStand conf to e) where
  abbrev after : Entries
  after = finite.insert (moved from to d) to e

  there : (p q : Path) → moved_path from to p ≡ q → finite.contains_key d p ≡ true → finite.contains_key after q ≡ true
  there p q is at = ap (λ (x : Path). finite.contains_key after x) (sym is) ∙ put_there (moved from to d) to (moved_path from to p) e (arrives from to d p at)

  -- one with a last step is the entry itself, goes along below it, or stays
  data IsOne (q : Path) (s : RdnKey) (x : EntryContent) : Type 0 where
    Itself : (q ++ s ∷ [] ≡ to) → (e ≡ x) → IsOne q s x
    Along : (r : Path) → (q ≡ to ++ r) → (finite.get d ((from ++ r) ++ s ∷ []) ≡ Some x) → IsOne q s x
    Staying : (begins from (q ++ s ∷ []) ≡ false) → (finite.get d (q ++ s ∷ []) ≡ Some x) → IsOne q s x

  which : (q : Path) (s : RdnKey) (x : EntryContent) → finite.get after (q ++ s ∷ []) ≡ Some x → IsOne q s x
  which q s x is = elim (inserted (moved from to d) to e (q ++ s ∷ []) x is) [
    | inl a ↦ Itself a.0 a.1
    | inr a ↦ came a.0 (came_from from to d (q ++ s ∷ []) x a.1)
  ]
    where
      along : (q ++ s ∷ [] ≢ to) → (p r : Path) → finite.get d p ≡ Some x → p ≡ from ++ r → q ++ s ∷ [] ≡ to ++ r → IsOne q s x
      along apart p r at old new = elim (parted r) [
        | inl none ↦ absurd (apart (new ∙ ap (λ (y : Path). to ++ y) none ∙ append-nil to))
        | inr k ↦ (
            let both = same_from_push q (to ++ k.0) s k.1 (new ∙ ap (λ (y : Path). to ++ y) k.2 ∙ sym (append_assoc to k.0 (k.1 ∷ []))) in
            Along k.0 both.0 (ap (λ (y : RdnKey). finite.get d ((from ++ k.0) ++ y ∷ [])) both.1 ∙ ap (λ (y : Path). finite.get d y) (append_assoc from k.0 (k.1 ∷ []) ∙ ap (λ (y : Path). from ++ y) (sym k.2) ∙ sym old) ∙ at))
      ]

      came : (q ++ s ∷ [] ≢ to) → ((p : Path) × (finite.get d p ≡ Some x) × (moved_path from to p ≡ q ++ s ∷ [])) → IsOne q s x
      came apart c = elim (lands from to c.0) [
        | inl l ↦ along apart c.0 l.0 c.1 l.1 (sym c.2 ∙ l.2)
        | inr l ↦ (
            let same : c.0 ≡ q ++ s ∷ [] = sym l.1 ∙ c.2 in
            Staying (ap (begins from) (sym same) ∙ l.0) (ap (λ (y : Path). finite.get d y) (sym same) ∙ c.1))
      ]

  parent_there : (q : Path) (s : RdnKey) (x : EntryContent) → IsOne q s x → finite.contains_key after q ≡ true
  parent_there q s x (Itself is same) =
      let above : parent_of to ≡ q = ap parent_of (sym is) ∙ parent_is q s in
      there (parent_of to) q (stays from to (parent_of to) may.apart ∙ above) may.parent
  parent_there q s x (Along r is at) = there (from ++ r) q (leads_below from to r ∙ sym is) (h.parent (from ++ r) s x at)
  parent_there q s x (Staying other at) = elim (bool_cases (begins from q)) [
    | inl k ↦ absurd (let c : true ≡ false = sym (begun_longer from q (s ∷ []) k) ∙ other in cc)
    | inr k ↦ there q q (stays from to q k) (h.parent q s x at)
  ]

  last_given : (q : Path) (s : RdnKey) (x : EntryContent) → IsOne q s x → rdn_key_of conf.types x.rdn ≡ s
  last_given q s x (Itself is same) = ap (λ (y : EntryContent). rdn_key_of conf.types y.rdn) (sym same) ∙ fit.last q s (sym is)
  last_given q s x (Along r is at) = h.last (from ++ r) s x at
  last_given q s x (Staying other at) = h.last q s x at

  root_given : (x : EntryContent) → finite.get (moved from to d) [] ≡ Some x → finite.get d [] ≡ Some x
  root_given x is =
      let c = came_from from to d [] x is in
      elim (lands from to c.0) [
        | inl l ↦ absurd (let k : true ≡ false = sym (nil_front to l.0 (sym l.2 ∙ c.2)) ∙ may.below_root in cc)
        | inr l ↦ ap (λ (y : Path). finite.get d y) (sym (sym l.1 ∙ c.2)) ∙ c.1
      ]

  pub moved_kept : IsDirectory conf after
  moved_kept = record {
    good = λ q x is. elim (inserted (moved from to d) to e q x is) [
      | inl a ↦ subst (IsGood conf) a.1 fit.good
      | inr a ↦ (let c = came_from from to d q x a.1 in h.good c.0 x c.1)
    ];
    parent = λ q s x is. parent_there q s x (which q s x is);
    last = λ q s x is. last_given q s x (which q s x is);
    root = λ x is. elim (inserted (moved from to d) to e [] x is) [
      | inl a ↦ ap (λ (y : EntryContent). y.rdn) (sym a.1) ∙ fit.root (sym a.0)
      | inr a ↦ h.root x (root_given x a.1)
    ];
    few = few (finite.len d) (finite.len (moved from to d)) (finite.len after)
        (finite.len-insert path_total (moved from to d) to e ∙ ap (λ b. cond b (finite.len (moved from to d)) (finite.len (moved from to d) + 1)) moves) (moved_len from to d) h.few;
  }
    where
      moves : finite.contains_key (moved from to d) to ≡ true
      moves = ap (λ (y : Path). finite.contains_key (moved from to d) y) (sym (leads_itself from to)) ∙ arrives from to d from may.there

      few : (n k m : ℕ) → m ≡ k → k ≤ n → n ≤ 4294967295 → m ≤ 4294967295
      few n k m is le bound = omega (arith, is, le, bound)

pub all_moved : (conf : Conf) (d : Entries) (from to : Path) (e : EntryContent) → IsDirectory conf d → finite.contains_key d to ≡ false → IsMoved d from to e (finite.insert (moved from to d) to e)
all_moved conf d from to e h new =
    let spare = spare_of conf d h to new in
    record {
      itself = at_key (moved from to d) to e to refl;
      others = λ p x apart at.
          off_key (moved from to d) to e (moved_path from to p) (λ same. apart (led_back from to p same (spare p x at)))
          ∙ leads_to from to d spare p x at;
      only = λ q x apart at. came_from from to d q x (sym (off_key (moved from to d) to e q apart) ∙ at);
    }

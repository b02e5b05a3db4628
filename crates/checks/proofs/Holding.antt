-- Entries by the normal forms of their values, as they are put in.
use Rattle.std.proofs.Common.{◌≡◌, ℕ, Bool, true, false, cond, List, [], ◌∷◌, ◌++◌, map, filter, Option, Some, None, unwrap_or, nat_eq, refl, sym, ap, subst, ◌∙◌, append_assoc}
use Rattle.std.specs.Prelude.{◌||◌}
use Rattle.std.specs.List.{AllByRecursion, IsDistinct}
use Rattle.std.specs.Map.{lookup}
use Rattle.std.specs.Str.{bytes_eq}
use Rattle.std.specs.BTreeMap.{get}
use Rattle.std.specs.Cmp.Lexicographic.{slice_cmp, bytes_decides}
use Rattle.std.specs.Ordering.{nat_cmp, is_eq}
use Rattle.std.specs.FinMap as finite
use Rattle.std.proofs.Common.{eqb-true}
use Rattle.std.proofs.lemmas.List.{append-nil}
use Rattle.std.proofs.lemmas.Map.Text.{is_eq-slice_cmp}
use Rattle.values.specs.Values.{Value}
use Rattle.values.specs.Norms.{has_norm}
use Rattle.values.specs.declared.types.AttributeType.{AttributeType}
use Rattle.paths.specs.Paths.{Path, path_cmp}
use Rattle.schema.specs.Values.{norm_at, are_equal}
use Rattle.schema.specs.Conf.{Conf}
use Rattle.entries.specs.Entries.{IsAttribute, values_of}
use Rattle.entries.specs.StoredEntries.{Entry, EntryAttribute, IsMade, AreNormal, raws, attributes_of, content_of}
use Rattle.entries.proofs.StoredLemmas.{normal_values, equal_stored}
use Rattle.tree.specs.Directories.{Entries, IsDirectory}
use Rattle.tree.specs.Trees.{seen_entries}
use Rattle.tree.proofs.Order.{path_total}
use Rattle.tree.proofs.Views.{all_found}
use Rattle.checks.specs.Sharing.{path_of, has_value}
use Rattle.checks.specs.inner.Holders.{HoldersByNorm, paths_in, paths_at, have_same_norm}

same_bytes : (a b : List ℕ) → bytes_eq a b ≡ true → a ≡ b
same_bytes a b e = (bytes_decides a b).0 e

-- ---- one more

-- a normal form has these entries now, and each other what it had
abbrev pub Updated : HoldersByNorm → HoldersByNorm → List ℕ → List Path → Type 0
Updated m n norm w = (q : List ℕ) → get (slice_cmp nat_cmp) n q ≡ cond (is_eq (slice_cmp nat_cmp norm q)) (Some w) (get (slice_cmp nat_cmp) m q)

abbrev pub Puts : HoldersByNorm → HoldersByNorm → List ℕ → Path → Type 0
Puts m n norm p = (q : List ℕ) → paths_at n q ≡ cond (bytes_eq norm q) (paths_at m q ++ p ∷ []) (paths_at m q)

pub one_put : (m n : HoldersByNorm) (norm : List ℕ) (p : Path) (w : List Path) → w ≡ paths_at m norm ++ p ∷ [] → Updated m n norm w → Puts m n norm p
one_put m n norm p w is update q =
    ap paths_in (update q ∙ ap (λ b. cond b (Some w) (get (slice_cmp nat_cmp) m q)) (is_eq-slice_cmp norm q))
    ∙ by (bytes_eq norm q) refl
  where
    by : (b : Bool) → bytes_eq norm q ≡ b → paths_in (cond b (Some w) (get (slice_cmp nat_cmp) m q)) ≡ cond b (paths_at m q ++ p ∷ []) (paths_at m q)
    by true e = is ∙ ap (λ k. paths_at m k ++ p ∷ []) (same_bytes norm q e)
    by false e = refl

-- ---- those of one entry

abbrev pub once : Bool → Path → List Path
once b p = cond b (p ∷ []) []

apart : (v : Value) (rest : List Value) (q : List ℕ) → AllByRecursion (λ w. have_same_norm v w ≡ false) rest → bytes_eq v.norm q ≡ true → has_norm q rest ≡ false
apart v [] q all is = refl
apart v (w ∷ rest) q all is =
    ap (λ b. b || has_norm q rest) (other (bytes_eq w.norm q) refl) ∙ apart v rest q all.1 is
  where
    other : (b : Bool) → bytes_eq w.norm q ≡ b → bytes_eq w.norm q ≡ false
    other false e = e
    other true e = ap (λ k. bytes_eq k q) (same_bytes w.norm q e ∙ sym (same_bytes v.norm q is)) ∙ ap (bytes_eq v.norm) (sym (same_bytes w.norm q e)) ∙ all.0

pub one_more : (m n : HoldersByNorm) (p : Path) (v : Value) (vs rest : List Value) → vs ≡ v ∷ rest → IsDistinct have_same_norm vs → Puts m n v.norm p
    → (q : List ℕ) → paths_at n q ++ once (has_norm q rest) p ≡ paths_at m q ++ once (has_norm q vs) p
unfolding IsDistinct
one_more m n p v vs rest first distinct puts q =
    ap (λ (ps : List Path). ps ++ once (has_norm q rest) p) (puts q)
    ∙ by (bytes_eq v.norm q) refl
    ∙ ap (λ (ws : List Value). paths_at m q ++ once (has_norm q ws) p) (sym first)
  where
    by : (b : Bool) → bytes_eq v.norm q ≡ b → cond b (paths_at m q ++ p ∷ []) (paths_at m q) ++ once (has_norm q rest) p ≡ paths_at m q ++ once (bytes_eq v.norm q || has_norm q rest) p
    by true e =
        ap (λ c. (paths_at m q ++ p ∷ []) ++ once c p) (apart v rest q (subst (IsDistinct have_same_norm) first distinct).0 e)
        ∙ append-nil (paths_at m q ++ p ∷ [])
        ∙ ap (λ c. paths_at m q ++ once (c || has_norm q rest) p) (sym e)
    by false e = ap (λ c. paths_at m q ++ once (c || has_norm q rest) p) (sym e)

pub distinct_rest : (v : Value) (vs rest : List Value) → vs ≡ v ∷ rest → IsDistinct have_same_norm vs → IsDistinct have_same_norm rest
unfolding IsDistinct
distinct_rest v vs rest first distinct = (subst (IsDistinct have_same_norm) first distinct).1

-- ---- of an entry of a directory

module _ (types : List AttributeType) (t : ℕ) where
  distinct_norms : (vs : List Value) → AreNormal types t vs → IsDistinct (are_equal types t) (raws vs) → IsDistinct have_same_norm vs
  unfolding IsDistinct
  distinct_norms [] normal distinct = tt
  distinct_norms (v ∷ vs) normal distinct = (others vs normal.1 distinct.0, distinct_norms vs normal.1 distinct.1)
    where
      others : (ws : List Value) → AreNormal types t ws → AllByRecursion (λ w. are_equal types t v.raw w ≡ false) (raws ws) → AllByRecursion (λ w. have_same_norm v w ≡ false) ws
      others [] n h = tt
      others (w ∷ ws) n h = ((λ i. bytes_eq (normal.0 i) (n.0 i)) ∙ h.0, others ws n.1 h.1)

  distinct_at : (w : List Value) (attrs : List EntryAttribute) → AllByRecursion (IsAttribute types) (attributes_of attrs) → lookup (nat_eq t) attrs ≡ Some w → IsDistinct (are_equal types t) (raws w)
  distinct_at w [] good is = cc
  distinct_at w (a ∷ attrs) good is = elim (nat_eq t a.0) as (λ b. nat_eq t a.0 ≡ b → cond b (Some a.1) (lookup (nat_eq t) attrs) ≡ Some w → IsDistinct (are_equal types t) (raws w)) [
    | true ↦ λ same at. let here : a.1 ≡ w = cc in subst (λ (vs : List Value). IsDistinct (are_equal types t) (raws vs)) here (subst (λ k. IsDistinct (are_equal types k) (raws a.1)) (sym (eqb-true t a.0 same)) good.0.apart)
    | false ↦ λ same at. distinct_at w attrs good.1 at
  ] refl is

  -- the values of a type that is there
  pub are_values : (w : List Value) (attrs : List EntryAttribute) → Some w ≡ lookup (nat_eq t) attrs → values_of attrs t ≡ w
  are_values w attrs found = ap (λ (o : Option (List Value)). unwrap_or o []) (sym found)

  pub are_normal : (w : List Value) (attrs : List EntryAttribute) → IsMade types attrs → Some w ≡ lookup (nat_eq t) attrs → AreNormal types t w
  are_normal w attrs made found = subst (AreNormal types t) (are_values w attrs found) (normal_values types t attrs made.each)

  -- no two of them have one normal form
  pub are_distinct : (w : List Value) (attrs : List EntryAttribute) → IsMade types attrs → AllByRecursion (IsAttribute types) (attributes_of attrs) → Some w ≡ lookup (nat_eq t) attrs → IsDistinct have_same_norm w
  are_distinct w attrs made good found = distinct_norms w (are_normal w attrs made found) (distinct_at w attrs good (sym found))

  -- ---- entry by entry

  -- those of these entries that have an equal value
  abbrev pub held : List ℕ → List (Path × Entry) → List Path
  held v es = map path_of (filter (has_value types t v) (seen_entries es))

  held_first : (v : List ℕ) (p : Path) (e : Entry) (es : List (Path × Entry)) → IsMade types e.attrs → held v ((p, e) ∷ es) ≡ once (has_norm (norm_at types t v) (values_of e.attrs t)) p ++ held v es
  held_first v p e es made =
      let rest = filter (has_value types t v) (seen_entries es) in
      ap (λ b. map path_of (cond b ((p, content_of e) ∷ rest) rest)) (equal_stored types t v (norm_at types t v) e.attrs made refl) ∙ by (has_norm (norm_at types t v) (values_of e.attrs t))
    where
      by : (b : Bool) → map path_of (cond b ((p, content_of e) ∷ filter (has_value types t v) (seen_entries es)) (filter (has_value types t v) (seen_entries es))) ≡ once b p ++ held v es
      by true = refl
      by false = refl

  module _ (p : Path) (e : Entry) (all es : List (Path × Entry)) (first : all ≡ (p, e) ∷ es) (made : IsMade types e.attrs) where
    pub entry_held : (m n : HoldersByNorm) (w : List Value) → Some w ≡ lookup (nat_eq t) e.attrs → ((q : List ℕ) → paths_at n q ≡ paths_at m q ++ once (has_norm q w) p)
        → (v : List ℕ) → paths_at n (norm_at types t v) ++ held v es ≡ paths_at m (norm_at types t v) ++ held v all
    entry_held m n w found adds v =
        let q : List ℕ = norm_at types t v in
        ap (λ (ps : List Path). ps ++ held v es) (adds q)
        ∙ append_assoc (paths_at m q) (once (has_norm q w) p) (held v es)
        ∙ ap (λ (ws : List Value). paths_at m q ++ (once (has_norm q ws) p ++ held v es)) (sym (are_values w e.attrs found))
        ∙ ap (λ (ps : List Path). paths_at m q ++ ps) (sym (held_first v p e es made))
        ∙ ap (λ (xs : List (Path × Entry)). paths_at m q ++ held v xs) (sym first)

    pub entry_passed : (m : HoldersByNorm) → None ≡ lookup (nat_eq t) e.attrs → (v : List ℕ) → paths_at m (norm_at types t v) ++ held v es ≡ paths_at m (norm_at types t v) ++ held v all
    entry_passed m none v =
        let q : List ℕ = norm_at types t v in
        ap (λ (o : Option (List Value)). paths_at m q ++ (once (has_norm q (unwrap_or o [])) p ++ held v es)) none
        ∙ ap (λ (ps : List Path). paths_at m q ++ ps) (sym (held_first v p e es made))
        ∙ ap (λ (xs : List (Path × Entry)). paths_at m q ++ held v xs) (sym first)

-- what every entry of a directory has
pub all_attributes : (conf : Conf) (d : Entries) → IsDirectory conf d → AllByRecursion (λ e. AllByRecursion (IsAttribute conf.types) e.1.attrs) (finite.entries d)
all_attributes conf d is = all_found path_cmp path_total (λ p e. AllByRecursion (IsAttribute conf.types) e.attrs) (finite.entries d) (finite.entries_sorted d) (λ p e at. (is.good p e (finite.get-entries d p ∙ at)).attrs)

pub lent_attributes : (types : List AttributeType) (es : List (Path × Entry)) → AllByRecursion (λ e. AllByRecursion (IsAttribute types) e.1.attrs) (seen_entries es) → AllByRecursion (λ e. AllByRecursion (IsAttribute types) (attributes_of e.1.attrs)) es
lent_attributes types [] h = tt
lent_attributes types (e ∷ es) h = (h.0, lent_attributes types es h.1)

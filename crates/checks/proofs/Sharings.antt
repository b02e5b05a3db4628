-- Values that several entries have, as they are told one by one.
use Rattle.std.proofs.Common.{◌≡◌, ℕ, Bool, true, false, cond, List, [], ◌∷◌, ◌++◌, map, filter, Option, Some, None, unwrap_or, nat_eq, refl, sym, ap, ◌∙◌, append_assoc}
use Rattle.std.specs.List.{flat_map, list_any}
use Rattle.std.specs.Map.{lookup, values_of}
use Rattle.std.specs.Option.{option_to_list}
use Rattle.std.specs.Cmp.Lexicographic.{slice_cmp}
use Rattle.std.specs.Ordering.{nat_cmp, is_eq}
use Rattle.std.proofs.lemmas.Bool.{or_parts}
use Rattle.values.specs.Values.{Value}
use Rattle.values.specs.declared.types.AttributeType.{AttributeType}
use Rattle.paths.specs.Paths.{Path}
use Rattle.schema.specs.Values.{norm_at}
use Rattle.entries.specs.Entries as entry
use Rattle.entries.specs.StoredEntries.{Entry, AreNormal, IsMade, raws}
use Rattle.entries.proofs.StoredLemmas.{values_raw}
use Rattle.tree.specs.Trees.{seen_entries}
use Rattle.checks.specs.declared.shared_value.SharedValue.{SharedValue}
use Rattle.checks.specs.Sharing.{Placed, holders, begins_sharing, shared_value, shared_at}
use Rattle.checks.specs.inner.Holders.{HoldersByNorm, paths_in, paths_at, shared_from, shared_by, are_several, some_share}
use Rattle.checks.proofs.Holding.{are_values, are_normal}

-- one more, where there is one
pub told : (m : HoldersByNorm) (p : Path) (found new : List SharedValue) (vs rest : List Value) (v : Value) (o : Option SharedValue) → vs ≡ v ∷ rest → o ≡ shared_from m p v → new ≡ found ++ option_to_list o
    → new ++ shared_by m p rest ≡ found ++ shared_by m p vs
told m p found new vs rest v o first is put =
    ap (λ (xs : List SharedValue). xs ++ shared_by m p rest) (put ∙ ap (λ (x : Option SharedValue). found ++ option_to_list x) is)
    ∙ append_assoc found (option_to_list (shared_from m p v)) (shared_by m p rest)
    ∙ ap (λ (ws : List Value). found ++ shared_by m p ws) (sym first)

-- ---- what the map tells

module _ (types : List AttributeType) (all_of : List Placed) (t : ℕ) (m : HoldersByNorm) (known : (v : List ℕ) → paths_at m (norm_at types t v) ≡ holders types all_of t v) (p : Path) where
  abbrev is_told : List ℕ → Bool
  is_told v = begins_sharing p (holders types all_of t v)

  all_told : (vs : List Value) → AreNormal types t vs → shared_by m p vs ≡ map (shared_value types all_of t) (filter is_told (raws vs))
  all_told [] normal = refl
  all_told (v ∷ vs) normal =
      ap (λ (ps : List Path). option_to_list (cond (begins_sharing p ps) (Some (record { value = v.raw; paths = ps })) None) ++ shared_by m p vs) (ap (paths_at m) normal.0 ∙ known v.raw)
      ∙ by (is_told v.raw)
      ∙ ending (is_told v.raw) (all_told vs normal.1)
    where
      by : (b : Bool) → option_to_list (cond b (Some (shared_value types all_of t v.raw)) None) ++ shared_by m p vs ≡ cond b (shared_value types all_of t v.raw ∷ []) [] ++ shared_by m p vs
      by true = refl
      by false = refl

      ending : (b : Bool) → shared_by m p vs ≡ map (shared_value types all_of t) (filter is_told (raws vs)) → cond b (shared_value types all_of t v.raw ∷ []) [] ++ shared_by m p vs ≡ map (shared_value types all_of t) (cond b (v.raw ∷ filter is_told (raws vs)) (filter is_told (raws vs)))
      ending true rest = ap (λ (xs : List SharedValue). shared_value types all_of t v.raw ∷ xs) rest
      ending false rest = rest

  module _ (e : Entry) (all es : List (Path × Entry)) (first : all ≡ (p, e) ∷ es) (found : List SharedValue) where
    abbrev rest_of : List (Path × Entry) → List SharedValue
    rest_of xs = flat_map (shared_at types all_of t) (seen_entries xs)

    pub entry_told : (new : List SharedValue) (w : List Value) → IsMade types e.attrs → Some w ≡ lookup (nat_eq t) e.attrs → new ≡ found ++ shared_by m p w → new ++ rest_of es ≡ found ++ rest_of all
    entry_told new w made is put =
        let here = all_told w (are_normal types t w e.attrs made is) in
        let values = values_raw types t e.attrs ∙ ap raws (are_values types t w e.attrs is) in
        ap (λ (xs : List SharedValue). xs ++ rest_of es) (put ∙ ap (λ (xs : List SharedValue). found ++ xs) here)
        ∙ append_assoc found (map (shared_value types all_of t) (filter is_told (raws w))) (rest_of es)
        ∙ ap (λ (vs : List (List ℕ)). found ++ (map (shared_value types all_of t) (filter is_told vs) ++ rest_of es)) (sym values)
        ∙ ap (λ (xs : List (Path × Entry)). found ++ rest_of xs) (sym first)

    pub entry_untold : None ≡ lookup (nat_eq t) e.attrs → found ++ rest_of es ≡ found ++ rest_of all
    entry_untold none =
        ap (λ (vs : List (List ℕ)). found ++ (map (shared_value types all_of t) (filter is_told vs) ++ rest_of es))
        (ap (λ (o : Option (List Value)). raws (unwrap_or o [])) none ∙ sym (values_raw types t e.attrs))
        ∙ ap (λ (xs : List (Path × Entry)). found ++ rest_of xs) (sym first)

-- ---- where no normal form has several

one_begins_none : (p : Path) (ps : List Path) → are_several ps ≡ false → begins_sharing p ps ≡ false
one_begins_none p [] one = refl
one_begins_none p (q ∷ []) one = refl
one_begins_none p (q ∷ r ∷ more) one = cc

one_found : (at : List ℕ → Bool) (es : List (List ℕ × List Path)) → list_any are_several (values_of es) ≡ false → are_several (paths_in (lookup at es)) ≡ false
one_found at [] none = refl
one_found at (e ∷ es) none =
    let parts = or_parts (are_several e.1) (list_any are_several (values_of es)) none in
    by (at e.0) parts.0 (one_found at es parts.1)
  where
    by : (b : Bool) → are_several e.1 ≡ false → are_several (paths_in (lookup at es)) ≡ false → are_several (paths_in (cond b (Some e.1) (lookup at es))) ≡ false
    by true here rest = here
    by false here rest = rest

module _ (types : List AttributeType) (all_of : List Placed) (t : ℕ) (m : HoldersByNorm) (known : (v : List ℕ) → paths_at m (norm_at types t v) ≡ holders types all_of t v) (none : some_share m ≡ false) where
  begins_none : (p : Path) (v : List ℕ) → begins_sharing p (holders types all_of t v) ≡ false
  begins_none p v =
      let q : List ℕ = norm_at types t v in
      ap (begins_sharing p) (sym (known v)) ∙ one_begins_none p (paths_at m q) (one_found (λ k. is_eq (slice_cmp nat_cmp q k)) m.entries none)

  none_at : (p : Path) (vs : List (List ℕ)) → map (shared_value types all_of t) (filter (λ v. begins_sharing p (holders types all_of t v)) vs) ≡ []
  none_at p [] = refl
  none_at p (v ∷ vs) =
      let rest = filter (λ (w : List ℕ). begins_sharing p (holders types all_of t w)) vs in
      ap (λ b. map (shared_value types all_of t) (cond b (v ∷ rest) rest)) (begins_none p v) ∙ none_at p vs

  pub none_shared : (es : List Placed) → flat_map (shared_at types all_of t) es ≡ []
  none_shared [] = refl
  none_shared (e ∷ es) = ap (λ (xs : List SharedValue). xs ++ flat_map (shared_at types all_of t) es) (none_at e.0 (entry.values_of e.1.attrs t)) ∙ none_shared es

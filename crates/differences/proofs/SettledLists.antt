-- What stays of stored attributes, and what is new, as sets.
use Rattle.std.proofs.Common.{◌≡◌, ℕ, Bool, true, false, cond, not, List, [], ◌∷◌, ◌++◌, map, Some, refl, sym, ap, ◌∙◌}
use Rattle.std.specs.Prelude.{nat_eq, is_some, ◌||◌, filter}
use Rattle.std.specs.BTreeSet.{contains}
use Rattle.std.specs.Cmp.Lexicographic.{slice_cmp}
use Rattle.std.specs.List.{AllByRecursion, list_any}
use Rattle.std.specs.Map.{lookup}
use Rattle.std.specs.Option.{option_map}
use Rattle.std.specs.Ordering.{nat_cmp, is_eq}
use Rattle.std.specs.Str.{bytes_eq}
use Rattle.std.proofs.lemmas.Map.Text.{is_eq-slice_cmp}
use Rattle.values.specs.declared.types.AttributeType.{AttributeType}
use Rattle.values.specs.Norms.{has_norm}
use Rattle.values.specs.Values.{Value}
use Rattle.schema.specs.Values.{norm_at}
use Rattle.entries.specs.Entries.{Attribute, Attributes, has_equal}
use Rattle.entries.specs.StoredEntries.{EntryAttribute, raws, attributes_of, AreNormal}
use Rattle.differences.specs.EntryChanges.{Values, is_fixed_at, users}
use Rattle.differences.specs.AsSets.{settled_values, is_among, settled_attribute, kept_attributes, new_attributes}
use Rattle.differences.specs.inner.Norms.{Norms, HasNormsOf, with_norm_in, without_norm_in}

-- ---- a set of normal forms

-- what an insertion does
abbrev pub IsPut : Norms → Norms → List ℕ → Type 0
IsPut old new norm = (q : List ℕ) → contains (slice_cmp nat_cmp) new q ≡ cond (is_eq (slice_cmp nat_cmp norm q)) true (contains (slice_cmp nat_cmp) old q)

or_front : (a b c : Bool) → (cond a true b || c) ≡ (b || (a || c))
or_front true true c = refl
or_front true false c = refl
or_front false b c = refl

-- one more of those that are to come
pub norms_more : (old new : Norms) (v : Value) (norm : List ℕ) → norm ≡ v.norm → IsPut old new norm → (vs rest : List Value) → vs ≡ v ∷ rest
    → (n : List ℕ) → (contains (slice_cmp nat_cmp) new n || has_norm n rest) ≡ (contains (slice_cmp nat_cmp) old n || has_norm n vs)
norms_more old new v norm is put vs rest first n =
    ap (λ (b : Bool). b || has_norm n rest) (put n ∙ ap (λ (b : Bool). cond b true (contains (slice_cmp nat_cmp) old n)) (is_eq-slice_cmp norm n ∙ ap (λ (m : List ℕ). bytes_eq m n) is))
    ∙ or_front (bytes_eq v.norm n) (contains (slice_cmp nat_cmp) old n) (has_norm n rest)
    ∙ sym (ap (λ (ws : List Value). contains (slice_cmp nat_cmp) old n || has_norm n ws) first)

same_filter : (p q : Value → Bool) → ((v : Value) → p v ≡ q v) → (vs : List Value) → filter p vs ≡ filter q vs
same_filter p q same [] = refl
same_filter p q same (v ∷ vs) = λ i. cond (same v i) (v ∷ same_filter p q same vs i) (same_filter p q same vs i)

pub with_are : (norms : Norms) (others vs : List Value) → HasNormsOf norms others → with_norm_in norms vs ≡ filter (λ v. has_norm v.norm others) vs
with_are norms others vs h = same_filter (λ v. contains (slice_cmp nat_cmp) norms v.norm) (λ v. has_norm v.norm others) (λ v. h.each v.norm) vs

pub without_are : (norms : Norms) (others vs : List Value) → HasNormsOf norms others → without_norm_in norms vs ≡ filter (λ v. not (has_norm v.norm others)) vs
without_are norms others vs h = same_filter (λ v. not (contains (slice_cmp nat_cmp) norms v.norm)) (λ v. not (has_norm v.norm others)) (λ v. ap not (h.each v.norm)) vs

-- ---- stored values, by their bytes

module _ (types : List AttributeType) (t : ℕ) where
  any_is : (vs : List Value) → AreNormal types t vs → (norm raw : List ℕ) → norm ≡ norm_at types t raw → has_norm norm vs ≡ has_equal types t raw (raws vs)
  any_is [] h norm raw is = refl
  any_is (v ∷ vs) h norm raw is = λ i. bytes_eq (h.0 i) (is i) || any_is vs h.1 norm raw is i

  raws_kept : (p : Value → Bool) (q : List ℕ → Bool) (vs : List Value) → AllByRecursion (λ v. p v ≡ q v.raw) vs → raws (filter p vs) ≡ filter q (raws vs)
  raws_kept p q [] h = refl
  raws_kept p q (v ∷ vs) h = ap (λ c. raws (cond c (v ∷ filter p vs) (filter p vs))) h.0 ∙ by (q v.raw) (raws_kept p q vs h.1)
    where
      by : (c : Bool) → raws (filter p vs) ≡ filter q (raws vs) → raws (cond c (v ∷ filter p vs) (filter p vs)) ≡ cond c (v.raw ∷ filter q (raws vs)) (filter q (raws vs))
      by true rest = ap (λ (ws : Values). v.raw ∷ ws) rest
      by false rest = rest

  each_is : (others : List Value) → AreNormal types t others → (vs : List Value) → AreNormal types t vs → AllByRecursion (λ v. has_norm v.norm others ≡ has_equal types t v.raw (raws others)) vs
  each_is others o [] h = tt
  each_is others o (v ∷ vs) h = (any_is others o v.norm v.raw h.0, each_is others o vs h.1)

  each_not : (others : List Value) → AreNormal types t others → (vs : List Value) → AreNormal types t vs → AllByRecursion (λ v. not (has_norm v.norm others) ≡ not (has_equal types t v.raw (raws others))) vs
  each_not others o [] h = tt
  each_not others o (v ∷ vs) h = (ap not (any_is others o v.norm v.raw h.0), each_not others o vs h.1)

  pub settled_are : (before after : List Value) → AreNormal types t before → AreNormal types t after
      → raws (filter (λ v. has_norm v.norm after) before) ++ raws (filter (λ v. not (has_norm v.norm before)) after) ≡ settled_values types t (raws before) (raws after)
  settled_are before after h g = λ i.
      raws_kept (λ v. has_norm v.norm after) (λ v. has_equal types t v (raws after)) before (each_is after g before h) i
      ++ raws_kept (λ v. not (has_norm v.norm before)) (λ v. not (has_equal types t v (raws before))) after (each_not before h after g) i

-- ---- attributes, one by one

pub looked_up : (t : ℕ) (attrs : List EntryAttribute) → lookup (nat_eq t) (attributes_of attrs) ≡ option_map raws (lookup (nat_eq t) attrs)
looked_up t [] = refl
looked_up t (a ∷ attrs) = by (nat_eq t a.0) (looked_up t attrs)
  where
    by : (c : Bool) → lookup (nat_eq t) (attributes_of attrs) ≡ option_map raws (lookup (nat_eq t) attrs) → cond c (Some (raws a.1)) (lookup (nat_eq t) (attributes_of attrs)) ≡ option_map raws (cond c (Some a.1) (lookup (nat_eq t) attrs))
    by true rest = refl
    by false rest = rest

pub among_is : (attrs : Attributes) (t : ℕ) → list_any (λ (x : Attribute). nat_eq t x.0) attrs ≡ is_some (lookup (nat_eq t) attrs)
among_is [] t = refl
among_is (a ∷ attrs) t = by (nat_eq t a.0) (among_is attrs t)
  where
    by : (c : Bool) → list_any (λ (x : Attribute). nat_eq t x.0) attrs ≡ is_some (lookup (nat_eq t) attrs) → (c || list_any (λ (x : Attribute). nat_eq t x.0) attrs) ≡ is_some (cond c (Some a.1) (lookup (nat_eq t) attrs))
    by true rest = refl
    by false rest = rest

module _ (types : List AttributeType) (others : Attributes) (a : Attribute) (rest : Attributes) where
  -- one that users can change, and that stays
  pub kept_next : is_fixed_at types a ≡ false → is_among others a ≡ true
      → users types (kept_attributes types others (a ∷ rest)) ≡ settled_attribute types others a ∷ users types (kept_attributes types others rest)
  kept_next free among =
      ap (λ c. users types (map (settled_attribute types others) (cond c (a ∷ filter (is_among others) rest) (filter (is_among others) rest)))) among
      ∙ ap (λ c. cond (not c) (settled_attribute types others a ∷ users types (kept_attributes types others rest)) (users types (kept_attributes types others rest))) free

  pub kept_gone : is_among others a ≡ false → users types (kept_attributes types others (a ∷ rest)) ≡ users types (kept_attributes types others rest)
  kept_gone among = ap (λ c. users types (map (settled_attribute types others) (cond c (a ∷ filter (is_among others) rest) (filter (is_among others) rest)))) among

  pub kept_fixed : is_fixed_at types a ≡ true → users types (kept_attributes types others (a ∷ rest)) ≡ users types (kept_attributes types others rest)
  kept_fixed fixed = by (is_among others a)
    where
      by : (c : Bool) → users types (map (settled_attribute types others) (cond c (a ∷ filter (is_among others) rest) (filter (is_among others) rest))) ≡ users types (kept_attributes types others rest)
      by false = refl
      by true = ap (λ d. cond (not d) (settled_attribute types others a ∷ users types (kept_attributes types others rest)) (users types (kept_attributes types others rest))) fixed

  -- one that users can change, and that is new
  pub new_next : is_fixed_at types a ≡ false → is_among others a ≡ false → users types (new_attributes others (a ∷ rest)) ≡ a ∷ users types (new_attributes others rest)
  new_next free among =
      ap (λ c. users types (cond (not c) (a ∷ new_attributes others rest) (new_attributes others rest))) among
      ∙ ap (λ c. cond (not c) (a ∷ users types (new_attributes others rest)) (users types (new_attributes others rest))) free

  pub new_known : is_among others a ≡ true → users types (new_attributes others (a ∷ rest)) ≡ users types (new_attributes others rest)
  new_known among = ap (λ c. users types (cond (not c) (a ∷ new_attributes others rest) (new_attributes others rest))) among

  pub new_fixed : is_fixed_at types a ≡ true → users types (new_attributes others (a ∷ rest)) ≡ users types (new_attributes others rest)
  new_fixed fixed = by (is_among others a)
    where
      by : (c : Bool) → users types (cond (not c) (a ∷ new_attributes others rest) (new_attributes others rest)) ≡ users types (new_attributes others rest)
      by true = refl
      by false = ap (λ d. cond (not d) (a ∷ users types (new_attributes others rest)) (users types (new_attributes others rest))) fixed

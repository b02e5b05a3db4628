-- Stored attributes, and what they are without their normal forms.
use Rattle.std.proofs.Common.{◌≡◌, ℕ, ◌<◌, Bool, true, false, cond, List, [], ◌∷◌, ◌++◌, length, refl, sym, ◌∙◌, ap, subst, Option, Some, None, nat_eq, Bor, inl, inr}
use Rattle.std.specs.Prelude.{unwrap_or, ◌||◌, is_some}
use Rattle.std.specs.List.{AllByRecursion, list_any}
use Rattle.std.specs.Option.{option_map, option_copied}
use Rattle.std.specs.Map.{lookup, set_value}
use Rattle.std.specs.Str.{bytes_eq}
use Rattle.std.proofs.lemmas.Bool.{eqb-true, or_cases, or_left, or_right}
use Rattle.std.proofs.lemmas.List.{map-append}
use Rattle.std.proofs.lemmas.Slice.Eq.{bytes_eq-Decides}
use Rattle.indexmap.specs.IndexMap.{insert_entry}
use Rattle.values.specs.declared.types.AttributeType.{AttributeType}
use Rattle.values.specs.Values.{Value}
use Rattle.schema.specs.Values.{norm_at}
use Rattle.entries.specs.Entries.{Attributes, values_of, has_equal, push_value}
use Rattle.entries.specs.StoredEntries.{EntryAttribute, raws, attributes_of, AreNormal, IsMadeAttribute, IsMade}
use Rattle.values.specs.Norms.{has_norm}
use Rattle.entries.proofs.Pushed.{all_push}

lookup_raw : (t : ℕ) (es : List EntryAttribute) → lookup (nat_eq t) (attributes_of es) ≡ option_map raws (lookup (nat_eq t) es)
lookup_raw t [] = refl
lookup_raw t (e ∷ es) = elim (nat_eq t e.0) as (λ b. cond b (Some (raws e.1)) (lookup (nat_eq t) (attributes_of es)) ≡ option_map raws (cond b (Some e.1) (lookup (nat_eq t) es))) [ true ↦ refl | false ↦ lookup_raw t es ]

-- ---- a value put last

push_set : (t : ℕ) (es : List EntryAttribute) (old : List Value) (v : Value) → lookup (nat_eq t) es ≡ Some old → set_value (nat_eq t) es (old ++ v ∷ []) ≡ push_value es t v
unfolding push_value
push_set t [] old v is = cc
push_set t (e ∷ es) old v is = elim (nat_eq t e.0) as (λ b. cond b (Some e.1) (lookup (nat_eq t) es) ≡ Some old → cond b ((e.0, old ++ v ∷ []) ∷ es) (e ∷ set_value (nat_eq t) es (old ++ v ∷ [])) ≡ cond b ((e.0, e.1 ++ v ∷ []) ∷ es) (e ∷ push_value es t v)) [
  | true ↦ λ is. let here : old ≡ e.1 = cc in ap (λ (vs : List Value). (e.0, vs ++ v ∷ []) ∷ es) here
  | false ↦ λ is. ap (λ (xs : List EntryAttribute). e ∷ xs) (push_set t es old v is)
] is

push_insert : (t : ℕ) (es : List EntryAttribute) (v : Value) → lookup (nat_eq t) es ≡ None → insert_entry nat_eq es t (v ∷ []) ≡ push_value es t v
unfolding push_value
push_insert t [] v is = refl
push_insert t (e ∷ es) v is = elim (nat_eq t e.0) as (λ b. cond b (Some e.1) (lookup (nat_eq t) es) ≡ None → cond b ((e.0, v ∷ []) ∷ es) (e ∷ insert_entry nat_eq es t (v ∷ [])) ≡ cond b ((e.0, e.1 ++ v ∷ []) ∷ es) (e ∷ push_value es t v)) [
  | true ↦ λ is. cc
  | false ↦ λ is. ap (λ (xs : List EntryAttribute). e ∷ xs) (push_insert t es v is)
] is

pub pushed_old : (t : ℕ) (es new : List EntryAttribute) (old w : List Value) (v : Value) → lookup (nat_eq t) es ≡ Some old → new ≡ set_value (nat_eq t) es w → w ≡ old ++ v ∷ [] → new ≡ push_value es t v
pushed_old t es new old w v is set items = set ∙ ap (set_value (nat_eq t) es) items ∙ push_set t es old v is

set_same : (t : ℕ) (es : List EntryAttribute) (w : List Value) → lookup (nat_eq t) es ≡ Some w → set_value (nat_eq t) es w ≡ es
set_same t [] w is = cc
set_same t (e ∷ es) w is = elim (nat_eq t e.0) as (λ b. cond b (Some e.1) (lookup (nat_eq t) es) ≡ Some w → cond b ((e.0, w) ∷ es) (e ∷ set_value (nat_eq t) es w) ≡ e ∷ es) [
  | true ↦ λ is. let here : w ≡ e.1 = cc in ap (λ (vs : List Value). (e.0, vs) ∷ es) here
  | false ↦ λ is. ap (λ (xs : List EntryAttribute). e ∷ xs) (set_same t es w is)
] is

-- values that were lent and not changed
pub kept_same : (t : ℕ) (es new : List EntryAttribute) (w : List Value) → lookup (nat_eq t) es ≡ Some w → new ≡ set_value (nat_eq t) es w → new ≡ es
kept_same t es new w is set = set ∙ set_same t es w is

pub put_old : (put : Bool) (t : ℕ) (es new : List EntryAttribute) (old w : List Value) (v : Value) → lookup (nat_eq t) es ≡ Some old → new ≡ set_value (nat_eq t) es w → w ≡ cond put (old ++ v ∷ []) old → new ≡ cond put (push_value es t v) es
put_old true t es new old w v there set is = pushed_old t es new old w v there set is
put_old false t es new old w v there set is = kept_same t es new old there (set ∙ ap (set_value (nat_eq t) es) is)

pub pushed_new : (t : ℕ) (es new : List EntryAttribute) (w : List Value) (v : Value) → lookup (nat_eq t) es ≡ None → new ≡ insert_entry nat_eq es t w → w ≡ v ∷ [] → new ≡ push_value es t v
pushed_new t es new w v is set items = set ∙ ap (insert_entry nat_eq es t) items ∙ push_insert t es v is

-- without the normal forms
pub raws_pushed : (es : List EntryAttribute) (t : ℕ) (v : Value) → attributes_of (push_value es t v) ≡ push_value (attributes_of es) t v.raw
unfolding push_value
raws_pushed [] t v = refl
raws_pushed (e ∷ es) t v = elim (nat_eq t e.0) as (λ b. attributes_of (cond b ((e.0, e.1 ++ v ∷ []) ∷ es) (e ∷ push_value es t v)) ≡ cond b ((e.0, raws e.1 ++ v.raw ∷ []) ∷ attributes_of es) ((e.0, raws e.1) ∷ push_value (attributes_of es) t v.raw)) [
  | true ↦ ap (λ (vs : List (List ℕ)). (e.0, vs) ∷ attributes_of es) (map-append (λ (x : Value). x.raw) e.1 (v ∷ []))
  | false ↦ ap (λ (xs : Attributes). (e.0, raws e.1) ∷ xs) (raws_pushed es t v)
]

-- ---- normal forms

module _ (types : List AttributeType) (t : ℕ) where
  abbrev Each : List EntryAttribute → Type 0
  Each es = AllByRecursion (IsMadeAttribute types) es

  each_pushed : (es : List EntryAttribute) (v : Value) → Each es → t < length types → v.norm ≡ norm_at types t v.raw → Each (push_value es t v)
  unfolding push_value
  each_pushed [] v all known made = (record { known = known; normal = (made, tt) }, tt)
  each_pushed (e ∷ es) v all known made = elim (nat_eq t e.0) as (λ b. nat_eq t e.0 ≡ b → Each (cond b ((e.0, e.1 ++ v ∷ []) ∷ es) (e ∷ push_value es t v))) [
    | true ↦ λ same. (record { known = all.0.known; normal = all_push (λ (x : Value). x.norm ≡ norm_at types e.0 x.raw) e.1 v all.0.normal (subst (λ k. v.norm ≡ norm_at types k v.raw) (eqb-true t e.0 same) made) }, all.1)
    | false ↦ λ same. (all.0, each_pushed es v all.1 known made)
  ] refl

  pub made_pushed : (es : List EntryAttribute) (v : Value) → IsMade types es → t < length types → v.norm ≡ norm_at types t v.raw → IsMade types (push_value es t v)
  made_pushed es v all known made = record { each = each_pushed es v all.each known made }

  -- a search of the normal forms is one of the values
  pub any_norm : (n : List ℕ) (vs : List Value) → AreNormal types t vs → has_norm n vs ≡ list_any (λ w. bytes_eq (norm_at types t w) n) (raws vs)
  any_norm n [] made = refl
  any_norm n (v ∷ vs) made = λ i. bytes_eq (made.0 i) n || any_norm n vs made.1 i

  normal_found : (es : List EntryAttribute) → Each es → (w : List Value) → lookup (nat_eq t) es ≡ Some w → AreNormal types t w
  normal_found [] all w is = cc
  normal_found (e ∷ es) all w is = elim (nat_eq t e.0) as (λ b. nat_eq t e.0 ≡ b → cond b (Some e.1) (lookup (nat_eq t) es) ≡ Some w → AreNormal types t w) [
    | true ↦ λ same is. let here : e.1 ≡ w = cc in subst (AreNormal types t) here (subst (λ k. AreNormal types k e.1) (sym (eqb-true t e.0 same)) all.0.normal)
    | false ↦ λ same is. normal_found es all.1 w is
  ] refl is

  pub normal_values : (es : List EntryAttribute) → Each es → AreNormal types t (values_of es t)
  normal_values es all = elim (lookup (nat_eq t) es) as (λ o. lookup (nat_eq t) es ≡ o → AreNormal types t (unwrap_or o [])) [
    | None ↦ λ is. tt
    | Some w ↦ λ is. normal_found es all w is
  ] refl

  pub values_raw : (es : List EntryAttribute) → values_of (attributes_of es) t ≡ raws (values_of es t)
  values_raw es = ap (λ o. unwrap_or o []) (lookup_raw t es) ∙ elim (lookup (nat_eq t) es) as (λ o. unwrap_or (option_map raws o) [] ≡ raws (unwrap_or o [])) [ None ↦ refl | Some w ↦ refl ]

  -- what is stored has its normal forms, so this tells whether an equal value is there
  pub equal_stored : (raw : List ℕ) (n : List ℕ) (es : List EntryAttribute) → IsMade types es → n ≡ norm_at types t raw → has_equal types t raw (values_of (attributes_of es) t) ≡ has_norm n (values_of es t)
  equal_stored raw n es all is =
      ap (λ m. list_any (λ w. bytes_eq (norm_at types t w) m) (values_of (attributes_of es) t)) (sym is)
      ∙ ap (list_any (λ w. bytes_eq (norm_at types t w) n)) (values_raw es)
      ∙ sym (any_norm n (values_of es t) (normal_values es all.each))

  any_written : (raw : List ℕ) (vs : List Value) → list_any (λ v. bytes_eq v.raw raw) vs ≡ true → has_equal types t raw (raws vs) ≡ true
  any_written raw [] h = h
  any_written raw (v ∷ vs) h = elim (or_cases (bytes_eq v.raw raw) (list_any (λ x. bytes_eq x.raw raw) vs) h) [
    | inl here ↦
        or_left (bytes_eq (norm_at types t v.raw) (norm_at types t raw)) (has_equal types t raw (raws vs))
        ((bytes_eq-Decides (norm_at types t v.raw) (norm_at types t raw)).1 (ap (norm_at types t) ((bytes_eq-Decides v.raw raw).0 here)))
    | inr later ↦ or_right (bytes_eq (norm_at types t v.raw) (norm_at types t raw)) (has_equal types t raw (raws vs)) (any_written raw vs later)
  ]

  -- what is written the same is equal
  pub written_is_equal : (raw : List ℕ) (es : List EntryAttribute) → list_any (λ v. bytes_eq v.raw raw) (values_of es t) ≡ true → has_equal types t raw (values_of (attributes_of es) t) ≡ true
  written_is_equal raw es h = ap (has_equal types t raw) (values_raw es) ∙ any_written raw (values_of es t) h

pub copied_some : {X : Type 0} (r : Option (Bor X)) → is_some r ≡ is_some (option_copied r)
copied_some None = refl
copied_some (Some x) = refl

-- whether a type is there
pub there_is : (t : ℕ) (es : List EntryAttribute) → is_some (lookup (nat_eq t) es) ≡ list_any (λ (a : ℕ × List (List ℕ)). nat_eq t a.0) (attributes_of es)
there_is t [] = refl
there_is t (e ∷ es) = elim (nat_eq t e.0) as (λ b. is_some (cond b (Some e.1) (lookup (nat_eq t) es)) ≡ b || list_any (λ (a : ℕ × List (List ℕ)). nat_eq t a.0) (attributes_of es)) [ true ↦ refl | false ↦ there_is t es ]

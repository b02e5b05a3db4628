-- What a map of attributes holds, once one of them has changed.
use Rattle.std.proofs.Common.{◌≡◌, ℕ, Bool, true, false, cond, List, [], ◌∷◌, ◌++◌, Some, None, refl, sym, ap, subst, ◌∙◌, nat_eq}
use Rattle.std.specs.List.{AllByRecursion, IsDistinct}
use Rattle.std.specs.Map.{lookup, set_value, keys_of}
use Rattle.std.proofs.lemmas.Cmp.{nat_eq_equiv}
use Rattle.std.proofs.lemmas.List.{append_assoc}
use Rattle.indexmap.specs.IndexMap.{insert_entry}
use Rattle.values.specs.Values.{Value}
use Rattle.entries.specs.Entries.{push_value}
use Rattle.entries.specs.Modifies.{set_values}
use Rattle.entries.specs.StoredEntries.{EntryAttribute, StoredAttributes}
use Rattle.entries.proofs.StoredLemmas.{kept_same, pushed_old, pushed_new, put_old}
use Rattle.entries.proofs.ModifyLemmas.{set_again}

-- values in place of those that a type has
entry_set : {X : Type 0} (t : ℕ) (es : List (ℕ × X)) (old w : X) → lookup (nat_eq t) es ≡ Some old → insert_entry nat_eq es t w ≡ set_value (nat_eq t) es w
entry_set t [] old w is = absurd cc
entry_set {X} t (e ∷ es) old w is = elim (nat_eq t e.0) as (λ b. cond b (Some e.1) (lookup (nat_eq t) es) ≡ Some old → cond b ((e.0, w) ∷ es) (e ∷ insert_entry nat_eq es t w) ≡ cond b ((e.0, w) ∷ es) (e ∷ set_value (nat_eq t) es w)) [
  | true ↦ λ is. refl
  | false ↦ λ is. ap (λ (xs : List (ℕ × X)). e ∷ xs) (entry_set t es old w is)
] is

module _ (t : ℕ) (es : List EntryAttribute) (a : StoredAttributes) (view : record { entries = es } ≡ a) (new : List EntryAttribute) where
  abbrev entries_are : es ≡ a.entries
  entries_are = ap (λ (b : StoredAttributes). b.entries) view

  -- a value was put behind a type that wasn't there
  pub pushed_last : (one : List Value) (v : Value) → lookup (nat_eq t) es ≡ None → new ≡ insert_entry nat_eq es t one → one ≡ v ∷ [] → new ≡ push_value a.entries t v
  pushed_last one v none set is = pushed_new t es new one v none set is ∙ ap (λ (xs : List EntryAttribute). push_value xs t v) entries_are

  -- the values of a type were lent, and came back as others
  module _ (old w : List Value) (there : Some old ≡ lookup (nat_eq t) es) (put_in : new ≡ insert_entry nat_eq es t w) where
    set : new ≡ set_value (nat_eq t) es w
    set = put_in ∙ entry_set t es old w (sym there)

    pub pushed_behind : (v : Value) → w ≡ old ++ v ∷ [] → new ≡ push_value a.entries t v
    pushed_behind v is = pushed_old t es new old w v (sym there) set is ∙ ap (λ (xs : List EntryAttribute). push_value xs t v) entries_are

    pub put_behind : (put : Bool) (v : Value) → w ≡ cond put (old ++ v ∷ []) old → new ≡ cond put (push_value a.entries t v) a.entries
    put_behind put v is = put_old put t es new old w v (sym there) set is ∙ ap (λ (xs : List EntryAttribute). cond put (push_value xs t v) xs) entries_are

    pub stayed : w ≡ old → record { entries = new } ≡ a
    stayed is = ap (λ (xs : List EntryAttribute). record { entries = xs }) (kept_same t es new old (sym there) (set ∙ ap (set_value (nat_eq t) es) is)) ∙ view

  pub taken_out : (w vs : List Value) → new ≡ set_value (nat_eq t) es w → set_values new t vs ≡ set_values a.entries t vs
  taken_out w vs set = ap (λ (xs : List EntryAttribute). set_values xs t vs) set ∙ set_again t es w vs ∙ ap (λ (xs : List EntryAttribute). set_values xs t vs) entries_are

-- ---- copied one after the other

module _ {X : Type 0} where
  amid : (P : ℕ → Type 0) (es more : List (ℕ × X)) (t : ℕ) (w : X) → AllByRecursion P (keys_of (es ++ (t, w) ∷ more)) → P t
  amid P [] more t w h = h.0
  amid P (e ∷ es) more t w h = amid P es more t w h.1

  insert_last : (es more : List (ℕ × X)) (t : ℕ) (v w : X) → IsDistinct nat_eq (keys_of (es ++ (t, w) ∷ more)) → insert_entry nat_eq es t v ≡ es ++ (t, v) ∷ []
  unfolding IsDistinct
  insert_last [] more t v w h = refl
  insert_last (e ∷ es) more t v w h =
      ap (λ b. cond b ((e.0, v) ∷ es) (e ∷ insert_entry nat_eq es t v)) (nat_eq_equiv.symm t e.0 ∙ amid (λ k. nat_eq e.0 k ≡ false) es more t w h.0)
      ∙ ap (λ (xs : List (ℕ × X)). e ∷ xs) (insert_last es more t v w h.1)

  -- one more entry of all
  pub copied_more : (all es more : List (ℕ × X)) (t : ℕ) (v : X) → IsDistinct nat_eq (keys_of all) → es ++ (t, v) ∷ more ≡ all → insert_entry nat_eq es t v ++ more ≡ all
  copied_more all es more t v h is =
      ap (λ (xs : List (ℕ × X)). xs ++ more) (insert_last es more t v v (subst (λ (xs : List (ℕ × X)). IsDistinct nat_eq (keys_of xs)) (sym is) h))
      ∙ append_assoc es ((t, v) ∷ []) more ∙ is

-- What is kept of a list, step by step.
use Rattle.std.proofs.Common.{◌≡◌, ℕ, Bool, true, false, cond, List, [], ◌∷◌, ◌++◌, filter, refl, sym, ap, ◌∙◌, append_assoc}
use Rattle.std.specs.Prelude.{◌&&◌}
use Rattle.std.specs.FinMap as finite
use Rattle.std.proofs.lemmas.List.{append-nil}
use Rattle.std.proofs.lemmas.List.Elements.{filter-append}
use Rattle.paths.specs.Paths.{Path, begins}
use Rattle.entries.specs.Entries.{EntryContent}
use Rattle.entries.specs.StoredEntries.{Entry}
use Rattle.tree.specs.Directories.{Entries}
use Rattle.tree.specs.Trees.{seen_entries}
use Rattle.checks.specs.declared.entry_value.EntryValue.{EntryValue}
use Rattle.checks.specs.EntryValues.{attribute_values}

-- ---- one by one

module _ {X : Type 0} (f : X → Bool) (found : List X) where
  pub put : (x : X) (xs : List X) → f x ≡ true → (found ++ x ∷ []) ++ filter f xs ≡ found ++ filter f (x ∷ xs)
  put x xs is = append_assoc found (x ∷ []) (filter f xs) ∙ ap (λ b. found ++ cond b (x ∷ filter f xs) (filter f xs)) (sym is)

  pub passed : (x : X) (xs : List X) → f x ≡ false → found ++ filter f xs ≡ found ++ filter f (x ∷ xs)
  passed x xs is = ap (λ b. found ++ cond b (x ∷ filter f xs) (filter f xs)) (sym is)

  -- several at once
  pub put_all : (new xs ys : List X) → new ≡ found ++ filter f xs → new ++ filter f ys ≡ found ++ filter f (xs ++ ys)
  put_all new xs ys is = ap (λ (zs : List X). zs ++ filter f ys) is ∙ append_assoc found (filter f xs) (filter f ys) ∙ ap (λ (zs : List X). found ++ zs) (sym (filter-append f xs ys))

  -- none of them
  pub none_put : (xs : List X) → filter f xs ≡ [] → found ≡ found ++ filter f xs
  none_put xs none = sym (ap (λ (zs : List X). found ++ zs) none ∙ append-nil found)

-- where a test of the type fails, a test beside it counts for nothing
pub none_kept : (looked : ℕ → Bool) (f : List ℕ → Bool) (p : Path) (t : ℕ) → looked t ≡ false → (vs : List (List ℕ)) → filter (λ (v : EntryValue). looked v.type_id && f v.value) (attribute_values p (t, vs)) ≡ []
none_kept looked f p t is [] = refl
none_kept looked f p t is (v ∷ vs) =
    let rest : List EntryValue = filter (λ (w : EntryValue). looked w.type_id && f w.value) (attribute_values p (t, vs)) in
    ap (λ b. cond (b && f v) (record { path = p; type_id = t; value = v } ∷ rest) rest) is ∙ none_kept looked f p t is vs

-- ---- the entries of a tree

pub all_begin : (es : List (Path × EntryContent)) → filter (λ e. begins [] e.0) es ≡ es
all_begin [] = refl
all_begin (e ∷ es) = ap (λ xs. e ∷ xs) (all_begin es)

pub all_seen : (d : Entries) (items : List (Path × Entry)) (root : Path) → root ≡ [] → seen_entries items ≡ filter (λ e. begins root e.0) (finite.entries d) → seen_entries items ≡ finite.entries d
all_seen d items root top seen = seen ∙ ap (λ (p : Path). filter (λ e. begins p e.0) (finite.entries d)) top ∙ all_begin (finite.entries d)

-- Normal forms of many entries, one entry after the other.
use Rattle.std.proofs.Common.{◌≡◌, ℕ, zero, suc, ◌+◌, ◌<◌, Bool, true, false, ◌&&◌, ◌||◌, nat_eq, List, [], ◌∷◌, length, get_or, take, refl, sym, ap, subst, ◌∙◌, arith}
use Rattle.std.specs.List.{list_any, AllByRecursion}
use Rattle.std.proofs.lemmas.List.{take_more}
use Rattle.std.proofs.lemmas.List.Folds.{list_any-append}
use Rattle.values.specs.declared.types.AttributeType.{AttributeType}
use Rattle.schema.specs.declared.slots.IndexKind.{IndexKind}
use Rattle.entries.specs.StoredEntries.{attributes_of, IsMade}
use Rattle.index_keys.specs.declared.type_norms.Numbered.{Numbered}
use Rattle.index_keys.specs.declared.type_norms.NumberedNorm.{NumberedNorm}
use Rattle.index_keys.specs.EntryKeys.{gives_key, has_key}
use Rattle.index_keys.specs.StoredNorms.{stored_norms}
use Rattle.index_keys.specs.TypeNorms.{has_by, AreNormsOf}
use Rattle.index_keys.proofs.StoredNorms.{norms_are}

or_false : (b : Bool) → (b || false) ≡ b
or_false true = refl
or_false false = refl

any_more : {A : Type 0} (test : A → Bool) (xs : List A) (i : ℕ) (d : A) → i < length xs → list_any test (take (i + 1) xs) ≡ (list_any test (take i xs) || test (get_or xs i d))
any_more test xs i d lt = ap (list_any test) (take_more xs i d lt) ∙ list_any-append test (take i xs) (get_or xs i d ∷ []) ∙ ap (λ b. list_any test (take i xs) || b) (or_false (test (get_or xs i d)))

pub made_at : (P : Numbered → Type 0) (es : List Numbered) (i : ℕ) (e : Numbered) → e ≡ get_or es i e → i < length es → AllByRecursion P es → P e
made_at P es i e is lt all = subst P (sym is) (there es i e lt all)
  where
    there : (xs : List Numbered) (i : ℕ) (d : Numbered) → i < length xs → AllByRecursion P xs → P (get_or xs i d)
    there [] i d lt all = absurd (omega (arith, lt))
    there (x ∷ xs) zero d lt all = all.0
    there (x ∷ xs) (suc i) d lt all = there xs i d (omega (arith, lt)) all.1

pub one_entry : (types : List AttributeType) (t : ℕ) (old new : List NumberedNorm) (es : List Numbered) (i : ℕ) (e : Numbered) (norms : List (List ℕ)) → e ≡ get_or es i e → i < length es
    → norms ≡ stored_norms types e.entry.now.attrs t → IsMade types e.entry.now.attrs
    → ((kind : IndexKind) (q : List ℕ) (n : ℕ) → has_by kind new q n ≡ (has_by kind old q n || (nat_eq n e.number && gives_key kind norms q)))
    → AreNormsOf types (take i es) t old → AreNormsOf types (take (i + 1) es) t new
one_entry types t old new es i e norms is lt are made came so_far kind q n =
    came kind q n
    ∙ ap (λ (ks : List (List ℕ)). has_by kind old q n || (nat_eq n e.number && gives_key kind ks q)) (are ∙ norms_are types e.entry.now.attrs made.each t)
    ∙ ap (λ b. b || test e) (so_far kind q n)
    ∙ ap (λ (x : Numbered). list_any test (take i es) || test x) is
    ∙ sym (any_more test es i e lt)
  where
    test : Numbered → Bool
    test x = nat_eq n x.number && has_key types (attributes_of x.entry.now.attrs) t kind q
